-- The overlap check: what a reader must believe, in the order of document 01.
-- probes, and the pairs that overlap
pub mod Check
-- which refusal, by the causes
pub mod Refusal
-- what the check promises, and that it determines the outcome
pub mod Promise
-- request Two: a hit inside a draw is no overlap
pub mod Overlap
-- what the private functions promise each other: no part of a public promise
pub mod Inside
-- the laws about them
pub mod laws
