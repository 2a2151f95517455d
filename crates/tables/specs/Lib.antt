-- The tables of a probe, in the order of document 01: what a reader must believe.
-- entry i: the length of the longest common suffix of x[0..i] and x
pub mod Suffix
-- entry i: the smallest shift that may still show an occurrence after a stop at i
pub mod Shift
-- entry a: how far before the last place byte a stands last
pub mod Occurrence
-- both tables in one room
pub mod Both
-- which refusal, by the causes
pub mod Refusal
-- what each public call promises, and that it determines the outcome
pub mod Promise
-- taken apart, the pairs are the two tables: of the definitions, and of the calls
pub mod Apart
-- how many bytes are compared to fill the suffix table
pub mod Comparisons
-- the starred rows
pub mod Figures
-- what the private functions promise each other: no part of a public promise
pub mod Inside
-- the laws, for the proofs of this crate and of those above it
pub mod laws
