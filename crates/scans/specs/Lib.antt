-- The two scans of a stream for a probe, in the order of document 01: what a reader must believe.
-- a scan's trace: its windows, and what is read off them
pub mod Trace
-- how far a window moves
pub mod Move
-- the plain scan
pub mod Plain
-- the remembering scan
pub mod Remember
-- where the probe occurs, without any scan; and the multiples of a step among these places
pub mod Occurrences
-- how many trailing bytes of the probe equal the stream, and the window of a trace where most do
pub mod Closeness
-- which refusal, by the causes
pub mod Refusal
-- what each public call promises, and that it determines the outcome
pub mod Promise
-- demands 2 and 3, of the definitions and of the calls
pub mod Demands
-- the eleven starred rows
pub mod Figures
-- what the private functions promise each other: no part of a public promise
pub mod inside
-- the laws, for the proofs of this crate and of those above it
pub mod laws
