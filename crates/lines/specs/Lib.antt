-- Text in a lent buffer: what a reader must believe.
-- the buffer with a text from a place on, and the place after it
pub mod Put
-- the decimal digits of a number, and the number of some digits
pub mod Digits
-- lines that several texts have
pub mod Line
-- what each public call promises, and that it determines the outcome
pub mod Promise
-- the laws, for the proofs of this crate and of those above it
pub mod laws
