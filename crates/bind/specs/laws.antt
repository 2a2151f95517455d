-- What the proofs cite.
-- lengths that are stored one after another, and their sum
pub mod Lengths
