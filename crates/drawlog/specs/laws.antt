-- Laws, for the proofs of this crate and for the layers above.
-- 32-bit numbers and their bytes
pub mod Number
-- the log's bytes, as the code reads them
pub mod Log
-- the causes, and what a log without any of them is
pub mod Refusal
-- what an accepted log looks like
pub mod Accepted
-- the answers, by their cases, and their agreement
pub mod Promise
-- the reader
pub mod Reader
-- outcomes with one answer are one
pub mod Seen
-- equal inputs, equal outcomes
pub mod Determined
