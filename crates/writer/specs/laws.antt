-- Laws, for the proofs of this crate.
-- how long the parts of a log are; sums of lengths
pub mod Made
-- the causes, and what inputs without any of them are
pub mod Refusal
-- parts put one after another
pub mod Put
-- what is read in a log that was made
pub mod Reading
-- an accepted log, taken apart and made again
pub mod Remaking
-- the promise, by its cases
pub mod Promise
