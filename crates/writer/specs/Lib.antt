-- The writer of draw logs: the log that it makes, when it refuses, what it promises, and that reading and writing undo each other.
-- the log that is made of blocks, ids and lengths
pub mod Made
-- the causes of refusal, in the order in which they are tested
pub mod Refusal
-- what the writer promises
pub mod Promise
-- words of private contracts
pub mod Inside
-- the blocks, ids and lengths that an accepted log holds
pub mod Contents
-- the two round trips
pub mod Round
-- the laws about them
pub mod laws
