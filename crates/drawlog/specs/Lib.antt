-- The draw log: what its bytes mean, when it is refused, what each call answers, and the reader held open.
-- a 32-bit number among the bytes
pub mod Number
-- the log's sizes, mark and limits; its trailer and its directory entries
pub mod Log
-- the causes of refusal, in the order in which they are tested
pub mod Refusal
-- what each call answers
pub mod Promise
-- the reader held open
pub mod Reader
-- the laws about them
pub mod laws
