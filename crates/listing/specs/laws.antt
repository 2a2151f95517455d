-- What the proofs cite.
-- the pairs in the result room
pub mod Room
-- the text, owner after owner, and what the check's answer says of it
pub mod Text
-- what the check's answer and result room say, with rooms that are large enough
pub mod Answer
-- how long the text can be
pub mod Longest
