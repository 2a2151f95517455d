-- Laws, for the proofs of every crate.
-- tests and what they tell
pub mod Tests
-- the least and the greatest number that passes a test
pub mod Search
-- causes of refusal, and the first entry that has one
pub mod Causes
-- equal lists, tables and stretches
pub mod Lists
-- the longest common ending of two lists
pub mod Endings
-- rooms after a call, and while a loop fills them
pub mod Rooms
-- lists laid into a room, one after another
pub mod Inlaid
-- refusals have numbers above 0
pub mod Refusal
