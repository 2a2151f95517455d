-- the pairs: one block more, one owner more, and how many there can be
pub mod Check
-- what holds of each pair
pub mod Each
-- the pairs of an owner bear its id, and those of later owners a higher one
pub mod Owners
-- the numbers of a pair have 32 bits
pub mod Sizes
-- what private functions hand on
pub mod Inside
-- the causes of refusal, one by one
pub mod Refusal
-- from what was found to what the check promises
pub mod Promise
-- equal inputs, equal outcomes
pub mod Determined
