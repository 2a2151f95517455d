-- What C sees of an answer.
pub mod Seen
-- that equal inputs give equal outcomes
pub mod Once
