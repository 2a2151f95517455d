-- Laws that rest on where an entry after another is due.
pub mod Due
-- what an accepted log looks like
pub mod Accepted
-- the stretches that the calls answer
pub mod Promise
-- the causes of the whole log, by their cases
pub mod Whole
-- the causes of an entry, by their cases
pub mod Entries
-- the outcomes of the code, by their cases
pub mod Outcomes
