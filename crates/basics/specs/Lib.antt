-- Words that every layer uses and no layer owns.
-- the least and the greatest number that passes a test, and how many do
pub mod Search
-- two lists are the same; the table of a function
pub mod Lists
-- a lent room after a call
pub mod Rooms
-- refusals by their numbers
pub mod Refusal
-- the laws about them
pub mod laws
