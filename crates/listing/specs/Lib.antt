-- The listing of a draw log: what a reader must believe.
-- the text, line by line
pub mod Listing
-- what the public call promises, and that it determines the outcome
pub mod Promise
-- what the private functions promise each other: no part of a public promise
pub mod Inside
-- the laws about them
pub mod laws
