-- The program's own words: no part of a public promise.
-- what the private functions promise each other
pub mod Inside
-- the laws about it
pub mod laws
