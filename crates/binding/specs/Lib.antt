-- What `bind` says, and how it reads an id: what a reader must believe.
-- an id as text
pub mod Ids
-- the name of a file beside a log
pub mod Beside
-- the lines, word by word
pub mod Said
-- what each public call promises, and that it determines the outcome
pub mod Promise
-- what the private functions promise each other: no part of a public promise
pub mod Inside
-- the laws about them
pub mod laws
