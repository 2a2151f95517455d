-- What the proofs cite.
-- an id, digit by digit
pub mod Ids
-- where a folder ends, and how long a name can be
pub mod Beside
-- how long a line can be
pub mod Said
