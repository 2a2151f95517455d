-- Words of the private functions' contracts.
-- where a text position stands in the memory room
pub mod Slots
-- what always holds of that into which a scan looks
pub mod Ready
-- how a window ends; what the window functions take and give
pub mod Window
-- what is counted of the occurrences while a scan runs
pub mod Hits
-- the closest window while a scan runs
pub mod Closest
-- what a whole search gives, before it is put into an answer
pub mod Search
