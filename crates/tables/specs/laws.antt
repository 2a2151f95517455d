-- What the layers above may cite: readings of each entry, so that nobody opens a definition.
-- the suffix entry is the greatest k: its bytes agree, and the next differ or do not exist
pub mod Suffix
-- the shift entry lies from 1 to m, fits, and nothing smaller does; entry 0 is the period
pub mod Shift
-- the occurrence entry lies from 1 to m, its byte stands there, and nothing smaller does
pub mod Occurrence
-- the causes, one by one
pub mod Refusal
-- pairs in one room: put together, taken apart, written
pub mod Both
-- what an earlier run of equal bytes tells of the next suffix entry: lemma 4.1 of source 001
pub mod Lemma41
-- the suffix table in linear time: figure 9 of source 001
pub mod Figure9
-- the shift table in linear time, out of the suffix table: figure 11 of source 001
pub mod Figure11
-- the occurrence table, byte after byte
pub mod Seen
-- what the calls give where no cause refuses them
pub mod Promise
-- pairs that stay in their room, and what is there when a table is filled
pub mod Inside
-- equal inputs, equal outcomes
pub mod Determined
