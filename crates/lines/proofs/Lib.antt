-- More laws that the layers above may cite. Some of each file rest on how digits follow one another (`followed`); they stand here, each file whole,
-- so that an edit of that definition is tried on the functions.
-- digits: the number itself again, how many, which bytes
pub mod Digits
-- digits written to the end of an array, the last one first
pub mod Spelling
-- how long a line is
pub mod Line
-- digits of some numbers, computed
pub mod Figures
