-- What rests on the order of the owners stands here, so that an edit of that definition is tried on the functions.
-- the text, owner after owner
pub mod Turns
