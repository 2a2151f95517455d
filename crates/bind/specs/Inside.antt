-- The sizes by which the program's functions fit together. Assumes nothing.
use Rattle.std.specs.Prelude.{ℕ, ◌+◌}
use Rattle.binding.specs.Promise.{longest}

-- the most replicates that a log can have, and one more for all that are too many
abbrev pub most : ℕ
most = 64

abbrev pub too_many : ℕ
too_many = most + 1

-- the room for an argument, and for a line that holds one
abbrev pub word_size : ℕ
word_size = 131072

abbrev pub line_size : ℕ
line_size = word_size + longest

-- the room for the blocks
abbrev pub blocks_size : ℕ
blocks_size = 65544
