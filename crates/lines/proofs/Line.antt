-- How long a line is. Assumes nothing.
use Rattle.std.specs.Prelude.{List, ℕ, ◌+◌, ◌≤◌, ◌<◌, length}
use Rattle.std.proofs.Common.{arith, length-append}
use Rattle.lines.specs.Line.{numbers_line}
use Rattle.lines.proofs.Digits.{digits_word}

pub numbers-length : (w : List ℕ) (m n : ℕ) → m < 4294967296 → n < 4294967296 → length (numbers_line w m n) ≤ 22 + length w
unfolding numbers_line
numbers-length w m n h l = simp length-append (omega (arith, digits_word m h, digits_word n l))

-- and no line is empty
pub numbers_some : (w : List ℕ) (m n : ℕ) → 0 < length (numbers_line w m n)
unfolding numbers_line
numbers_some w m n = simp length-append (omega arith)
