-- No line is longer than its name and 64 bytes more. Assumes nothing.
use Rattle.std.specs.Prelude.{◌≡◌, List, ℕ, ◌+◌, ◌≤◌, ◌<◌, length}
use Rattle.std.proofs.Common.{arith, length-append}
use Rattle.lines.specs.Line.{numbers_line}
use Rattle.lines.proofs.Line.{numbers-length, numbers_some}
use Rattle.lines.specs.laws.Put.{after_short, after_some}
use Rattle.binding.specs.declared.Message.{Message}
use Rattle.binding.specs.declared.Message.TheVariants.{Bound, Refused, Unread, Unwritten, BadId, Usage}
use Rattle.binding.specs.Said.{bound_word, refused_word, unread_word, unwritten_word, bad_id_word, name_line, usage_line, text_of}
use Rattle.binding.specs.Promise.{longest, Said}

pub name_length : (w name : List ℕ) → length (name_line w name) ≡ 1 + length w + length name
unfolding name_line
name_length w name = simp length-append (omega arith)

module _ {d : List ℕ} {r : ℕ} {d' : List ℕ} where
  pub numbers_short : (w : List ℕ) (m n : ℕ) → m < 4294967296 → n < 4294967296 → Said (numbers_line w m n) d r d' → r ≤ 22 + length w
  numbers_short w m n h l s = omega (arith, s.answer, after_short 0 (numbers_line w m n), numbers-length w m n h l)

  pub name_short : (w name : List ℕ) → Said (name_line w name) d r d' → r ≤ 1 + length w + length name
  name_short w name s = omega (arith, s.answer, after_short 0 (name_line w name), name_length w name)

  -- no line is empty, so an answer of 0 can stand for none
  pub name_some : (w name : List ℕ) → Said (name_line w name) d r d' → 0 < r
  name_some w name s = omega (arith, s.answer, after_some 0 (name_line w name) (omega (arith, name_length w name)))

  pub usage_short : Said usage_line d r d' → r ≤ longest
  unfolding usage_line
  usage_short s = omega (arith, s.answer, after_short 0 usage_line)

-- what is said is a line
pub text_some : (m : Message) → 0 < length (text_of m)
unfolding usage_line
text_some (Bound replicates bytes) = numbers_some bound_word replicates bytes
text_some (Refused refusal entry) = numbers_some refused_word refusal entry
text_some (Unread file) = omega (arith, name_length unread_word file.now)
text_some (Unwritten log) = omega (arith, name_length unwritten_word log.now)
text_some (BadId text) = omega (arith, name_length bad_id_word text.now)
text_some Usage = omega arith
