-- Taking the pairs apart gives the two tables exactly: a theorem over the definitions, and what it says of the rooms of the calls. Assumes nothing.
use Rattle.std.specs.Prelude.{◌≡◌, List, ℕ, ◌*◌, length, take}
use Rattle.std.proofs.Common.{sym, ap, ◌∙◌, take_at}
use Rattle.basics.specs.Rooms.{front}
use Rattle.tables.specs.Suffix.{suffix_table}
use Rattle.tables.specs.Shift.{shift_table}
use Rattle.tables.specs.Both.{both_tables, firsts, seconds}
use Rattle.tables.specs.Promise.{Written}
use Rattle.tables.specs.laws.Suffix.{length-suffix_table}
use Rattle.tables.specs.laws.Shift.{length-shift_table}
use Rattle.tables.specs.laws.Both.{length-both_tables, suffix_apart, shift_apart}

-- for every probe x
pub record Apart (x : List ℕ) : Type 0 where
  pub numbers : length (both_tables x) ≡ 2 * length x
  pub suffix : firsts (both_tables x) ≡ suffix_table x
  pub shift : seconds (both_tables x) ≡ shift_table x

pub apart : (x : List ℕ) → Apart x
apart x = record { numbers = length-both_tables x; suffix = suffix_apart x; shift = shift_apart x }

-- OF THE CALLS: where `both`, `suffix` and `shift` are accepted, the first of the pairs in the one room are the numbers of the suffix room, and the second
-- those of the shift room
pub record Agreed (x d' s' h' : List ℕ) : Type 0 where
  pub suffix : firsts (take (2 * length x) d') ≡ take (length x) s'
  pub shift : seconds (take (2 * length x) d') ≡ take (length x) h'

-- what an accepted call leaves in front
in_front : {k r : ℕ} {t x d d' : List ℕ} (n : ℕ) → Written k t x d r d' → r ≡ 0 → length t ≡ n → take n d' ≡ t
in_front {k} {r} {t} {x} {d} {d'} n w z e =
    let q : d' ≡ front t d = rw z at w.room in
    ap (take n) q ∙ take_at t _ n e

pub agreed : {a b c : ℕ} {x d s h d' s' h' : List ℕ} → Written 2 (both_tables x) x d a d' → Written 1 (suffix_table x) x s b s' → Written 1 (shift_table x) x h c h'
    → a ≡ 0 → b ≡ 0 → c ≡ 0 → Agreed x d' s' h'
agreed {x = x} u v w za zb zc =
    let both = in_front (2 * length x) u za (length-both_tables x) in
    record {
      suffix = ap firsts both ∙ suffix_apart x ∙ sym (in_front (length x) v zb (length-suffix_table x));
      shift = ap seconds both ∙ shift_apart x ∙ sym (in_front (length x) w zc (length-shift_table x));
    }
