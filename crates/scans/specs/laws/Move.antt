-- Every move is from 1 to m. Assumes nothing.
use Rattle.std.specs.Prelude.{◌≡◌, refl, List, ℕ, ◌+◌, ◌-◌, ◌≤◌, max, length}
use Rattle.std.proofs.Common.{arith}
use Rattle.basics.specs.Lists.{at}
use Rattle.tables.specs.Shift.{shift_at}
use Rattle.tables.specs.Occurrence.{occurrence_at}
use Rattle.tables.specs.laws.Shift.{shift_pos, shift_le}
use Rattle.tables.specs.laws.Occurrence.{occurrence_le}
use Rattle.scans.specs.Trace.{End, matched, stopped}
use Rattle.scans.specs.Move.{move}

pub move_pos : (x y : List ℕ) (j : ℕ) (e : End) → 1 ≤ move x y j e
unfolding move
move_pos x y j matched = shift_pos x 0
move_pos x y j (stopped i) = omega (arith, shift_pos x i)

pub move_le : (x y : List ℕ) (j : ℕ) (e : End) → 1 ≤ length x → move x y j e ≤ length x
unfolding move
move_le x y j matched some = shift_le x 0 some
move_le x y j (stopped i) some = omega (arith, shift_le x i some, occurrence_le x (at y (j + i)) some)

-- the two cases of a move
pub move_matched : (x y : List ℕ) (j : ℕ) → move x y j matched ≡ shift_at x 0
unfolding move
move_matched x y j = refl

pub move_stopped : (x y : List ℕ) (j i : ℕ) → move x y j (stopped i) ≡ max (shift_at x i) (occurrence_at x (at y (j + i)) - (length x - 1 - i))
unfolding move
move_stopped x y j i = refl
