-- A text put into a lent buffer from a place on, and the place after it. Assumes nothing.
use Rattle.std.specs.Prelude.{List, [], ◌∷◌, ℕ, suc, ◌+◌, ◌-◌, ◌^◌, min, length, set}

-- the buffer d with the bytes of w stored one after another from place p on; a store past the end changes nothing
unfoldable pub put : List ℕ → ℕ → List ℕ → List ℕ
put d p [] = d
put d p (b ∷ w) = put (set d p b) (suc p) w

-- the greatest place that a usize can name; no buffer reaches it
abbrev pub last_place : ℕ
last_place = 2 ^ 64 - 1

-- the place after the bytes of w from place p on, and the last place where that lies further
unfoldable pub after : ℕ → List ℕ → ℕ
after p w = min (p + length w) last_place
