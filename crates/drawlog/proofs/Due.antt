-- Laws of the causes that rest on where an entry after another is due. Assumes nothing.
use Rattle.std.specs.Prelude.{◌≡◌, refl, List, ℕ, zero, suc, ◌+◌, ◌-◌}
use Rattle.std.proofs.Math.Numerals.{unary_clauses}
use Rattle.drawlog.specs.Log.{start_at, length_at}
use Rattle.drawlog.specs.Refusal.{due}

-- THE ENTRY AFTER ANOTHER
pub due-next : (s : List ℕ) (k : ℕ) → due s (suc k) ≡ start_at s k + length_at s k
unfolding due
due-next s k = refl

-- the same of an entry k that is not the first, as the code sees it
pub due-later : (s : List ℕ) (k : ℕ) → (k ≡ 0 → ⊥) → due s k ≡ start_at s (k - 1) + length_at s (k - 1)
due-later s zero h = absurd (h refl)
due-later s (suc k) h = simp unary_clauses (due-next s k)
