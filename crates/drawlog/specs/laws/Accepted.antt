-- What an accepted log looks like: its first block starts at byte 0, its blocks are of whole draws, and its ids rise strictly. That its blocks lie back to back, each within the log, is in proofs/Accepted. Assumes nothing.
use Rattle.std.specs.Prelude.{◌≡◌, List, ℕ, zero, suc, ◌+◌, ◌-◌, ◌≤◌, ◌<◌, ◌%◌}
use Rattle.std.proofs.Common.{sym, ◌∙◌, ⊎_elim, eq-or-lt_of_le, arith, ltb-true}
use Rattle.basics.specs.laws.Tests.{le_or_lt}
use Rattle.basics.specs.laws.Lists.{rising-next}
use Rattle.drawlog.specs.Log.{count, draw_size, id_at, start_at, length_at}
use Rattle.drawlog.specs.laws.Refusal.{Accepted, due_first}

module _ (s : List ℕ) (a : Accepted s) where
  -- BLOCKS: the first starts at byte 0
  pub first_block : start_at s 0 ≡ 0
  first_block = (a.each 0 a.frame.some).joined ∙ due_first s

  -- each has whole draws
  pub whole_draws : (k : ℕ) → k < count s → length_at s k % draw_size ≡ 0
  whole_draws k h = (a.each k h).whole

  -- IDS rise from each entry to the next, and so to any later one
  rises_to : (k : ℕ) → suc k < count s → id_at s k < id_at s (suc k)
  rises_to k h = ltb-true _ _ (sym (rising-next (id_at s) k) ∙ (a.each (suc k) h).up)

  rise : (n k : ℕ) → k + suc n < count s → id_at s k < id_at s (k + suc n)
  rise zero k h = let e : k + 1 ≡ suc k = omega arith in rw e (rises_to k (omega arith))
  rise (suc n) k h =
      let e : k + suc (suc n) ≡ suc (k + suc n) = omega arith in
      rw e (omega (arith, rise n k (omega arith), rises_to (k + suc n) (omega arith)))

  pub ids_rise : (j k : ℕ) → j < k → k < count s → id_at s j < id_at s k
  ids_rise j k l h = let e : j + suc (k - suc j) ≡ k = omega arith in rw e at (rise (k - suc j) j (omega arith))

  -- so no two entries have one id
  pub one_entry : (j k : ℕ) → j < count s → k < count s → id_at s j ≡ id_at s k → j ≡ k
  one_entry j k u h same =
      ⊎_elim
      (λ (l : j ≤ k). ⊎_elim (λ (e : j ≡ k). e) (λ (m : j < k). absurd (omega (arith, ids_rise j k m h))) (eq-or-lt_of_le l))
      (λ (l : k < j). absurd (omega (arith, ids_rise k j l u)))
      (le_or_lt j k)
