-- The remembering scan, step by step. Assumes nothing.
use Rattle.std.specs.Prelude.{◌≡◌, List, [], ◌∷◌}
use Rattle.std.proofs.Math.Path.{refl, sym, ap}
use Rattle.std.proofs.Common.{◌∙◌}
use Prim.Native.Nat.{ℕ, zero, suc, ◌+◌, ◌-◌, ◌≤◌, ◌<◌, zero-le}
use native.Mathlib.Omega.{arith}
use borrow.Author.Tests.{eq-eqb, ne_eqb, le-leb, lt-leb}
use Rattle.std.proofs.Math.ListN.{length}
use Rattle.basics.specs.Lists.{at, same}
use Rattle.basics.specs.laws.Tests.{eqb-case, leb-case}
use Rattle.tables.specs.Suffix.{suffix_at}
use Rattle.scans.specs.Trace.{matched, stopped, Pass, more, window}
use Rattle.scans.specs.Move.{move}
use Rattle.scans.specs.Plain.{plain_from}
use Rattle.scans.specs.Remember.{skips, matches, stops, rule, mem_from, mem_pass, remember, after, mem_scan}
use Rattle.scans.specs.inside.Window.{left_of}
use Rattle.scans.specs.laws.Plain.{plain_case}

module _ (r s i : ℕ) where
  pub rule_skips : 0 < r → r ≤ s → rule r s i ≡ skips
  unfolding rule
  rule_skips p l = rw (ne_eqb r 0 (omega arith), le-leb r s l, rule)

  pub rule_matches : s < r → s ≡ i + 1 → rule r s i ≡ matches
  unfolding rule
  rule_matches l e = rw (ne_eqb r 0 (omega arith), lt-leb r s l, eq-eqb s (i + 1) e, rule)

  pub rule_stops : s < r → (s ≡ i + 1 → ⊥) → rule r s i ≡ stops
  unfolding rule
  rule_stops l n = rw (ne_eqb r 0 (omega arith), lt-leb r s l, ne_eqb s (i + 1) n, rule)

-- the remembering window's steps, a law for each rule
module _ (x y : List ℕ) (R : ℕ → ℕ) (j f i : ℕ) where
  pub step_same : R (j + i) ≡ 0 → at y (j + i) ≡ at x i → mem_from x y R j (suc f) (suc i) ≡ more (mem_from x y R j f i)
  unfolding mem_from rule
  step_same z e = rw (z, eq-eqb (at y (j + i)) (at x i) e, mem_from)

  pub step_diff : R (j + i) ≡ 0 → (at y (j + i) ≡ at x i → ⊥) → mem_from x y R j (suc f) (suc i) ≡ record { end = stopped i; comps = 1; kept = length x - 1 - i }
  unfolding mem_from rule
  step_diff z n = rw (z, ne_eqb (at y (j + i)) (at x i) n, mem_from)

  pub step_skip : 0 < R (j + i) → R (j + i) ≤ suffix_at x i → mem_from x y R j (suc f) (suc i) ≡ mem_from x y R j f (suc i - R (j + i))
  unfolding mem_from
  step_skip p l = rw (rule_skips (R (j + i)) (suffix_at x i) i p l, mem_from)

  pub step_match : suffix_at x i < R (j + i) → suffix_at x i ≡ i + 1 → mem_from x y R j (suc f) (suc i) ≡ record { end = matched; comps = 0; kept = length x }
  unfolding mem_from
  step_match l e = rw (rule_matches (R (j + i)) (suffix_at x i) i l e, mem_from)

  pub step_stop : suffix_at x i < R (j + i) → (suffix_at x i ≡ i + 1 → ⊥) → mem_from x y R j (suc f) (suc i) ≡ record { end = stopped (i - suffix_at x i); comps = 0; kept = length x - 1 - i }
  unfolding mem_from
  step_stop l n = rw (rule_stops (R (j + i)) (suffix_at x i) i l n, mem_from)

  -- the five cases of a step
  pub mem_case : (P : Pass → Type 0)
      → (R (j + i) ≡ 0 → at y (j + i) ≡ at x i → P (more (mem_from x y R j f i)))
      → (R (j + i) ≡ 0 → (at y (j + i) ≡ at x i → ⊥) → P (record { end = stopped i; comps = 1; kept = length x - 1 - i }))
      → (0 < R (j + i) → R (j + i) ≤ suffix_at x i → P (mem_from x y R j f (suc i - R (j + i))))
      → (suffix_at x i < R (j + i) → suffix_at x i ≡ i + 1 → P (record { end = matched; comps = 0; kept = length x }))
      → (suffix_at x i < R (j + i) → (suffix_at x i ≡ i + 1 → ⊥) → P (record { end = stopped (i - suffix_at x i); comps = 0; kept = length x - 1 - i }))
      → P (mem_from x y R j (suc f) (suc i))
  mem_case P same diff skip all stop =
      eqb-case (R (j + i)) 0 (λ t. P (mem_from x y R j (suc f) (suc i)))
      (λ z. eqb-case (at y (j + i)) (at x i) (λ t. P (mem_from x y R j (suc f) (suc i)))
      (λ e. rw (step_same z e) (same z e))
      (λ n. rw (step_diff z n) (diff z n)))
      (λ n₀. leb-case (R (j + i)) (suffix_at x i) (λ t. P (mem_from x y R j (suc f) (suc i)))
      (λ l. let p : 0 < R (j + i) = omega arith in rw (step_skip p l) (skip p l))
      (λ l. eqb-case (suffix_at x i) (i + 1) (λ t. P (mem_from x y R j (suc f) (suc i)))
      (λ e. rw (step_match l e) (all l e))
      (λ n. rw (step_stop l n) (stop l n))))

module _ (x y : List ℕ) (R : ℕ → ℕ) (j : ℕ) where
  -- enough fuel is enough
  pub mem_fuel : (f g k : ℕ) → k ≤ f → k ≤ g → mem_from x y R j f k ≡ mem_from x y R j g k
  unfolding mem_from
  mem_fuel zero zero k h h' = refl
  mem_fuel zero (suc g) zero h h' = refl
  mem_fuel zero (suc g) (suc i) h h' = absurd (omega arith)
  mem_fuel (suc f) zero zero h h' = refl
  mem_fuel (suc f) zero (suc i) h h' = absurd (omega arith)
  mem_fuel (suc f) (suc g) zero h h' = refl
  mem_fuel (suc f) (suc g) (suc i) h h' =
      mem_case x y R j f i (λ w. w ≡ mem_from x y R j (suc g) (suc i))
      (λ z e. ap more (mem_fuel f g i (omega arith) (omega arith)) ∙ sym (step_same x y R j g i z e))
      (λ z n. sym (step_diff x y R j g i z n))
      (λ p l. mem_fuel f g (suc i - R (j + i)) (omega arith) (omega arith) ∙ sym (step_skip x y R j g i p l))
      (λ l s. sym (step_match x y R j g i l s))
      (λ l n. sym (step_stop x y R j g i l n))

  -- what a window needs of the memory lies at its start or above
  pub mem_ext : (Q : ℕ → ℕ) → ((h : ℕ) → j ≤ h → R h ≡ Q h) → (f k : ℕ) → mem_from x y R j f k ≡ mem_from x y Q j f k
  unfolding mem_from
  mem_ext Q s zero k = refl
  mem_ext Q s (suc f) zero = refl
  mem_ext Q s (suc f) (suc i) =
      let q : R (j + i) ≡ Q (j + i) = s (j + i) (omega arith) in
      mem_case x y R j f i (λ w. w ≡ mem_from x y Q j (suc f) (suc i))
      (λ z e. ap more (mem_ext Q s f i) ∙ sym (step_same x y Q j f i (sym q ∙ z) e))
      (λ z n. sym (step_diff x y Q j f i (sym q ∙ z) n))
      (λ p l. mem_ext Q s f (suc i - R (j + i)) ∙ ap (λ (r : ℕ). mem_from x y Q j f (suc i - r)) q ∙ sym (step_skip x y Q j f i (omega arith) (omega arith)))
      (λ l e. sym (step_match x y Q j f i (omega arith) e))
      (λ l n. sym (step_stop x y Q j f i (omega arith) n))

  -- counters stay in range, and what is kept is at most the probe
  pub mem_comps : (f k : ℕ) → (mem_from x y R j f k).comps ≤ k
  unfolding mem_from
  mem_comps zero k = zero-le
  mem_comps (suc f) zero = zero-le
  mem_comps (suc f) (suc i) =
      mem_case x y R j f i (λ w. w.comps ≤ suc i)
      (λ z e. omega (arith, mem_comps f i))
      (λ z n. omega arith)
      (λ p l. omega (arith, mem_comps f (suc i - R (j + i))))
      (λ l s. zero-le)
      (λ l n. zero-le)

  pub mem_kept : (f k : ℕ) → (mem_from x y R j f k).kept ≤ length x
  unfolding mem_from
  mem_kept zero k = omega arith
  mem_kept (suc f) zero = omega arith
  mem_kept (suc f) (suc i) =
      mem_case x y R j f i (λ w. w.kept ≤ length x)
      (λ z e. mem_kept f i)
      (λ z n. omega arith)
      (λ p l. mem_kept f (suc i - R (j + i)))
      (λ l s. omega arith)
      (λ l n. omega arith)

-- a pass ends within its bytes
pub mem_left : (x y : List ℕ) (R : ℕ → ℕ) (j f k : ℕ) → left_of (mem_from x y R j f k).end ≤ k
unfolding mem_from
mem_left x y R j zero k = zero-le
mem_left x y R j (suc f) zero = zero-le
mem_left x y R j (suc f) (suc i) =
    mem_case x y R j f i (λ w. left_of w.end ≤ suc i)
    (λ z e. omega (arith, mem_left x y R j f i))
    (λ z n. omega arith)
    (λ p l. omega (arith, mem_left x y R j f (suc i - R (j + i))))
    (λ l s. zero-le)
    (λ l n. omega arith)

-- the plain pass is the remembering one with nothing remembered
pub plain_mem : (x y : List ℕ) (j k : ℕ) → plain_from x y j k ≡ mem_from x y (λ e. 0) j k k
unfolding plain_from mem_from
plain_mem x y j zero = refl
plain_mem x y j (suc i) =
    plain_case x y j i (λ w. w ≡ mem_from x y (λ e. 0) j (suc i) (suc i))
    (λ e. ap more (plain_mem x y j i) ∙ sym (step_same x y (λ e. 0) j i i refl e))
    (λ n. sym (step_diff x y (λ e. 0) j i i refl n))

-- a scan's step and its end
module _ (x y : List ℕ) (f j : ℕ) where
  pub mem_step : (R : ℕ → ℕ) → j + length x ≤ length y → mem_scan x y R (suc f) j ≡ window (length x) j (mem_pass x y R j) ∷ mem_scan x y (after x y R j) f (j + move x y j (mem_pass x y R j).end)
  unfolding mem_scan
  mem_step R h = rw (le-leb (j + length x) (length y) h, mem_scan)

  pub mem_done : (R : ℕ → ℕ) → length y < j + length x → mem_scan x y R (suc f) j ≡ []
  unfolding mem_scan
  mem_done R h = rw (lt-leb (j + length x) (length y) h, mem_scan)

-- with no fuel left there is no window either
pub mem_end : (x y : List ℕ) (R : ℕ → ℕ) (f j : ℕ) → length y < j + length x → mem_scan x y R f j ≡ []
unfolding mem_scan
mem_end x y R zero j h = refl
mem_end x y R (suc f) j h = mem_done x y f j R h

-- the memory after a store
pub remember-at : (R : ℕ → ℕ) (e v : ℕ) → remember R e v e ≡ v
unfolding remember
remember-at R e v = rw (eq-eqb e e refl, remember)

pub remember_other : (R : ℕ → ℕ) (e v p : ℕ) → (p ≡ e → ⊥) → remember R e v p ≡ R p
unfolding remember
remember_other R e v p n = rw (ne_eqb p e n, remember)
