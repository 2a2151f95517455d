-- The shift entry lies from 1 to m, fits, and nothing smaller does; entry 0 is the period. Assumes nothing.
use Rattle.std.specs.Prelude.{◌≡◌, not, List, ℕ, ◌+◌, ◌-◌, ◌≤◌, ◌<◌}
use Rattle.std.proofs.Math.Logic.{⊎_elim}
use Rattle.std.proofs.Math.Bool.{true, false}
use Rattle.std.proofs.Common.{eq-or-lt_of_le}
use native.Mathlib.Omega.{arith}
use borrow.Author.Tests.{ne_eqb, eqb-false, le-leb, lt-leb, not-true}
use Rattle.std.proofs.Math.Dec.{eqb}
use Rattle.std.proofs.Math.ListN.{length}
use Rattle.std.proofs.Math.Seq.{slice}
use Rattle.basics.specs.Lists.{at, same}
use Rattle.basics.specs.laws.Tests.{and_true_both, le_or_lt}
use Rattle.basics.specs.laws.Search.{least_from, least_le, least_passes, least_first, least_ext}
use Rattle.basics.specs.laws.Lists.{slices_same, slices_agree, length-table, at_table}
use Rattle.tables.specs.Shift.{fits_near, fits_far, fits, shift_at, shift_table, period}

-- Both conditions in one reading: after a stop at i the probe may stand s further. What was found equal, behind i, would be equal there too;
-- and what was found unequal, at i, would be another byte
pub record Fits (x : List ℕ) (i s : ℕ) : Type 0 where
  pub agree : (t : ℕ) → i < s + t → s + t < length x → at x t ≡ at x (s + t)
  pub differ : (t : ℕ) → s + t ≡ i → at x t ≡ at x i → ⊥

-- bytes s apart are equal
abbrev pub Apart : List ℕ → ℕ → Type 0
Apart x s = (t : ℕ) → s + t < length x → at x t ≡ at x (s + t)

module _ (x : List ℕ) (s : ℕ) (small : s ≤ length x) where
  pub far_true : Apart x s → fits_far x s ≡ true
  unfolding fits_far
  far_true a =
      slices_same x x 0 (length x - s) s (length x) (length x - s) (omega arith) (omega arith) (omega arith) (omega arith)
      (λ t l. let z : 0 + t ≡ t = omega arith in rw z (a t (omega arith)))

  pub far_told : fits_far x s ≡ true → Apart x s
  unfolding fits_far
  far_told e t l =
      let z : 0 + t ≡ t = omega arith in
      rw z at (slices_agree x x 0 (length x - s) s (length x) (length x - s) (omega arith) (omega arith) (omega arith) (omega arith) e t (omega arith))

  module _ (i : ℕ) (h : i < length x) (l : s ≤ i) where
    near_true : Fits x i s → fits_near x i s ≡ true
    unfolding fits_near
    near_true f =
        let equal : same (slice (i - s + 1) (length x - s) x) (slice (i + 1) (length x) x) ≡ true =
        slices_same x x (i - s + 1) (length x - s) (i + 1) (length x) (length x - 1 - i) (omega arith) (omega arith) (omega arith) (omega arith)
        (λ t u. let e : i + 1 + t ≡ s + (i - s + 1 + t) = omega arith in rw e (f.agree (i - s + 1 + t) (omega arith) (omega arith))) in
        let other : eqb (at x (i - s)) (at x i) ≡ false = ne_eqb (at x (i - s)) (at x i) (f.differ (i - s) (omega arith)) in
        rw (equal, other)

    near_told : fits_near x i s ≡ true → Fits x i s
    unfolding fits_near
    near_told e =
        let both = and_true_both (same (slice (i - s + 1) (length x - s) x) (slice (i + 1) (length x) x)) (not (eqb (at x (i - s)) (at x i))) e in
        record {
          agree = λ t u v.
              let p : i - s + 1 + (s + t - (i + 1)) ≡ t = omega arith in
              let q : i + 1 + (s + t - (i + 1)) ≡ s + t = omega arith in
              rw (p, q)
              at (slices_agree x x (i - s + 1) (length x - s) (i + 1) (length x) (length x - 1 - i) (omega arith) (omega arith) (omega arith) (omega arith) both.0 (s + t - (i + 1)) (omega arith));
          differ = λ t u.
              let p : i - s ≡ t = omega arith in
              rw p at (eqb-false (at x (i - s)) (at x i) (not-true (eqb (at x (i - s)) (at x i)) both.1));
        }

  module _ (i : ℕ) (h : i < length x) where
    pub fits_true : Fits x i s → fits x i s ≡ true
    unfolding fits
    fits_true f =
        ⊎_elim
        (λ (l : s ≤ i). rw (le-leb s i l) (near_true i h l f))
        (λ (l : i < s). rw (lt-leb s i l) (far_true (λ t u. f.agree t (omega arith) u)))
        (le_or_lt s i)

    pub fits_told : fits x i s ≡ true → Fits x i s
    unfolding fits
    fits_told e =
        ⊎_elim
        (λ (l : s ≤ i). near_told i h l (rw (le-leb s i l) at e))
        (λ (l : i < s). record { agree = λ t u v. far_told (rw (lt-leb s i l) at e) t v; differ = λ t u. absurd (omega arith) })
        (le_or_lt s i)

-- THE ENTRY
module _ (x : List ℕ) (i : ℕ) where
  pub shift_pos : 1 ≤ shift_at x i
  unfolding shift_at
  shift_pos = least_from (fits x i) (length x - 1) 1

  pub shift_le : 1 ≤ length x → shift_at x i ≤ length x
  unfolding shift_at
  shift_le some = omega (arith, least_le (fits x i) (length x - 1) 1)

  module _ (h : i < length x) where
    pub shift_fits : Fits x i (shift_at x i)
    unfolding shift_at
    shift_fits =
        ⊎_elim
        (λ (e : shift_at x i ≡ length x). record { agree = λ t u v. absurd (omega arith); differ = λ t u. absurd (omega arith) })
        (λ (l : shift_at x i < length x). fits_told x (shift_at x i) (shift_le (omega arith)) i h (least_passes (fits x i) (length x - 1) 1 (omega arith)))
        (eq-or-lt_of_le (shift_le (omega arith)))

    pub shift_first : (s : ℕ) → 1 ≤ s → s ≤ length x → Fits x i s → shift_at x i ≤ s
    unfolding shift_at
    shift_first s one small f = least_first (fits x i) (length x - 1) 1 s one (fits_true x s small i h f)

-- ENTRY 0 IS THE PERIOD
pub shift_period : (x : List ℕ) → shift_at x 0 ≡ period x
unfolding shift_at period fits
shift_period x = least_ext (fits x 0) (fits_far x) (length x - 1) 1 (λ s one. rw (lt-leb s 0 one))

module _ (x : List ℕ) (some : 1 ≤ length x) where
  pub period_apart : Apart x (period x)
  period_apart t l = (rw (shift_period x) at (shift_fits x 0 some)).agree t (omega (arith, shift_pos x 0, shift_period x)) l

  pub period_first : (s : ℕ) → 1 ≤ s → s ≤ length x → Apart x s → period x ≤ s
  period_first s one small a =
      rw (shift_period x) at (shift_first x 0 some s one small (record { agree = λ t u v. a t v; differ = λ t u. absurd (omega arith) }))

-- the table and its entries
pub length-shift_table : (x : List ℕ) → length (shift_table x) ≡ length x
unfolding shift_table
length-shift_table x = length-table (length x) (shift_at x)

pub at-shift_table : (x : List ℕ) (i : ℕ) → i < length x → at (shift_table x) i ≡ shift_at x i
unfolding shift_table
at-shift_table x i h = at_table (length x) (shift_at x) i h
