-- The potential of the remembering scan: the positions that a walk down along the memory stops at. Assumes nothing.
use Rattle.std.specs.Prelude.{◌≡◌, true, false, List, leb, length}
use Rattle.std.proofs.Math.Path.{refl}
use Rattle.std.proofs.Common.{sym, ap, ◌∙◌, add-zero, add-suc, arith, le-leb}
use Prim.Native.Nat.{ℕ, zero, suc, ◌+◌, ◌-◌, ◌≤◌, ◌<◌, zero-le}
use Rattle.std.proofs.Math.Nat.{sub-zero, suc-sub-suc, zero-sub}
use Rattle.std.proofs.lemmas.Bool.{lt-leb}
use Rattle.basics.specs.laws.Tests.{leb-case}
use Rattle.tables.specs.laws.Suffix.{suffix_le}
use Rattle.scans.specs.Remember.{mem_from}
use Rattle.scans.specs.laws.Remember.{mem_case}

-- Walk down from position p − 1, past the next s positions. At a position h below the floor w: stop. With nothing remembered there: count it, and go
-- on below it. With r remembered there: pass over r positions, h the first of them.
unfoldable pub free : ℕ → (ℕ → ℕ) → ℕ → ℕ → ℕ
free w R zero s = 0
free w R (suc h) (suc s) = free w R h s
free w R (suc h) zero = elim (leb w h) [ true ↦ elim (R h) [ zero ↦ suc (free w R h zero) | suc r ↦ free w R h r ] | false ↦ 0 ]

module _ (w : ℕ) (R : ℕ → ℕ) where
  free_case : (h : ℕ) (P : ℕ → Type 0)
      → (h < w → P 0)
      → (w ≤ h → R h ≡ 0 → P (suc (free w R h 0)))
      → ((r : ℕ) → w ≤ h → R h ≡ suc r → P (free w R h r))
      → P (free w R (suc h) 0)
  unfolding free
  free_case h P low zer pos =
      leb-case w h (λ t. P (free w R (suc h) 0))
      (λ l. go (R h) refl l)
      (λ l. rw (lt-leb w h l, free) (low l))
    where
      go : (v : ℕ) → R h ≡ v → w ≤ h → P (free w R (suc h) 0)
      go zero e l = rw (le-leb w h l, e, free) (zer l e)
      go (suc r) e l = rw (le-leb w h l, e, free) (pos r l e)

  free_off : (p s : ℕ) → free w R p s ≡ free w R (p - s) 0
  unfolding free
  free_off zero s = rw zero-sub
  free_off (suc h) zero = rw sub-zero
  free_off (suc h) (suc s) = rw suc-sub-suc (free_off h s)

  pub free_below : (p : ℕ) → p ≤ w → free w R p 0 ≡ 0
  unfolding free
  free_below zero l = refl
  free_below (suc h) l = free_case h (λ v. v ≡ 0) (λ g. refl) (λ g e. absurd (omega arith)) (λ r g e. absurd (omega arith))

  pub free_one : (h : ℕ) → w ≤ h → R h ≡ 0 → free w R (suc h) 0 ≡ suc (free w R h 0)
  free_one h l z = free_case h (λ v. v ≡ suc (free w R h 0)) (λ g. absurd (omega arith)) (λ g e. refl) (λ r g e. absurd (omega arith))

  pub free_skip : (h : ℕ) → w ≤ h → 0 < R h → free w R (suc h) 0 ≡ free w R (suc h - R h) 0
  free_skip h l z =
      free_case h (λ v. v ≡ free w R (suc h - R h) 0)
      (λ g. absurd (omega arith))
      (λ g e. absurd (omega arith))
      (λ r g e. rw (e, suc-sub-suc h r) (free_off h r))

  pub free_le : (p s : ℕ) → free w R p s ≤ p
  unfolding free
  free_le zero s = zero-le
  free_le (suc h) (suc s) = omega (arith, free_le h s)
  free_le (suc h) zero = free_case h (λ v. v ≤ suc h) (λ g. zero-le) (λ g e. omega (arith, free_le h 0)) (λ r g e. omega (arith, free_le h r))

  -- d positions more, with nothing remembered there
  pub free_more : (p d : ℕ) → ((e : ℕ) → p ≤ e → R e ≡ 0) → free w R (p + d) 0 ≤ d + free w R p 0
  free_more p zero z = rw add-zero (omega arith)
  free_more p (suc d) z =
      rw add-suc
      (free_case (p + d) (λ v. v ≤ suc d + free w R p 0)
      (λ g. zero-le)
      (λ g e. omega (arith, free_more p d z))
      (λ r g e. absurd (omega (arith, z (p + d) (omega arith)))))

-- a higher floor leaves less to count
pub free_floor : (w w' : ℕ) (R : ℕ → ℕ) (p s : ℕ) → w ≤ w' → free w' R p s ≤ free w R p s
unfolding free
free_floor w w' R zero s l = zero-le
free_floor w w' R (suc h) (suc s) l = free_floor w w' R h s l
free_floor w w' R (suc h) zero l =
    free_case w' R h (λ v. v ≤ free w R (suc h) 0)
    (λ g. zero-le)
    (λ g e. omega (arith, free_floor w w' R h 0 l, free_one w R h (omega arith) e))
    (λ r g e.
    free_case w R h (λ v. free w' R h r ≤ v)
    (λ g'. absurd (omega arith))
    (λ g' e'. absurd (omega arith))
    (λ r' g' e'. let q : r ≡ r' = omega arith in rw q (free_floor w w' R h r' l)))

-- only what is remembered below p matters
pub free-same : (w : ℕ) (R R' : ℕ → ℕ) (p s : ℕ) → ((e : ℕ) → e < p → R e ≡ R' e) → free w R p s ≡ free w R' p s
unfolding free
free-same w R R' zero s q = refl
free-same w R R' (suc h) (suc s) q = free-same w R R' h s (λ e l. q e (omega arith))
free-same w R R' (suc h) zero q =
    free_case w R h (λ v. v ≡ free w R' (suc h) 0)
    (λ g. sym (free_below w R' (suc h) (omega arith)))
    (λ g e. omega (arith, free-same w R R' h 0 (λ e' l. q e' (omega arith)), free_one w R' h (omega arith) (sym (q h (omega arith)) ∙ e)))
    (λ r g e.
    free_case w R' h (λ v. free w R h r ≡ v)
    (λ g'. absurd (omega arith))
    (λ g' e'. absurd (omega (arith, q h (omega arith))))
    (λ r' g' e'. let u : r ≡ r' = omega (arith, q h (omega arith)) in rw u (free-same w R R' h r' (λ e'' l. q e'' (omega arith)))))

-- a length v stored at e, where nothing was: the walk from e goes on v below
pub free_store : (w : ℕ) (R R' : ℕ → ℕ) (e v : ℕ) → w ≤ e → ((p : ℕ) → p < e → R' p ≡ R p) → R' e ≡ v → R e ≡ 0 → free w R' (suc e) 0 ≡ free w R (suc e - v) 0
free_store w R R' e zero l q s z = rw (sub-zero (suc e)) (free_one w R' e l s ∙ ap suc (free-same w R' R e 0 q) ∙ sym (free_one w R e l z))
free_store w R R' e (suc v) l q s z =
    rw s at (free_skip w R' e l (omega arith))
    ∙ free-same w R' R (suc e - suc v) 0 (λ p h. q p (omega arith))

-- what a window's comparisons are paid from
pub pays : (x y : List ℕ) (R : ℕ → ℕ) (j f k : ℕ) → k ≤ f → k ≤ length x
    → (mem_from x y R j f k).comps + free j R (j + (length x - (mem_from x y R j f k).kept)) 0 ≤ suc (free j R (j + k) 0)
unfolding mem_from
pays x y R j zero k h g = omega (arith, free_below j R (j + (length x - length x)) (omega arith))
pays x y R j (suc f) zero h g = omega (arith, free_below j R (j + (length x - length x)) (omega arith))
pays x y R j (suc f) (suc i) h g =
    mem_case x y R j f i
    (λ w. w.comps + free j R (j + (length x - w.kept)) 0 ≤ suc (free j R (j + suc i) 0))
    (λ z e. rw add-suc (omega (arith, pays x y R j f i (omega arith) (omega arith), free_one j R (j + i) (omega arith) z)))
    (λ z n. let q : length x - (length x - 1 - i) ≡ suc i = omega arith in rw q (omega arith))
    (λ p l.
    let q : suc (j + i) - R (j + i) ≡ j + (suc i - R (j + i)) = omega (arith, suffix_le x i (omega arith)) in
    rw add-suc (omega (arith, pays x y R j f (suc i - R (j + i)) (omega arith) (omega arith), rw q at (free_skip j R (j + i) (omega arith) p))))
    (λ l s. omega (arith, free_below j R (j + (length x - length x)) (omega arith)))
    (λ l n. let q : length x - (length x - 1 - i) ≡ suc i = omega arith in rw q (omega arith))
