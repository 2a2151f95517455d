-- One window: the remembering pass ends as the plain one, with no more comparisons, and what it keeps is true. Assumes nothing.
use Rattle.std.specs.Prelude.{◌≡◌, List, length}
use Rattle.std.proofs.Math.Path.{refl, sym}
use Rattle.std.proofs.Common.{◌∙◌, add-suc}
use Prim.Native.Nat.{ℕ, zero, suc, ◌+◌, ◌-◌, ◌≤◌, ◌<◌, zero-le}
use Rattle.std.proofs.Math.Nat.{sub-zero, suc-sub-suc, sub_self}
use native.Mathlib.Omega.{arith}
use Rattle.basics.specs.Lists.{at, same}
use Rattle.tables.specs.Suffix.{suffix_at}
use Rattle.tables.specs.laws.Suffix.{suffix_le}
use Rattle.scans.specs.Trace.{matched, stopped}
use Rattle.scans.specs.Plain.{plain_from}
use Rattle.scans.specs.Remember.{mem_from}
use Rattle.scans.specs.laws.Plain.{plain_case}
use Rattle.scans.specs.laws.Remember.{mem_case}
use Rattle.scans.specs.laws.Run.{run, run_case, run_le_right, run_off, run_trans, run_less, run_sym, suffix_run}

module _ (x y : List ℕ) (j : ℕ) where
  -- the bytes known to be equal below index k, for a window at j
  abbrev pub equal_at : ℕ → ℕ
  equal_at k = run y x (j + k) k

  pub equal_case : (i : ℕ) (P : ℕ → Type 0) → (at y (j + i) ≡ at x i → P (suc (equal_at i))) → ((at y (j + i) ≡ at x i → ⊥) → P 0) → P (equal_at (suc i))
  equal_case i P same diff = rw add-suc (run_case y x (j + i) i P same diff)

  pub equal_yes : (i : ℕ) → at y (j + i) ≡ at x i → equal_at (suc i) ≡ suc (equal_at i)
  equal_yes i e = equal_case i (λ v. v ≡ suc (equal_at i)) (λ e'. refl) (λ n. absurd (n e))

  pub equal_no : (i : ℕ) → (at y (j + i) ≡ at x i → ⊥) → equal_at (suc i) ≡ 0
  equal_no i n = equal_case i (λ v. v ≡ 0) (λ e. absurd (n e)) (λ n'. refl)

  pub equal_off : (k r : ℕ) → r ≤ equal_at k → equal_at k ≡ r + equal_at (k - r)
  equal_off k r h =
      let g : r ≤ k = omega (arith, run_le_right y x (j + k) k) in
      let e : j + k - r ≡ j + (k - r) = omega arith in
      rw e at (run_off y x (j + k) k r h)

  -- r equal bytes passed: the plain window goes on below them, r comparisons on
  pub plain_skip : (k r : ℕ) → r ≤ equal_at k → ((plain_from x y j k).end ≡ (plain_from x y j (k - r)).end) × ((plain_from x y j k).comps ≡ r + (plain_from x y j (k - r)).comps)
  plain_skip k zero h = rw sub-zero (refl, omega arith)
  plain_skip zero (suc r) h = absurd (omega (arith, run_le_right y x (j + 0) 0))
  plain_skip (suc i) (suc r) h =
      plain_case x y j i
      (λ w. (w.end ≡ (plain_from x y j (suc i - suc r)).end) × (w.comps ≡ suc r + (plain_from x y j (suc i - suc r)).comps))
      (λ e. rw (suc-sub-suc i r) (let g = plain_skip i r (omega (arith, equal_yes i e)) in (g.0, omega arith)))
      (λ n. absurd (omega (arith, equal_no i n)))

  -- where all that is left is equal, and where it is not
  pub plain_all : (k : ℕ) → equal_at k ≡ k → (plain_from x y j k).end ≡ matched
  unfolding plain_from
  plain_all k h = (plain_skip k k (omega arith)).0 ∙ rw (sub_self k)

  pub plain_stops : (i s : ℕ) → equal_at (suc i) ≡ s → s ≤ i → (plain_from x y j (suc i)).end ≡ stopped (i - s)
  plain_stops i s h g =
      let e : suc i - s ≡ suc (i - s) = omega arith in
      let z : equal_at (suc (i - s)) ≡ 0 = omega (arith, rw e at (equal_off (suc i) s (omega arith))) in
      (plain_skip (suc i) s (omega arith)).0
      ∙ rw e (plain_case x y j (i - s) (λ w. w.end ≡ stopped (i - s)) (λ b. absurd (omega (arith, equal_yes (i - s) b))) (λ n. refl))

-- a memory is sound: what it holds at e is the length of a common suffix of y[0..e] and x
abbrev pub Sound : List ℕ → List ℕ → (ℕ → ℕ) → Type 0
Sound x y R = (e : ℕ) → R e ≤ run y x (suc e) (length x)

module _ (x y : List ℕ) (R : ℕ → ℕ) (j : ℕ) where
  module _ (sound : Sound x y R) where
    -- the memory's length below the suffix entry: these bytes are equal
    pub skipped : (i : ℕ) → i < length x → R (j + i) ≤ suffix_at x i → R (j + i) ≤ equal_at x y j (suc i)
    skipped i b h =
        rw add-suc
        (run_trans y x x (suc (j + i)) (length x) (suc i) (R (j + i)) (sound (j + i)) (omega (arith, suffix_run x i b, run_sym x x (suc i) (length x))))

    -- the memory's length above the suffix entry: just so many bytes are equal
    pub halted : (i : ℕ) → i < length x → suffix_at x i < R (j + i) → equal_at x y j (suc i) ≡ suffix_at x i
    halted i b h =
        rw (add-suc, suffix_run x i b, run_sym x x (suc i) (length x))
        (run_less y x x (suc (j + i)) (length x) (suc i) (omega (arith, suffix_run x i b, sound (j + i), run_sym x x (suc i) (length x))))

    -- (b) the remembering window ends as the plain one
    pub same_end : (f k : ℕ) → k ≤ f → k ≤ length x → (mem_from x y R j f k).end ≡ (plain_from x y j k).end
    unfolding mem_from plain_from
    same_end zero zero h b = refl
    same_end zero (suc i) h b = absurd (omega arith)
    same_end (suc f) zero h b = refl
    same_end (suc f) (suc i) h b =
        mem_case x y R j f i (λ w. w.end ≡ (plain_from x y j (suc i)).end)
        (λ z e. same_end f i (omega arith) (omega arith) ∙ plain_case x y j i (λ w. (plain_from x y j i).end ≡ w.end) (λ e'. refl) (λ n. absurd (n e)))
        (λ z n. plain_case x y j i (λ w. stopped i ≡ w.end) (λ e. absurd (n e)) (λ n'. refl))
        (λ p l. same_end f (suc i - R (j + i)) (omega arith) (omega arith) ∙ sym (plain_skip x y j (suc i) (R (j + i)) (skipped i (omega arith) l)).0)
        (λ l s. sym (plain_all x y j (suc i) (omega (arith, halted i (omega arith) l))))
        (λ l n. sym (plain_stops x y j i (suffix_at x i) (halted i (omega arith) l) (omega (arith, suffix_le x i (omega arith)))))

    -- (c) with no more comparisons
    pub fewer : (f k : ℕ) → k ≤ f → k ≤ length x → (mem_from x y R j f k).comps ≤ (plain_from x y j k).comps
    unfolding mem_from plain_from
    fewer zero k h b = zero-le
    fewer (suc f) zero h b = zero-le
    fewer (suc f) (suc i) h b =
        mem_case x y R j f i (λ w. w.comps ≤ (plain_from x y j (suc i)).comps)
        (λ z e. plain_case x y j i (λ w. suc (mem_from x y R j f i).comps ≤ w.comps) (λ e'. omega (arith, fewer f i (omega arith) (omega arith))) (λ n. absurd (n e)))
        (λ z n. plain_case x y j i (λ w. 1 ≤ w.comps) (λ e. absurd (n e)) (λ n'. omega arith))
        (λ p l. omega (arith, fewer f (suc i - R (j + i)) (omega arith) (omega arith), (plain_skip x y j (suc i) (R (j + i)) (skipped i (omega arith) l)).1))
        (λ l s. zero-le)
        (λ l n. zero-le)

    -- (a) what is kept is a common suffix of the stream to the window's end and the probe
    pub kept_true : (f k : ℕ) → k ≤ f → k ≤ length x → equal_at x y j (length x) + k ≡ length x + equal_at x y j k → (mem_from x y R j f k).kept ≤ equal_at x y j (length x)
    unfolding mem_from
    kept_true zero k h g q = omega (arith, run_le_right y x (j + k) k)
    kept_true (suc f) zero h g q = omega arith
    kept_true (suc f) (suc i) h g q =
        mem_case x y R j f i (λ w. w.kept ≤ equal_at x y j (length x))
        (λ z e. kept_true f i (omega arith) (omega arith) (omega (arith, equal_yes x y j i e)))
        (λ z n. omega arith)
        (λ p l. let r : R (j + i) ≤ equal_at x y j (suc i) = skipped i (omega arith) l in
        kept_true f (suc i - R (j + i)) (omega arith) (omega arith) (omega (arith, equal_off x y j (suc i) (R (j + i)) r, suffix_le x i (omega arith))))
        (λ l s. omega (arith, halted i (omega arith) l))
        (λ l n. omega arith)
