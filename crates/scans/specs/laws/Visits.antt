-- The whole scan: the same windows, no more comparisons, and what it can still cost. Assumes nothing.
use Rattle.std.specs.Prelude.{◌≡◌}
use Rattle.std.proofs.Math.Path.{refl}
use Rattle.std.proofs.Common.{sym, ap, ◌∙◌}
use Rattle.std.proofs.Math.Bool.{true, false}
use mathlib.Core.List.{List, ◌∷◌, map}
use Prim.Native.Nat.{ℕ, zero, suc, ◌+◌, ◌-◌, ◌≤◌, ◌<◌, zero-le}
use native.Mathlib.Omega.{arith}
use Rattle.std.proofs.Math.ListN.{length}
use Rattle.basics.specs.laws.Tests.{eqb-case, leb-case}
use Rattle.scans.specs.Trace.{equal_by, Window, comparisons, Visit, visit}
use Rattle.scans.specs.Move.{move}
use Rattle.scans.specs.Plain.{plain_pass, plain_scan}
use Rattle.scans.specs.Remember.{mem_pass, remember, after, mem_scan}
use Rattle.scans.specs.laws.Plain.{plain_step, plain_done}
use Rattle.scans.specs.laws.Remember.{mem_step, mem_done, remember-at, remember_other}
use Rattle.scans.specs.laws.Move.{move_pos}
use Rattle.scans.specs.laws.Run.{run, run_le_right}
use Rattle.scans.specs.laws.Ending.{Sound, same_end, fewer, kept_true}
use Rattle.scans.specs.laws.Free.{free, free_store, free_more, free_floor, pays}

-- WHAT HANGS ON THE VISITS ALONE is the same of the trace without its comparisons
abbrev pub bare : List Visit → List Window
bare vs = map (λ (v : Visit). record { start = v.start; end = v.end; comps = 0; equal = v.equal }) vs

pub by_visits : {A : Type 0} (f : List Window → A) → ((ws : List Window) → f ws ≡ f (bare (map visit ws))) → (vs ws : List Window) → map visit vs ≡ map visit ws
    → f vs ≡ f ws
by_visits f h vs ws e = h vs ∙ ap (λ (l : List Visit). f (bare l)) e ∙ sym (h ws)

-- nothing is remembered at the window's end or above it
abbrev pub Fresh : List ℕ → ℕ → (ℕ → ℕ) → Type 0
Fresh x j R = (e : ℕ) → j + length x ≤ suc e → R e ≡ 0

module _ (x y : List ℕ) (pos : 1 ≤ length x) (R : ℕ → ℕ) (j : ℕ) (sound : Sound x y R) (fresh : Fresh x j R) where
  pub kept_equal : (mem_pass x y R j).kept ≤ run y x (j + length x) (length x)
  kept_equal = kept_true x y R j sound (length x) (length x) (omega arith) (omega arith) (omega arith)

  pub sound_after : Sound x y (after x y R j)
  unfolding remember
  sound_after e =
      eqb-case e (j + length x - 1)
      (λ t. elim t [ true ↦ (mem_pass x y R j).kept | false ↦ R e ] ≤ run y x (suc e) (length x))
      (λ q. let u : suc e ≡ j + length x = omega arith in rw u kept_equal)
      (λ n. sound e)

  pub fresh_after : (d : ℕ) → 1 ≤ d → Fresh x (j + d) (after x y R j)
  fresh_after d h e l = remember_other R (j + length x - 1) _ e (omega arith) ∙ fresh e (omega arith)

  -- the window's end remembered: the walk from there goes on where the window's pass ended
  pub settles : free j (after x y R j) (j + length x) 0 ≡ free j R (j + (length x - (mem_pass x y R j).kept)) 0
  settles =
      let u : suc (j + length x - 1) ≡ j + length x = omega arith in
      let v : j + length x - (mem_pass x y R j).kept ≡ j + (length x - (mem_pass x y R j).kept) = omega (arith, kept_equal, run_le_right y x (j + length x) (length x)) in
      rw (u, v) at
      (free_store j R (after x y R j) (j + length x - 1) (mem_pass x y R j).kept (omega arith)
      (λ p h. remember_other R (j + length x - 1) (mem_pass x y R j).kept p (omega arith))
      (remember-at R (j + length x - 1) (mem_pass x y R j).kept)
      (fresh (j + length x - 1) (omega arith)))

  -- the potential of the next window: the move is added, the equal comparisons are taken off
  pub next-free : (d : ℕ) → 1 ≤ d → (mem_pass x y R j).comps + free (j + d) (after x y R j) (j + d + length x) 0 ≤ suc (d + free j R (j + length x) 0)
  next-free d h =
      let v : j + d + length x ≡ j + length x + d = omega arith in
      omega (
        arith,
        pays x y R j (length x) (length x) (omega arith) (omega arith),
        settles,
        rw (← v) at (free_more j (after x y R j) (j + length x) d (λ e l. fresh_after 1 (omega arith) e (omega arith))),
        free_floor j (j + d) (after x y R j) (j + d + length x) 0 (omega arith),
      )

-- two cases of a scan at j: a window fits, or none does
pub fits-case {ℓ} : (x y : List ℕ) (j : ℕ) (P : Type ℓ) → (j + length x ≤ length y → P) → (length y < j + length x → P) → P
fits-case x y j P = leb-case (j + length x) (length y) (λ t. P)

module _ (x y : List ℕ) (pos : 1 ≤ length x) where
  -- demand 3, first part: the same windows in the same order, each with the same end
  pub same_visits : (f j : ℕ) (R : ℕ → ℕ) → Sound x y R → Fresh x j R → map visit (mem_scan x y R f j) ≡ map visit (plain_scan x y f j)
  unfolding mem_scan plain_scan
  same_visits zero j R s r = refl
  same_visits (suc f) j R s r =
      fits-case x y j _
      (λ h.
      let e : (mem_pass x y R j).end ≡ (plain_pass x y j).end = same_end x y R j s (length x) (length x) (omega arith) (omega arith) in
      let d : ℕ = move x y j (plain_pass x y j).end in
      rw (mem_step x y f j R h, plain_step x y f j h, e)
      (ap (λ (l : List Visit). record { start = j; end = (plain_pass x y j).end; equal = equal_by (length x) (plain_pass x y j).end } ∷ l)
      (same_visits f (j + d) (after x y R j) (sound_after x y pos R j s r) (fresh_after x y pos R j s r d (move_pos x y j (plain_pass x y j).end)))))
      (λ h. rw (mem_done x y f j R h, plain_done x y f j h))

  -- second part: never more comparisons
  pub no_more : (f j : ℕ) (R : ℕ → ℕ) → Sound x y R → Fresh x j R → comparisons (mem_scan x y R f j) ≤ comparisons (plain_scan x y f j)
  unfolding mem_scan plain_scan comparisons
  no_more zero j R s r = zero-le
  no_more (suc f) j R s r =
      fits-case x y j _
      (λ h.
      let e : (mem_pass x y R j).end ≡ (plain_pass x y j).end = same_end x y R j s (length x) (length x) (omega arith) (omega arith) in
      let d : ℕ = move x y j (plain_pass x y j).end in
      let ih = no_more f (j + d) (after x y R j) (sound_after x y pos R j s r) (fresh_after x y pos R j s r d (move_pos x y j (plain_pass x y j).end)) in
      rw (mem_step x y f j R h, plain_step x y f j h, e) (omega (arith, ih, fewer x y R j s (length x) (length x) (omega arith) (omega arith))))
      (λ h. rw (mem_done x y f j R h) zero-le)

  none_left : (f j : ℕ) (R : ℕ → ℕ) → length y < j + length x → comparisons (mem_scan x y R f j) ≡ 0
  unfolding mem_scan comparisons
  none_left zero j R h = refl
  none_left (suc f) j R h = rw (mem_done x y f j R h)

  -- third part: what the scan from window j on can still cost
  pub bounded : (f j : ℕ) (R : ℕ → ℕ) → Sound x y R → Fresh x j R
      → comparisons (mem_scan x y R f j) ≤ free j R (j + length x) 0 + (length y - (j + length x)) + (suc (length y) - (j + length x))
  unfolding mem_scan comparisons
  bounded zero j R s r = zero-le
  bounded (suc f) j R s r =
      fits-case x y j _
      (λ h.
      let d : ℕ = move x y j (mem_pass x y R j).end in
      let p : 1 ≤ d = move_pos x y j (mem_pass x y R j).end in
      let ih = bounded f (j + d) (after x y R j) (sound_after x y pos R j s r) (fresh_after x y pos R j s r d p) in
      rw (mem_step x y f j R h)
      (fits-case x y (j + d) _
      (λ g. omega (arith, ih, next-free x y pos R j s r d p))
      (λ g. omega (arith, none_left f (j + d) (after x y R j) g, pays x y R j (length x) (length x) (omega arith) (omega arith)))))
      (λ h. rw (mem_done x y f j R h) zero-le)
