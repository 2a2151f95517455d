-- The plain scan reports every occurrence, and nothing else. Assumes nothing.
use Rattle.std.specs.Prelude.{◌≡◌, refl, ◌⊎◌, leb, take}
use Rattle.std.proofs.Math.Path.{sym, ap}
use Rattle.std.proofs.Common.{◌∙◌, inl, inr, add-zero, add-suc, suc-add, eq-or-lt_of_le, le_of_suc-le-suc, arith, leb-true, le-leb, get_or-take, get_or-drop}
use Rattle.std.proofs.Math.Logic.{⊎_elim}
use Rattle.std.proofs.Math.Bool.{true, false}
use mathlib.Core.List.{List, [], ◌∷◌, map}
use Prim.Native.Nat.{ℕ, zero, suc, ◌+◌, ◌-◌, ◌≤◌, ◌<◌}
use Rattle.std.proofs.Math.Nat.{sub-zero, suc-sub-suc, zero-sub}
use Rattle.std.proofs.Math.ListN.{length}
use Rattle.std.proofs.Math.Seq.{slice, length-slice, ext_get_or}
use Rattle.basics.specs.Lists.{at, same}
use Rattle.basics.specs.laws.Tests.{is_false, and_true_both, bool_case, le_or_lt}
use Rattle.basics.specs.laws.Lists.{same_refl, same_true}
use Rattle.tables.specs.Shift.{shift_at}
use Rattle.tables.specs.Occurrence.{occurrence_at}
use Rattle.tables.specs.laws.Shift.{Fits, shift_first}
use Rattle.tables.specs.laws.Occurrence.{occurrence_le, occurrence_first}
use Rattle.scans.specs.Trace.{End, matched, stopped, Window, found, positions, visit}
use Rattle.scans.specs.Move.{move}
use Rattle.scans.specs.Plain.{plain_from, plain_pass, plain_scan, plain}
use Rattle.scans.specs.Occurrences.{occurs_at, occurs_from, occurrences}
use Rattle.scans.specs.laws.Plain.{plain_case, plain_step, plain_done}
use Rattle.scans.specs.laws.Move.{move_pos, move_le}
use Rattle.scans.specs.laws.Visits.{bare, by_visits, fits-case}

-- the probe stands at j, byte by byte
abbrev pub Standing : List ℕ → List ℕ → ℕ → Type 0
Standing x y j = (t : ℕ) → t < length x → at y (j + t) ≡ at x t

module _ (x y : List ℕ) (j : ℕ) where
  at-slice : (t : ℕ) → t < length x → at (slice j (j + length x) y) t ≡ at y (j + t)
  at-slice t l = get_or-drop j (take (j + length x) y) t 0 ∙ get_or-take (j + length x) y (j + t) 0 (omega arith)

  pub occurs_true : j + length x ≤ length y → Standing x y j → occurs_at x y j ≡ true
  unfolding occurs_at
  occurs_true l h =
      let q : slice j (j + length x) y ≡ x =
      ext_get_or 0 _ _ (omega (arith, length-slice j (j + length x) y l))
      (λ t u. let w : t < length x = omega (arith, length-slice j (j + length x) y l) in at-slice t w ∙ h t w) in
      rw (le-leb (j + length x) (length y) l, q) (same_refl x)

  pub occurs_told : occurs_at x y j ≡ true → (j + length x ≤ length y) × Standing x y j
  unfolding occurs_at
  occurs_told e =
      let b = and_true_both (leb (j + length x) (length y)) (same (slice j (j + length x) y) x) e in
      (leb-true (j + length x) (length y) b.0, λ t l. sym (at-slice t l) ∙ ap (λ (r : List ℕ). at r t) (same_true _ _ b.1))

-- WHAT A WINDOW'S END TELLS, when k bytes were looked at
abbrev pub Told : List ℕ → List ℕ → ℕ → ℕ → End → Type 0
Told x y j k matched = (t : ℕ) → t < k → at y (j + t) ≡ at x t
Told x y j k (stopped i) = (i < k) × (at y (j + i) ≡ at x i → ⊥) × ((t : ℕ) → i < t → t < k → at y (j + t) ≡ at x t)

one_more : (x y : List ℕ) (j k : ℕ) (e : End) → at y (j + k) ≡ at x k → Told x y j k e → Told x y j (suc k) e
one_more x y j k matched q h = λ t l. ⊎_elim (λ (e : t ≡ k). rw e q) (λ g. h t g) (eq-or-lt_of_le (le_of_suc-le-suc l))
one_more x y j k (stopped i) q h = (omega arith, h.1, λ t g l. ⊎_elim (λ (e : t ≡ k). rw e q) (λ u. h.2 t g u) (eq-or-lt_of_le (le_of_suc-le-suc l)))

pub told : (x y : List ℕ) (j k : ℕ) → Told x y j k (plain_from x y j k).end
unfolding plain_from
told x y j zero = λ t l. absurd (omega arith)
told x y j (suc i) =
    plain_case x y j i (λ w. Told x y j (suc i) w.end)
    (λ e. one_more x y j i (plain_from x y j i).end e (told x y j i))
    (λ n. (omega arith, n, λ t g l. absurd (omega arith)))

-- NO OCCURRENCE IS PASSED OVER. An occurrence s on from a window at j, within the window:
--     y  . . . . . . . . . . . . .       the window at j matched, or stopped at i
--     x  j . . i v v v                   behind i, y has the bytes v of x
--     x        s . . v v v .             and the occurrence has them too: s fits, so the shift entry is at most s
module _ (x y : List ℕ) (j s : ℕ) (one : 1 ≤ s) (small : s < length x) (there : Standing x y (j + s)) where
  -- the byte of the window at index s + t, as the occurrence has it
  shifted : (t u : ℕ) → u ≡ s + t → t < length x → at y (j + u) ≡ at x t
  shifted t u q l = let v : j + u ≡ j + s + t = omega arith in rw v (there t l)

  fitting : (i : ℕ) → ((t : ℕ) → i < t → t < length x → at y (j + t) ≡ at x t) → (i < s) ⊎ (at y (j + i) ≡ at x i → ⊥) → i < length x → Fits x i s
  fitting i behind stop h =
      record {
        agree = λ t u v. sym (shifted t (s + t) refl (omega arith)) ∙ behind (s + t) u v;
        differ = λ t e same.
            ⊎_elim (λ (l : i < s). omega arith) (λ n. n (shifted t i (sym e) (omega arith) ∙ same)) stop;
      }

  within : (e : End) → Told x y j (length x) e → move x y j e ≤ s
  unfolding move
  within matched h = shift_first x 0 (omega arith) s one (omega arith) (fitting 0 (λ t a b. h t b) (inl (omega arith)) (omega arith))
  within (stopped i) h =
      let b : i < length x = h.0 in
      let a : ℕ = at y (j + i) in
      let c : shift_at x i ≤ s = shift_first x i b s one (omega arith) (fitting i h.2 (inr h.1) b) in
      ⊎_elim
      (λ (l : s ≤ i).
      let k : ℕ = s + (length x - 1 - i) in
      let d : occurrence_at x a ≤ k = occurrence_first x a (i - s) k (omega arith) (omega arith) (sym (shifted (i - s) i (omega arith) (omega arith))) in
      omega arith)
      (λ (l : i < s). omega (arith, occurrence_le x a (omega arith)))
      (le_or_lt s i)

-- an occurrence at j + s lies at the next window or beyond it
not_passed : (x y : List ℕ) (j s : ℕ) → 1 ≤ length x → 1 ≤ s → Standing x y (j + s) → (e : End) → Told x y j (length x) e → move x y j e ≤ s
not_passed x y j s pos one there e h =
    ⊎_elim (λ (l : length x ≤ s). omega (arith, move_le x y j e pos)) (λ (l : s < length x). within x y j s one l there e h) (le_or_lt (length x) s)

-- positions without an occurrence are passed over
occurs_skip : (x y : List ℕ) (d c j : ℕ) → ((p : ℕ) → j ≤ p → p < j + d → occurs_at x y p ≡ false) → occurs_from x y c j ≡ occurs_from x y (c - d) (j + d)
unfolding occurs_from
occurs_skip x y zero c j h = rw (sub-zero, add-zero)
occurs_skip x y (suc d) zero j h = rw zero-sub
occurs_skip x y (suc d) (suc c) j h =
    rw (suc-sub-suc c d, add-suc j d, ← suc-add j d, occurs_from, h j (omega arith) (omega arith)) (occurs_skip x y d c (suc j) (λ p a b. h p (omega arith) (omega arith)))

-- past the last window nothing occurs
occurs_none : (x y : List ℕ) (c j : ℕ) → length y < j + length x → occurs_from x y c j ≡ []
unfolding occurs_from
occurs_none x y zero j h = refl
occurs_none x y (suc c) j h =
    let n : occurs_at x y j ≡ false = is_false (occurs_at x y j) (λ e. omega (arith, (occurs_told x y j e).0)) in
    rw (n, occurs_from) (occurs_none x y c (suc j) (omega arith))

module _ (x y : List ℕ) (pos : 1 ≤ length x) where
  -- between a window and the next
  gap : (j : ℕ) (e : End) → Told x y j (length x) e → (p : ℕ) → suc j ≤ p → p < j + move x y j e → occurs_at x y p ≡ false
  gap j e h p a b =
      bool_case (occurs_at x y p) (λ t. t ≡ false)
      (λ q.
      let v : p ≡ j + (p - j) = omega arith in
      absurd (omega (arith, not_passed x y j (p - j) pos (omega arith) (rw v at (occurs_told x y p q).1) e h)))
      (λ q. refl)

  -- the occurrences from j on: the one at j, if the window matched, and those from the next window on
  after-window : (j c : ℕ) (e : End) → Told x y j (length x) e → occurs_from x y c (suc j) ≡ occurs_from x y (suc c - move x y j e) (j + move x y j e)
  after-window j c e h =
      let p : 1 ≤ move x y j e = move_pos x y j e in
      let u : c - (move x y j e - 1) ≡ suc c - move x y j e = omega arith in
      let v : suc j + (move x y j e - 1) ≡ j + move x y j e = omega arith in
      rw (u, v) at (occurs_skip x y (move x y j e - 1) c (suc j) (λ q a b. gap j e h q a (omega arith)))

  at-window : (j c : ℕ) (e : End) → j + length x ≤ length y → Told x y j (length x) e → occurs_from x y (suc c) j ≡ found j e (occurs_from x y c (suc j))
  unfolding occurs_from
  at-window j c matched l h = rw (occurs_true x y j l h, occurs_from)
  at-window j c (stopped i) l h =
      bool_case (occurs_at x y j) (λ t. elim t [ true ↦ j ∷ occurs_from x y c (suc j) | false ↦ occurs_from x y c (suc j) ] ≡ occurs_from x y c (suc j))
      (λ q. absurd (h.1 ((occurs_told x y j q).1 i h.0)))
      (λ q. refl)

  -- the plain scan reports the occurrences from its first window on
  reports : (f c j : ℕ) → length y < f + j → length y < c + j → positions (plain_scan x y f j) ≡ occurs_from x y c j
  unfolding plain_scan positions
  reports zero c j h g = sym (occurs_none x y c j (omega arith))
  reports (suc f) zero j h g = rw (plain_done x y f j (omega arith)) (sym (occurs_none x y 0 j (omega arith)))
  reports (suc f) (suc c) j h g =
      fits-case x y j _
      (λ l.
      let e : End = (plain_pass x y j).end in
      let t : Told x y j (length x) e = told x y j (length x) in
      let p : 1 ≤ move x y j e = move_pos x y j e in
      rw (plain_step x y f j l)
      (ap (found j e) (reports f (suc c - move x y j e) (j + move x y j e) (omega arith) (omega arith) ∙ sym (after-window j c e t)) ∙ sym (at-window j c e l t)))
      (λ l. rw (plain_done x y f j l) (sym (occurs_none x y (suc c) j l)))

  pub all_found : positions (plain x y) ≡ occurrences x y
  unfolding plain occurrences
  all_found = reports (suc (length y)) (suc (length y)) 0 (omega arith) (omega arith)

-- what a trace reports hangs on its visits alone
positions-bare : (ws : List Window) → positions ws ≡ positions (bare (map visit ws))
unfolding positions
positions-bare [] = refl
positions-bare (w ∷ ws) = ap (found w.start w.end) (positions-bare ws)

pub same-positions : (vs ws : List Window) → map visit vs ≡ map visit ws → positions vs ≡ positions ws
same-positions = by_visits positions positions-bare
