-- The shift table in linear time, out of the suffix table: STRONG-MATCHING, figure 11 of source 001. Assumes nothing.
-- The page's i runs downward to −1. Here s = m − 1 − i runs upward, from 1 to m, and p = i is written where its entry is read.
use Rattle.std.specs.Prelude.{◌≡◌, refl, ◌⊎◌, Bool, true, false, cond, List, eqb, set}
use Rattle.std.proofs.Common.{sym, ◌∙◌, ⊎_elim, eq-or-lt_of_le, eq-eqb, ne_eqb, eqb-true, le-leb}
use Rattle.std.proofs.Math.Logic.{inl, inr}
use Prim.Native.Nat.{ℕ, suc, ◌+◌, ◌-◌, ◌≤◌, ◌<◌, min}
use Rattle.std.proofs.Math.Numerals.{add-one}
use native.Mathlib.Omega.{arith}
use Rattle.std.proofs.lemmas.Bool.{lt-leb}
use Rattle.std.proofs.Math.ListN.{length}
use Rattle.basics.specs.Search.{least}
use Rattle.basics.specs.Lists.{at}
use Rattle.basics.specs.Rooms.{front}
use Rattle.basics.specs.laws.Tests.{same_test, le_or_lt}
use Rattle.basics.specs.laws.Search.{least_is}
use Rattle.basics.specs.laws.Rooms.{Filled, filled_none, filled_ext, filled_at, filled_set, filled_then, filled_all, down_to, down_on, down_none}
use Rattle.tables.specs.Suffix.{suffix_at}
use Rattle.tables.specs.Shift.{fits, shift_at, shift_table}
use Rattle.tables.specs.laws.Suffix.{suffix_is, suffix_le, suffix_agrees, suffix_stops}
use Rattle.tables.specs.laws.Shift.{Fits, fits_true, fits_told}

-- WHETHER s FITS AT i is read off the suffix entry at p = m − 1 − s. With k = m − 1 − i, the number of bytes behind i:
-- if s ≤ i, it fits where the entry is k; if s > i, where it is p + 1, the greatest possible
module _ (x : List ℕ) (i s p : ℕ) (h : i < length x) (one : 1 ≤ s) (ep : p + s + 1 ≡ length x) where
  agreeing : Fits x i s → (j u v : ℕ) → u + j ≡ p → v + j + 1 ≡ length x → i < v → at x u ≡ at x v
  agreeing f j u v eu ev l = let w : s + u ≡ v = omega arith in rw w at (f.agree u (omega arith) (omega arith))

  agreed : (t : ℕ) → s + t < length x → p - t < suffix_at x p → at x t ≡ at x (s + t)
  agreed t l d = suffix_agrees x p (omega arith) (p - t) d t (s + t) (omega arith) (omega arith)

  pub near : (k : ℕ) → k + i + 1 ≡ length x → s ≤ i → fits x i s ≡ eqb (suffix_at x p) k
  near k ek l = same_test (fits x i s) (eqb (suffix_at x p) k) there back
    where
      there : fits x i s ≡ true → eqb (suffix_at x p) k ≡ true
      there e =
          let f = fits_told x s (omega arith) i h e in
          eq-eqb (suffix_at x p) k
          (suffix_is x p (omega arith) k (omega arith)
          (λ j d u v eu ev. agreeing f j u v eu ev (omega arith))
          (inr (λ a. f.differ (i - s) (omega arith) (a (i - s) i (omega arith) (omega arith)))))

      back : eqb (suffix_at x p) k ≡ true → fits x i s ≡ true
      back e =
          let q : suffix_at x p ≡ k = eqb-true (suffix_at x p) k e in
          fits_true x s (omega arith) i h
          (record {
            agree = λ t u v. agreed t v (omega arith);
            differ = λ t w same.
                suffix_stops x p (omega arith) (omega arith)
                (λ u v eu ev. let eu' : u ≡ t = omega arith in let ev' : v ≡ i = omega arith in rw (eu', ev') same);
          })

  pub far : i < s → fits x i s ≡ eqb (suffix_at x p) (p + 1)
  far l = same_test (fits x i s) (eqb (suffix_at x p) (p + 1)) there back
    where
      there : fits x i s ≡ true → eqb (suffix_at x p) (p + 1) ≡ true
      there e =
          let f = fits_told x s (omega arith) i h e in
          eq-eqb (suffix_at x p) (p + 1)
          (suffix_is x p (omega arith) (p + 1) (omega arith) (λ j d u v eu ev. agreeing f j u v eu ev (omega arith)) (inl (omega arith)))

      back : eqb (suffix_at x p) (p + 1) ≡ true → fits x i s ≡ true
      back e =
          let q : suffix_at x p ≡ p + 1 = eqb-true (suffix_at x p) (p + 1) e in
          fits_true x s (omega arith) i h (record { agree = λ t u v. agreed t v (omega arith); differ = λ t w. absurd (omega arith) })

-- the least shift from c on that fits at q
unfoldable pub up_from : List ℕ → ℕ → ℕ → ℕ
up_from x q c = least (fits x q) (length x - c) c

module _ (x : List ℕ) (q c : ℕ) where
  up_is : (k : ℕ) → c ≤ k → k ≤ length x → ((t : ℕ) → c ≤ t → t < k → fits x q t ≡ false) → (k ≡ length x) ⊎ (fits x q k ≡ true) → up_from x q c ≡ k
  unfolding up_from
  up_is k h l none hit =
      least_is (fits x q) (length x - c) c k h (omega arith) none (⊎_elim (λ (e : k ≡ length x). inl (omega arith)) (λ e. inr e) hit)

  up_hit : c < length x → fits x q c ≡ true → up_from x q c ≡ c
  up_hit h e = up_is c (omega arith) (omega arith) (λ t a b. absurd (omega arith)) (inr e)

  up_miss : c < length x → fits x q c ≡ false → up_from x q c ≡ up_from x q (c + 1)
  unfolding up_from least
  up_miss h e = let n : length x - c ≡ suc (length x - (c + 1)) = omega arith in rw (n, add-one c, e)

-- LINES 1 TO 6. Line 3: x[0..m−s−1] is a suffix of x
abbrev pub ends : List ℕ → ℕ → Bool
ends x s = eqb (suffix_at x (length x - 1 - s)) (length x - s)

ends-fits : (x : List ℕ) (q s : ℕ) → q < s → s < length x → fits x q s ≡ ends x s
ends-fits x q s l h =
    let p : ℕ = length x - 1 - s in
    let e : p + 1 ≡ length x - s = omega arith in
    rw e at (far x q s p (omega arith) (omega arith) (omega arith) l)

-- what line 3 picks lies between j and s
pub reach_between : (b : Bool) {s j to : ℕ} → to ≡ cond b s j → j < s → (j ≤ to) × (to ≤ s)
reach_between true e h = (omega arith, omega arith)
reach_between false e h = (omega arith, omega arith)

-- what the first loop gives entry q: the least shift above q that fits
abbrev pub above : List ℕ → ℕ → ℕ
above x q = up_from x q (q + 1)

-- the room d with v from place `from` on, for whoever looks no further than it was written
abbrev pub spread_at : List ℕ → ℕ → ℕ → ℕ → ℕ
spread_at d from v = down_to (λ q. v) d from

pub spread_none : (d : List ℕ) (from v : ℕ) → from ≤ length d → Filled (spread_at d from v) d from d
spread_none d from v h = down_none (λ q. v) d from h

pub spread_on : (d : List ℕ) (from v q : ℕ) → from ≤ q → v ≡ spread_at d from v q
spread_on d from v q l = sym (down_on (λ q. v) d from q l)

--     0 ......... j ......... s ........ m−1
--     | written,  | no shift  | not tried yet
--     |  final    | fits here |
pub record Prefixes (x d₀ : List ℕ) (s j : ℕ) (d : List ℕ) : Type 0 where
  pub low : j < s
  pub none : (t : ℕ) → j < t → t < s → ends x t ≡ false
  pub done : Filled (above x) d₀ j d

pub prefixes_none : (x d : List ℕ) → Prefixes x d 1 0 d
prefixes_none x d = record { low = omega arith; none = λ t a b. absurd (omega arith); done = filled_none }

module _ {x d₀ d d' : List ℕ} {s j : ℕ} (g : Prefixes x d₀ s j d) where
  -- lines 4 to 6, where s fits or is the last: the entries from j to s are s
  written : (s ≡ length x) ⊎ ((s < length x) × (ends x s ≡ true)) → Filled (spread_at d j s) d s d' → Filled (above x) d₀ s d'
  written t k = filled_then g.done (filled_ext k entry) (omega (arith, g.low))
    where
      hit : (q : ℕ) → q < s → (s ≡ length x) ⊎ ((s < length x) × (ends x s ≡ true)) → (s ≤ length x) × ((s ≡ length x) ⊎ (fits x q s ≡ true))
      hit q l (inl e) = (omega arith, inl e)
      hit q l (inr e) = (omega arith, inr (ends-fits x q s l e.0 ∙ e.1))

      entry : (q : ℕ) → q < s → spread_at d j s q ≡ above x q
      entry q l =
          ⊎_elim
          (λ (u : j ≤ q).
          let e = hit q l t in
          rw (le-leb j q u)
          (sym (up_is x q (q + 1) s (omega arith) e.0 (λ t a b. ends-fits x q t (omega arith) (omega arith) ∙ g.none t (omega arith) b) e.1)))
          (λ (u : q < j). rw (lt-leb j q u) (filled_at g.done q u))
          (le_or_lt j q)

  pub prefixes_next : {to : ℕ} → s < length x → to ≡ cond (ends x s) s j → Filled (spread_at d j s) d to d' → Prefixes x d₀ (s + 1) to d'
  prefixes_next {to} h e k = go (ends x s) refl e
    where
      go : (b : Bool) → ends x s ≡ b → to ≡ cond b s j → Prefixes x d₀ (s + 1) to d'
      go true q e =
          rw e
          (record { low = omega arith; none = λ t u w. absurd (omega arith); done = written (inr (h, q)) (rw e at k) })
      go false q e =
          let k' : Filled (spread_at d j s) d j d' = rw e at k in
          rw e
          (record {
            low = omega (arith, g.low);
            none = λ t u w. ⊎_elim (λ (r : t ≡ s). rw r q) (λ (r : t < s). g.none t u r) (eq-or-lt_of_le (omega arith));
            done = filled_then g.done (filled_ext k' (λ q u. rw (lt-leb j q u) (filled_at g.done q u))) (omega arith);
          })

  pub prefixes_all : s ≡ length x → Filled (spread_at d j s) d s d' → Filled (above x) d₀ (length x) d'
  prefixes_all e k = rw e at (written (inl e) k)

-- LINES 7 AND 8, when the shifts from b on are done: entry q is the least that fits among them and those above q
abbrev pub match_at : List ℕ → ℕ → ℕ → ℕ
match_at x b q = up_from x q (min b (q + 1))

pub match_none : (x : List ℕ) {d₀ d : List ℕ} → Filled (above x) d₀ (length x) d → Filled (match_at x (length x)) d₀ (length x) d
match_none x {d₀} {d} g =
    filled_ext g (λ q l. let u : min (length x) (q + 1) ≡ q + 1 = omega arith in rw u)

-- the shift b, for i = m − 1 − b, fits at the one place q = m − 1 − suf[i]
module _ (x : List ℕ) (i b q : ℕ) (eb : i + b + 1 ≡ length x) (one : 1 ≤ b) (h : q < length x) where
  le : suffix_at x i ≤ suc i
  le = suffix_le x i (omega arith)

  match_hit : suffix_at x i + q + 1 ≡ length x → match_at x b q ≡ b
  match_hit e =
      let u : min b (q + 1) ≡ b = omega (arith, le) in
      rw u (up_hit x q b (omega arith) (⊎_elim at_most beyond (le_or_lt b q)))
    where
      at_most : b ≤ q → fits x q b ≡ true
      at_most l = near x q b i h one eb (suffix_at x i) e l ∙ eq-eqb (suffix_at x i) (suffix_at x i) refl

      beyond : q < b → fits x q b ≡ true
      beyond l = far x q b i h one eb l ∙ eq-eqb (suffix_at x i) (i + 1) (omega (arith, le))

  match_other : (suffix_at x i + q + 1 ≡ length x → ⊥) → match_at x b q ≡ match_at x (b + 1) q
  match_other n = ⊎_elim at_most beyond (le_or_lt b q)
    where
      at_most : b ≤ q → match_at x b q ≡ match_at x (b + 1) q
      at_most l =
          let u : min b (q + 1) ≡ b = omega arith in
          let v : min (b + 1) (q + 1) ≡ b + 1 = omega arith in
          let k : ℕ = length x - 1 - q in
          rw (u, v) (up_miss x q b (omega arith) (near x q b i h one eb k (omega arith) l ∙ ne_eqb (suffix_at x i) k (omega arith)))

      beyond : q < b → match_at x b q ≡ match_at x (b + 1) q
      beyond l =
          let u : min b (q + 1) ≡ q + 1 = omega arith in
          let v : min (b + 1) (q + 1) ≡ q + 1 = omega arith in
          rw (u, v)

-- one store of the second loop
pub match_more : (x : List ℕ) {d₀ d : List ℕ} (i b q : ℕ) → i + b + 1 ≡ length x → 1 ≤ b → suffix_at x i + q + 1 ≡ length x
    → Filled (match_at x (b + 1)) d₀ (length x) d → Filled (match_at x b) d₀ (length x) (set d q b)
match_more x {d₀} {d} i b q eb one eq g =
    filled_set g (omega arith) (match_hit x i b q eb one (omega arith) eq)
    (λ t l n. sym (match_other x i b t eb one l (λ e. n (omega arith))))

-- all shifts are done: the room has the shift table in front
pub match_all : (x : List ℕ) {d₀ d : List ℕ} → Filled (match_at x 1) d₀ (length x) d → d ≡ front (shift_table x) d₀
unfolding shift_table shift_at up_from
match_all x {d₀} {d} g = filled_all (filled_ext g (λ q l. let u : min 1 (q + 1) ≡ 1 = omega arith in rw u)) refl
