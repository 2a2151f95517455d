-- Lemma 4.1 of source 001, section 4.1: what an earlier run of equal bytes tells of the next suffix entry. Assumes nothing.
-- On the page g falls to −1. Here g1 is one more than g.
--
--     x  . . a v v v v v v . . . . b v v v v v v       v = x[g+1..f] stands again at the end of x; a ≠ b, or there is no a
--            g     i     f               j     m−1     j = i + m − 1 − f
--
-- Slips of the page. At i = m − 2 the set that defines g is empty, and f has no value; the lemma is not used there (`Ready` in laws/Figure9).
-- In the lemma's proof the ranges are one place off: with k = suf[j] it is x[j−k+1..j] that is a suffix of x, and x[j−k..j] that is not.
use Rattle.std.specs.Prelude.{◌≡◌, ◌⊎◌, cond, List, ℕ, suc, ◌+◌, ◌-◌, ◌≤◌, ◌<◌, min, ltb, length}
use Rattle.std.proofs.Common.{sym, ◌∙◌, ⊎_elim, eq-or-lt_of_le, arith, lt-ltb, le-ltb}
use Rattle.std.proofs.Math.Logic.{inl, inr}
use Rattle.std.proofs.Math.Seq.{slice}
use Rattle.basics.specs.Lists.{at, same}
use Rattle.basics.specs.laws.Tests.{le_or_lt}
use Rattle.basics.specs.laws.Search.{greatest_le}
use Rattle.basics.specs.laws.Endings.{Level, longest_is}
use Rattle.tables.specs.Suffix.{suffix_at}
use Rattle.tables.specs.Comparisons.{lcsuf, facing}
use Rattle.tables.specs.laws.Suffix.{Agree, suffix_is, suffix_le, suffix_agrees, suffix_stops}

-- THE LONGEST COMMON SUFFIX of x[0..p−1] and x[0..q−1]
module _ (x : List ℕ) (p q : ℕ) where
  pub lcsuf_le : lcsuf x p q ≤ p
  unfolding lcsuf
  lcsuf_le = omega (arith, greatest_le (λ k. same (slice (p - k) p x) (slice (q - k) q x)) (min p q))

  -- what a search downward from the two ends finds
  pub lcsuf_is : p ≤ q → q ≤ length x → (k : ℕ) → k ≤ p → ((t : ℕ) → t < k → Level x p x q t) → (k ≡ p) ⊎ (Level x p x q k → ⊥) → lcsuf x p q ≡ k
  unfolding lcsuf
  lcsuf_is pq h k l level stop =
      longest_is x p x q (omega arith) h (min p q) k (omega arith) (omega arith) (omega arith) level
      (⊎_elim (λ (e : k ≡ p). inl (omega arith)) (λ differ. inr differ) stop)

-- where r bytes are known to agree, the entry is those and what agrees before them
pub suffix_beyond : (x : List ℕ) (i r p q : ℕ) → i < length x → r + p ≡ i + 1 → r + q ≡ length x → r ≤ suffix_at x i → suffix_at x i ≡ r + lcsuf x p q
suffix_beyond x i r p q h ep eq l =
    let k : ℕ = suffix_at x i - r in
    let e : lcsuf x p q ≡ k =
    lcsuf_is x p q (omega arith) (omega arith) k (omega (arith, suffix_le x i h))
    (λ t d u v eu ev. suffix_agrees x i h (r + t) (omega arith) u v (omega arith) (omega arith))
    (⊎_elim
    (λ (w : suffix_at x i ≡ suc i). inl (omega arith))
    (λ (w : suffix_at x i < suc i). inr (λ level. suffix_stops x i h (omega arith) (λ u v eu ev. level u v (omega arith) (omega arith))))
    (eq-or-lt_of_le (suffix_le x i h))) in
    omega arith

-- f AND g before the round for i, with n = i + 1: g = min{j − suf[j] | i < j < m − 1}, and f is a position j such that i < j < m − 1 and j − suf[j] = g
pub record Furthest (x : List ℕ) (n f g1 : ℕ) : Type 0 where
  pub low : n ≤ f
  pub high : f + 1 < length x
  pub reached : suffix_at x f + g1 ≡ f + 1
  pub least : (j : ℕ) → n ≤ j → j + 1 < length x → suffix_at x j + g1 ≤ j + 1

-- LEMMA 4.1. If i > g, then suf[i] = suf[i + m − 1 − f] if suf[i + m − 1 − f] < i − g, and i − g + ℓ otherwise, where ℓ = |lcsuf(x[0..g], x[0..m−1−i+g])|
module _ (x : List ℕ) (i f g1 : ℕ) (a : Furthest x (i + 1) f g1) (l : g1 ≤ i) where
  -- v stands again at the end of x: the byte t places before i, within v, is the one t places before j
  again : (t u w : ℕ) → g1 + t ≤ i → u + t ≡ i → w + t + f + 1 ≡ i + length x → at x u ≡ at x w
  again t u w d eu ew =
      suffix_agrees x f (omega (arith, a.high)) (f - u) (omega (arith, a.low, a.reached)) u w (omega (arith, a.low)) (omega (arith, a.low))

  module _ (j : ℕ) (ej : j + f + 1 ≡ i + length x) where
    inside : j < length x
    inside = omega (arith, a.low)

    -- what agrees with the end of x at j agrees with it at i, as long as it lies within v
    same_as : (t : ℕ) → t < suffix_at x j → g1 + t ≤ i → Agree x i t
    same_as t d b u v eu ev =
        again t u (j - t) b eu (omega (arith, a.low, a.high)) ∙ suffix_agrees x j inside t d (j - t) v (omega (arith, a.low, a.high)) ev

    -- the first case
    first : g1 + suffix_at x j ≤ i → suffix_at x i ≡ suffix_at x j
    first b =
        let k : ℕ = suffix_at x j in
        suffix_is x i (omega (arith, a.low, a.high)) k (omega arith) (λ t d. same_as t d (omega arith))
        (inr (λ e. suffix_stops x j inside (omega (arith, a.low, a.high)) (λ u v eu ev. sym (again k (i - k) u b (omega arith) (omega arith)) ∙ e (i - k) v (omega arith) ev)))

    -- and the second
    second : i < g1 + suffix_at x j → suffix_at x i ≡ i + 1 - g1 + lcsuf x g1 (length x - (i + 1) + g1)
    second b =
        let h : i < length x = omega (arith, a.low, a.high) in
        let r : ℕ = i + 1 - g1 in
        let known : r ≤ suffix_at x i =
        ⊎_elim
        (λ (u : r ≤ suffix_at x i). u)
        (λ (u : suffix_at x i < r). absurd (suffix_stops x i h (omega arith) (same_as (suffix_at x i) (omega arith) (omega arith))))
        (le_or_lt r (suffix_at x i)) in
        suffix_beyond x i r g1 (length x - (i + 1) + g1) h (omega arith) (omega arith) known

  pub lemma_4_1 : suffix_at x i ≡ (let k = suffix_at x (facing x f i) in cond (ltb k (i + 1 - g1)) k (i + 1 - g1 + lcsuf x g1 (length x - (i + 1) + g1)))
  lemma_4_1 =
      let j : ℕ = facing x f i in
      let ej : j + f + 1 ≡ i + length x = omega (arith, a.low, a.high) in
      ⊎_elim
      (λ (u : i + 1 - g1 ≤ suffix_at x j). rw (le-ltb (suffix_at x j) (i + 1 - g1) u) (second j ej (omega arith)))
      (λ (u : suffix_at x j < i + 1 - g1). rw (lt-ltb (suffix_at x j) (i + 1 - g1) u) (first j ej (omega arith)))
      (le_or_lt (i + 1 - g1) (suffix_at x j))
