-- The suffix entry is the greatest k: its bytes agree, and the next differ or do not exist. Assumes nothing.
use Rattle.std.specs.Prelude.{◌≡◌, ◌⊎◌, true, List, length}
use Rattle.std.proofs.Common.{sym, ◌∙◌, eq-or-lt_of_le, le_of_suc-le-suc, arith}
use Rattle.std.proofs.Math.Logic.{inl, inr, ⊎_elim}
use Rattle.std.proofs.Math.Bool.{true≢false}
use Prim.Native.Nat.{ℕ, suc, ◌+◌, ◌≤◌, ◌<◌}
use Rattle.basics.specs.Lists.{at}
use Rattle.basics.specs.Rooms.{Begins}
use Rattle.basics.specs.laws.Search.{greatest_le, greatest_passes, greatest-above}
use Rattle.basics.specs.laws.Lists.{length-table, at_table}
use Rattle.basics.specs.laws.Endings.{endings_same, endings_agree, longest_is}
use Rattle.tables.specs.Suffix.{ends_alike, suffix_at, suffix_table}

-- the bytes j places before the ends of x[0..i] and of x are equal. Places are given by sums, of which `omega` takes more than of differences
abbrev pub Agree : List ℕ → ℕ → ℕ → Type 0
Agree x i j = (u v : ℕ) → u + j ≡ i → v + j + 1 ≡ length x → at x u ≡ at x v

-- there is only one such pair of places
pub agree_by : (x : List ℕ) (i j u v : ℕ) → u + j ≡ i → v + j + 1 ≡ length x → at x u ≡ at x v → Agree x i j
agree_by x i j u v p q e u' v' p' q' = let a : u' ≡ u = omega arith in let b : v' ≡ v = omega arith in rw (a, b) e

module _ (x : List ℕ) (i : ℕ) (h : i < length x) where
  alike : (k : ℕ) → k ≤ suc i → ((j : ℕ) → j < k → Agree x i j) → ends_alike x i k ≡ true
  unfolding ends_alike
  alike k l a = endings_same x (suc i) x (length x) h (omega arith) k l (omega arith) (λ j d u v p q. a j d u v (omega arith) q)

  alike-told : (k j : ℕ) → k ≤ suc i → j < k → ends_alike x i k ≡ true → Agree x i j
  unfolding ends_alike
  alike-told k j l d e u v p q = endings_agree x (suc i) x (length x) h (omega arith) k j l (omega arith) d e u v (omega arith) q

  -- what a search downward from the two ends finds is the entry
  pub suffix_is : (k : ℕ) → k ≤ suc i → ((j : ℕ) → j < k → Agree x i j) → (k ≡ suc i) ⊎ (Agree x i k → ⊥) → suffix_at x i ≡ k
  unfolding suffix_at ends_alike
  suffix_is k l a stop =
      longest_is x (suc i) x (length x) h (omega arith) (suc i) k (omega arith) (omega arith) l
      (λ j d u v p q. a j d u v (omega arith) q)
      (⊎_elim (λ (e : k ≡ suc i). inl e) (λ differ. inr (λ m. differ (λ u v p q. m u v (omega arith) q))) stop)

  pub suffix_le : suffix_at x i ≤ suc i
  unfolding suffix_at
  suffix_le = greatest_le (ends_alike x i) (suc i)

  pub suffix_agrees : (j : ℕ) → j < suffix_at x i → Agree x i j
  unfolding suffix_at
  suffix_agrees j d =
      alike-told (suffix_at x i) j suffix_le d (greatest_passes (ends_alike x i) (suc i) (alike 0 (omega arith) (λ j' w. absurd (omega arith))))

  pub suffix_stops : suffix_at x i ≤ i → Agree x i (suffix_at x i) → ⊥
  unfolding suffix_at
  suffix_stops l a =
      true≢false
      (sym (alike (suc (suffix_at x i)) (omega arith) (λ j w. ⊎_elim (λ (q : j ≡ suffix_at x i). rw q a) (λ d. suffix_agrees j d) (eq-or-lt_of_le (le_of_suc-le-suc w))))
      ∙ greatest-above (ends_alike x i) (suc i) (suc (suffix_at x i)) (omega arith) (omega arith))

-- entry m − 1 is m
pub suffix_last : (x : List ℕ) (i : ℕ) → i + 1 ≡ length x → suffix_at x i ≡ length x
suffix_last x i e =
    suffix_is x i (omega arith) (length x) (omega arith)
    (λ j d u v p q. let w : u ≡ v = omega arith in rw w)
    (inl (omega arith))

-- the table and its entries
pub length-suffix_table : (x : List ℕ) → length (suffix_table x) ≡ length x
unfolding suffix_table
length-suffix_table x = length-table (length x) (suffix_at x)

pub at-suffix_table : (x : List ℕ) (i : ℕ) → i < length x → at (suffix_table x) i ≡ suffix_at x i
unfolding suffix_table
at-suffix_table x i h = at_table (length x) (suffix_at x) i h

-- a room that has the table in front
pub suffix_reaches : (x : List ℕ) {d : List ℕ} → Begins (suffix_table x) d → length x ≤ length d
suffix_reaches x b = omega (arith, b.reaches, length-suffix_table x)

pub suffix_entry : (x : List ℕ) {d : List ℕ} → Begins (suffix_table x) d → (i : ℕ) {r : ℕ} → r ≡ at d i → i < length x → (r ≡ suffix_at x i) × (r ≤ suc i)
suffix_entry x {d} b i {r} e h =
    let q : r ≡ suffix_at x i = e ∙ b.entry i (omega (arith, length-suffix_table x)) ∙ at-suffix_table x i h in
    (q, omega (arith, suffix_le x i h))
