-- Laws of `least` and `greatest`: what each finds passes, and nothing before it does; and of `how_many`. Assumes nothing.
use Rattle.std.specs.Prelude.{◌≡◌, ◌⊎◌, Bool, true, false}
use Rattle.std.proofs.Math.Path.{refl}
use Rattle.std.proofs.Common.{sym, ap, ◌∙◌, inl, inr, true≢false, eq-or-lt_of_le, le_of_suc-le-suc}
use Rattle.std.proofs.Math.Logic.{⊎_elim}
use Rattle.std.proofs.Math.Bool.{cond}
use Prim.Native.Nat.{ℕ, zero, suc, ◌+◌, ◌≤◌, ◌<◌}
use native.Mathlib.Omega.{arith}
use Rattle.basics.specs.Search.{least, greatest, how_many}
use Rattle.basics.specs.laws.Tests.{bool_case, le_or_lt}

-- THE LEAST: k is it, where it is among those tried or just past them, passes or is past them, and none before it passes
pub least_is : (p : ℕ → Bool) (n s k : ℕ) → s ≤ k → k ≤ s + n → ((j : ℕ) → s ≤ j → j < k → p j ≡ false) → (k ≡ s + n) ⊎ (p k ≡ true) → least p n s ≡ k
unfolding least
least_is p zero s k h l none t = omega arith
least_is p (suc n) s k h l none t =
    ⊎_elim
    (λ (e : s ≡ k). ⊎_elim (λ (q : k ≡ s + suc n). absurd (omega arith)) (λ (q : p k ≡ true). rw (e, q)) t)
    (λ (u : s < k).
    rw (none s (omega arith) u)
    (least_is p n (suc s) k u (omega arith) (λ j v w. none j (omega arith) w) (⊎_elim (λ (q : k ≡ s + suc n). inl (omega arith)) (λ q. inr q) t)))
    (eq-or-lt_of_le h)

pub least_from : (p : ℕ → Bool) (n s : ℕ) → s ≤ least p n s
unfolding least
least_from p zero s = omega arith
least_from p (suc n) s = go (p s) (least_from p n (suc s))
  where
    go : (b : Bool) → suc s ≤ least p n (suc s) → s ≤ cond b s (least p n (suc s))
    go true h = omega arith
    go false h = omega arith

pub least_le : (p : ℕ → Bool) (n s : ℕ) → least p n s ≤ s + n
unfolding least
least_le p zero s = omega arith
least_le p (suc n) s = go (p s) (least_le p n (suc s))
  where
    go : (b : Bool) → least p n (suc s) ≤ suc s + n → cond b s (least p n (suc s)) ≤ s + suc n
    go true h = omega arith
    go false h = omega arith

pub least_passes : (p : ℕ → Bool) (n s : ℕ) → least p n s < s + n → p (least p n s) ≡ true
unfolding least
least_passes p zero s h = absurd (omega arith)
least_passes p (suc n) s h = go (p s) refl h (λ u. least_passes p n (suc s) u)
  where
    go : (b : Bool) → p s ≡ b → cond b s (least p n (suc s)) < s + suc n → (least p n (suc s) < suc s + n → p (least p n (suc s)) ≡ true)
        → p (cond b s (least p n (suc s))) ≡ true
    go true e l later = e
    go false e l later = later (omega arith)

pub least_before : (p : ℕ → Bool) (n s j : ℕ) → s ≤ j → j < least p n s → p j ≡ false
unfolding least
least_before p zero s j h l = absurd (omega arith)
least_before p (suc n) s j h l = go (p s) refl l (λ u v. least_before p n (suc s) j u v)
  where
    go : (b : Bool) → p s ≡ b → j < cond b s (least p n (suc s)) → (suc s ≤ j → j < least p n (suc s) → p j ≡ false) → p j ≡ false
    go true e l' later = absurd (omega arith)
    go false e l' later = ⊎_elim (λ (q : s ≡ j). ap p (sym q) ∙ e) (λ (q : s < j). later q l') (eq-or-lt_of_le h)

-- what passes is no smaller
pub least_first : (p : ℕ → Bool) (n s t : ℕ) → s ≤ t → p t ≡ true → least p n s ≤ t
least_first p n s t l q =
    ⊎_elim (λ h. h) (λ (h : t < least p n s). absurd (true≢false (sym q ∙ least_before p n s t l h))) (le_or_lt (least p n s) t)

-- two tests that agree from s on have the same least
pub least_ext : (p q : ℕ → Bool) (n s : ℕ) → ((j : ℕ) → s ≤ j → p j ≡ q j) → least p n s ≡ least q n s
unfolding least
least_ext p q zero s h = refl
least_ext p q (suc n) s h = λ k. cond (h s (omega arith) k) s (least_ext p q n (suc s) (λ j l. h j (omega arith)) k)

-- one number after another
pub least_here : (p : ℕ → Bool) (n s : ℕ) → p s ≡ true → least p (suc n) s ≡ s
unfolding least
least_here p n s e = rw e

pub least-later : (p : ℕ → Bool) (n s : ℕ) → p s ≡ false → least p (suc n) s ≡ least p n (suc s)
unfolding least
least-later p n s e = rw e

-- THE GREATEST, one number after another
pub greatest-none : (p : ℕ → Bool) → greatest p 0 ≡ 0
unfolding greatest
greatest-none p = refl

pub greatest_new : (p : ℕ → Bool) (n : ℕ) → p (suc n) ≡ true → greatest p (suc n) ≡ suc n
unfolding greatest
greatest_new p n e = rw e

pub greatest_old : (p : ℕ → Bool) (n : ℕ) → p (suc n) ≡ false → greatest p (suc n) ≡ greatest p n
unfolding greatest
greatest_old p n e = rw e

-- what it is
pub greatest_is : (p : ℕ → Bool) (n k : ℕ) → k ≤ n → p k ≡ true → ((j : ℕ) → k < j → j ≤ n → p j ≡ false) → greatest p n ≡ k
unfolding greatest
greatest_is p zero k h t none = omega arith
greatest_is p (suc n) k h t none =
    ⊎_elim
    (λ (e : k ≡ suc n). rw (← e, t))
    (λ (l : k < suc n). rw (none (suc n) l (omega arith)) (greatest_is p n k (omega arith) t (λ j u v. none j u (omega arith))))
    (eq-or-lt_of_le h)

pub greatest_le : (p : ℕ → Bool) (n : ℕ) → greatest p n ≤ n
unfolding greatest
greatest_le p zero = omega arith
greatest_le p (suc n) = go (p (suc n)) (greatest_le p n)
  where
    go : (b : Bool) → greatest p n ≤ n → cond b (suc n) (greatest p n) ≤ suc n
    go true h = omega arith
    go false h = omega arith

pub greatest_passes : (p : ℕ → Bool) (n : ℕ) → p 0 ≡ true → p (greatest p n) ≡ true
unfolding greatest
greatest_passes p zero z = z
greatest_passes p (suc n) z = go (p (suc n)) refl (greatest_passes p n z)
  where
    go : (b : Bool) → p (suc n) ≡ b → p (greatest p n) ≡ true → p (cond b (suc n) (greatest p n)) ≡ true
    go true e h = e
    go false e h = h

pub greatest-above : (p : ℕ → Bool) (n j : ℕ) → greatest p n < j → j ≤ n → p j ≡ false
unfolding greatest
greatest-above p zero j l h = absurd (omega arith)
greatest-above p (suc n) j l h = go (p (suc n)) refl l (λ u v. greatest-above p n j u v)
  where
    go : (b : Bool) → p (suc n) ≡ b → cond b (suc n) (greatest p n) < j → (greatest p n < j → j ≤ n → p j ≡ false) → p j ≡ false
    go true e l' lower = absurd (omega arith)
    go false e l' lower = ⊎_elim (λ (q : j ≡ suc n). ap p q ∙ e) (λ (q : j < suc n). lower l' (omega arith)) (eq-or-lt_of_le h)

-- HOW MANY, one number after another
module _ (p : ℕ → Bool) where
  pub many_first : how_many p 0 ≡ 0
  unfolding how_many
  many_first = refl

  pub many_next : (n : ℕ) → how_many p (suc n) ≡ how_many p n + cond (p n) 1 0
  unfolding how_many
  many_next n = refl

  pub many_le : (n : ℕ) → how_many p n ≤ n
  unfolding how_many
  many_le zero = omega arith
  many_le (suc n) = bool_case (p n) (λ t. how_many p n + cond t 1 0 ≤ suc n) (λ e. omega (arith, many_le n)) (λ e. omega (arith, many_le n))

  pub many_none : (n : ℕ) → ((j : ℕ) → j < n → p j ≡ false) → how_many p n ≡ 0
  unfolding how_many
  many_none zero h = refl
  many_none (suc n) h = rw (h n (omega arith)) (omega (arith, many_none n (λ j l. h j (omega arith))))

  pub many_some : (n j : ℕ) → j < n → p j ≡ true → 1 ≤ how_many p n
  unfolding how_many
  many_some zero j l e = absurd (omega arith)
  many_some (suc n) j l e =
      ⊎_elim
      (λ (q : j ≡ n). rw (ap p (sym q) ∙ e) (omega arith))
      (λ (q : j < n). omega (arith, many_some n j q e))
      (eq-or-lt_of_le (le_of_suc-le-suc l))
