-- The causes of refusal, one by one. Assumes nothing.
use Rattle.std.specs.Prelude.{◌≡◌, refl, Bool, true, false, cond, ℕ, ◌*◌, ◌≤◌, ◌<◌, eqb, ltb}
use Rattle.std.proofs.Common.{sym, ◌∙◌, mul-le-mul_right, arith}
use borrow.Author.Tests.{eq-eqb, ne_eqb, lt-ltb, le-ltb, eqb-false, ltb-false}
use Rattle.tables.specs.Refusal.{longest, refusal_of}

module _ (k m n : ℕ) where
  pub refuses_empty : m ≡ 0 → refusal_of k m n ≡ 1
  unfolding refusal_of
  refuses_empty h = rw (eq-eqb m 0 h)

  pub refuses_long : (m ≡ 0 → ⊥) → longest < m → refusal_of k m n ≡ 2
  unfolding refusal_of
  refuses_long h u = rw (ne_eqb m 0 h, lt-ltb longest m u)

  pub refuses_short : (m ≡ 0 → ⊥) → m ≤ longest → n < k * m → refusal_of k m n ≡ 4
  unfolding refusal_of
  refuses_short h u v = rw (ne_eqb m 0 h, le-ltb longest m u, lt-ltb n (k * m) v)

  pub refuses_none : (m ≡ 0 → ⊥) → m ≤ longest → k * m ≤ n → refusal_of k m n ≡ 0
  unfolding refusal_of
  refuses_none h u v = rw (ne_eqb m 0 h, le-ltb longest m u, le-ltb n (k * m) v)

-- what a table takes is no large number
pub numbers_small : (k m : ℕ) → k ≤ 2 → m ≤ longest → k * m ≤ 2 * longest
numbers_small k m u v = omega (arith, mul-le-mul_right m u)

-- sizes that no cause refuses
pub record Sized (k m n : ℕ) : Type 0 where
  pub some : 1 ≤ m
  pub short : m ≤ longest
  pub reaches : k * m ≤ n

pub sized : (k m n : ℕ) {r : ℕ} → r ≡ refusal_of k m n → r ≡ 0 → Sized k m n
unfolding refusal_of
sized k m n e z = go (eqb m 0) refl (ltb longest m) refl (ltb n (k * m)) refl (sym e ∙ z)
  where
    go : (a : Bool) → eqb m 0 ≡ a → (b : Bool) → ltb longest m ≡ b → (c : Bool) → ltb n (k * m) ≡ c → ◌≡◌ {A = ℕ} (cond a 1 (cond b 2 (cond c 4 0))) 0 → Sized k m n
    go true p b q c r e = absurd (omega arith)
    go false p true q c r e = absurd (omega arith)
    go false p false q true r e = absurd (omega arith)
    go false p false q false r e = record { some = omega (arith, eqb-false m 0 p); short = ltb-false longest m q; reaches = ltb-false n (k * m) r }

-- a call that takes no room is never refused for one
pub never_short : (m : ℕ) → refusal_of 0 m 0 ≡ 4 → ⊥
unfolding refusal_of
never_short m e = go (eqb m 0) (ltb longest m) (rw (le-ltb 0 (0 * m) (omega arith)) at e)
  where
    go : (a b : Bool) → ◌≡◌ {A = ℕ} (cond a 1 (cond b 2 0)) 4 → ⊥
    go true b e = omega arith
    go false true e = omega arith
    go false false e = omega arith

-- a cause that lies in the probe alone is the first for any room
pub refuses_probe : (k m n : ℕ) → 0 < refusal_of 0 m 0 → refusal_of k m n ≡ refusal_of 0 m 0
unfolding refusal_of
refuses_probe k m n h = rw (le-ltb 0 (0 * m) (omega arith)) (go (eqb m 0) (ltb longest m) (rw (le-ltb 0 (0 * m) (omega arith)) at h))
  where
    go : (a b : Bool) → 0 < cond a 1 (cond b 2 0) → ◌≡◌ {A = ℕ} (cond a 1 (cond b 2 (cond (ltb n (k * m)) 4 0))) (cond a 1 (cond b 2 0))
    go true b e = refl
    go false true e = refl
    go false false e = absurd (omega arith)
