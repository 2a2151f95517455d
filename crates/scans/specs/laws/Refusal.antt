-- The causes of refusal, one by one. Assumes nothing.
use Rattle.std.specs.Prelude.{◌≡◌, refl, Bool, true, false, cond, ◌||◌, ℕ, ◌*◌, ◌≤◌, ◌<◌, eqb, ltb, Result, Ok, Err, IsErrAnd}
use Rattle.std.proofs.Common.{sym, ap, ◌∙◌, arith}
use borrow.Author.Tests.{eqb-false, eq-eqb, ne_eqb, lt-ltb, le-ltb, ltb-false}
use Rattle.basics.specs.declared.refusal.Refusal.{Refusal}
use Rattle.tables.specs.Refusal.{longest}
use Rattle.scans.specs.Refusal.{largest, refusal_of}

module _ (m n t e : ℕ) where
  pub refuses_empty : m ≡ 0 → refusal_of m n t e ≡ 1
  unfolding refusal_of
  refuses_empty a = rw (eq-eqb m 0 a)

  pub refuses_long : (m ≡ 0 → ⊥) → longest < m → refusal_of m n t e ≡ 2
  unfolding refusal_of
  refuses_long a b = rw (ne_eqb m 0 a, lt-ltb longest m b)

  pub refuses_large : (m ≡ 0 → ⊥) → m ≤ longest → largest < n → refusal_of m n t e ≡ 3
  unfolding refusal_of
  refuses_large a b c = rw (ne_eqb m 0 a, le-ltb longest m b, lt-ltb largest n c)

  pub refuses_tables : (m ≡ 0 → ⊥) → m ≤ longest → n ≤ largest → t < 2 * m → refusal_of m n t e ≡ 4
  unfolding refusal_of
  refuses_tables a b c d = rw (ne_eqb m 0 a, le-ltb longest m b, le-ltb largest n c, lt-ltb t (2 * m) d)

  pub refuses_memory : (m ≡ 0 → ⊥) → m ≤ longest → n ≤ largest → 2 * m ≤ t → e < m → refusal_of m n t e ≡ 4
  unfolding refusal_of
  refuses_memory a b c d f = rw (ne_eqb m 0 a, le-ltb longest m b, le-ltb largest n c, le-ltb t (2 * m) d, lt-ltb e m f)

  pub refuses_none : (m ≡ 0 → ⊥) → m ≤ longest → n ≤ largest → 2 * m ≤ t → m ≤ e → refusal_of m n t e ≡ 0
  unfolding refusal_of
  refuses_none a b c d f = rw (ne_eqb m 0 a, le-ltb longest m b, le-ltb largest n c, le-ltb t (2 * m) d, le-ltb e m f)

-- what `?` hands on is the refusal that it met
pub handed_on : {A : Type 0} {f : Refusal} (r : Result A Refusal) → IsErrAnd r (λ e. e ≡ f) → r ≡ Err f
handed_on (Ok a) h = absurd h
handed_on (Err e) h = ap Err h

-- sizes that no cause refuses
pub record Accepted (m n t e : ℕ) : Type 0 where
  pub some : 1 ≤ m
  pub short : m ≤ longest
  pub small : n ≤ largest
  pub tables : 2 * m ≤ t
  pub memory : m ≤ e

pub accepted : (m n t e : ℕ) {k : ℕ} → k ≡ refusal_of m n t e → k ≡ 0 → Accepted m n t e
unfolding refusal_of
accepted m n t e q z = go (eqb m 0) refl (ltb longest m) refl (ltb largest n) refl (ltb t (2 * m)) refl (ltb e m) refl (sym q ∙ z)
  where
    go : (a : Bool) → eqb m 0 ≡ a → (b : Bool) → ltb longest m ≡ b → (c : Bool) → ltb largest n ≡ c → (d : Bool) → ltb t (2 * m) ≡ d → (f : Bool) → ltb e m ≡ f
        → ◌≡◌ {A = ℕ} (cond a 1 (cond b 2 (cond c 3 (cond (d || f) 4 0)))) 0 → Accepted m n t e
    go true ea b eb c ec d ed f ef q = absurd (omega arith)
    go false ea true eb c ec d ed f ef q = absurd (omega arith)
    go false ea false eb true ec d ed f ef q = absurd (omega arith)
    go false ea false eb false ec true ed f ef q = absurd (omega arith)
    go false ea false eb false ec false ed true ef q = absurd (omega arith)
    go false ea false eb false ec false ed false ef q =
        record {
          some = omega (arith, eqb-false m 0 ea);
          short = ltb-false longest m eb;
          small = ltb-false largest n ec;
          tables = ltb-false t (2 * m) ed;
          memory = ltb-false e m ef;
        }

pub accepts : {m n t e : ℕ} → Accepted m n t e → refusal_of m n t e ≡ 0
accepts {m} {n} {t} {e} a = refuses_none m n t e (λ z. omega (arith, a.some)) a.short a.small a.tables a.memory
