-- The causes of refusal, one by one. Assumes nothing.
use Rattle.std.specs.Prelude.{◌≡◌, refl, Bool, true, false, cond, not, ◌&&◌, ◌||◌, ℕ, ◌≤◌, ◌<◌, leb, ltb}
use Rattle.std.proofs.Common.{sym, ap, ◌∙◌, ⊎_elim, true≢false, arith}
use borrow.Author.Tests.{eq-eqb, ne_eqb, le-leb, lt-leb, lt-ltb, le-ltb, leb-true, ltb-false}
use Rattle.basics.specs.laws.Tests.{equal_or_not}
use Rattle.basics.specs.Refusal.{Cause}
use Rattle.drawlog.specs.Promise.{Tested}
use Rattle.pairs.specs.Check.{probe_size}
use Rattle.pairs.specs.Refusal.{longest, needed, table_size, too_short, own_cause, cause_of}

-- WORK ROOMS
module _ (p t e : ℕ) where
  pub short_tables : t < table_size p → too_short p t e ≡ true
  short_tables h = rw (lt-ltb t (table_size p) h)

  pub short_memory : table_size p ≤ t → too_short p t e ≡ ltb e (probe_size p)
  short_memory h = rw (le-ltb t (table_size p) h)

  pub long_enough : table_size p ≤ t → probe_size p ≤ e → too_short p t e ≡ false
  long_enough h i = short_memory h ∙ le-ltb e (probe_size p) i

  enough : too_short p t e ≡ false → (table_size p ≤ t) × (probe_size p ≤ e)
  enough q = go (ltb t (table_size p)) refl q
    where
      go : (b : Bool) → ltb t (table_size p) ≡ b → (b || ltb e (probe_size p)) ≡ false → (table_size p ≤ t) × (probe_size p ≤ e)
      go true h q = absurd (true≢false q)
      go false h q = (ltb-false t (table_size p) h, ltb-false e (probe_size p) q)

module _ (p t e n c : ℕ) where
  pub refuses_low : p < 1 → own_cause p t e n c ≡ 20
  unfolding own_cause
  refuses_low a = rw (lt-leb 1 p a)

  pub refuses_high : 1 ≤ p → longest < p → own_cause p t e n c ≡ 20
  unfolding own_cause
  refuses_high a b = rw (le-leb 1 p a, lt-leb p longest b)

  pub refuses_work : 1 ≤ p → p ≤ longest → too_short p t e ≡ true → own_cause p t e n c ≡ 4
  unfolding own_cause
  refuses_work a b h = rw (le-leb 1 p a, le-leb p longest b, h)

  pub refuses_result : 1 ≤ p → p ≤ longest → too_short p t e ≡ false → n < needed c → own_cause p t e n c ≡ 5
  unfolding own_cause
  refuses_result a b h k = rw (le-leb 1 p a, le-leb p longest b, h, lt-ltb n (needed c) k)

  pub refuses_none : 1 ≤ p → p ≤ longest → too_short p t e ≡ false → needed c ≤ n → own_cause p t e n c ≡ 0
  unfolding own_cause
  refuses_none a b h k = rw (le-leb 1 p a, le-leb p longest b, h, le-ltb n (needed c) k)

  -- of each room by itself
  pub refuses_tables : 1 ≤ p → p ≤ longest → t < table_size p → own_cause p t e n c ≡ 4
  refuses_tables a b h = refuses_work a b (short_tables p t e h)

  pub refuses_memory : 1 ≤ p → p ≤ longest → table_size p ≤ t → e < probe_size p → own_cause p t e n c ≡ 4
  refuses_memory a b h i = refuses_work a b (short_memory p t e h ∙ lt-ltb e (probe_size p) i)

  pub refuses_numbers : 1 ≤ p → p ≤ longest → table_size p ≤ t → probe_size p ≤ e → n < needed c → own_cause p t e n c ≡ 5
  refuses_numbers a b h i k = refuses_result a b (long_enough p t e h i) k

  pub refuses_nothing : 1 ≤ p → p ≤ longest → table_size p ≤ t → probe_size p ≤ e → needed c ≤ n → own_cause p t e n c ≡ 0
  refuses_nothing a b h i k = refuses_none a b (long_enough p t e h i) k

-- what none of them refuses
pub record Allowed (p t e n c : ℕ) : Type 0 where
  pub some : 1 ≤ p
  pub short : p ≤ longest
  pub tables : table_size p ≤ t
  pub memory : probe_size p ≤ e
  pub result : needed c ≤ n

allowed : (p t e n c : ℕ) → own_cause p t e n c ≡ 0 → Allowed p t e n c
unfolding own_cause
allowed p t e n c q = go (leb 1 p) refl (leb p longest) refl (too_short p t e) refl (ltb n (needed c)) refl q
  where
    go : (f : Bool) → leb 1 p ≡ f → (g : Bool) → leb p longest ≡ g → (h : Bool) → too_short p t e ≡ h → (k : Bool) → ltb n (needed c) ≡ k
        → ◌≡◌ {A = ℕ} (cond (not (f && g)) 20 (cond h 4 (cond k 5 0))) 0 → Allowed p t e n c
    go false ef g eg h eh k ek q = absurd (omega arith)
    go true ef false eg h eh k ek q = absurd (omega arith)
    go true ef true eg true eh k ek q = absurd (omega arith)
    go true ef true eg false eh true ek q = absurd (omega arith)
    go true ef true eg false eh false ek q =
        let w = enough p t e eh in
        record { some = leb-true 1 p ef; short = leb-true p longest eg; tables = w.0; memory = w.1; result = ltb-false n (needed c) ek }

-- WITH THE LOG TEST before them
module _ (r : Tested) (p t e n : ℕ) where
  pub cause_log : (r.refusal ≡ 0 → ⊥) → cause_of r p t e n ≡ record { refusal = r.refusal; entry = r.entry }
  unfolding cause_of
  cause_log h = rw (ne_eqb r.refusal 0 h)

  pub cause_own : r.refusal ≡ 0 → cause_of r p t e n ≡ record { refusal = own_cause p t e n r.count; entry = 0 }
  unfolding cause_of
  cause_own h = rw (eq-eqb r.refusal 0 h)

  pub cause-none : (cause_of r p t e n).refusal ≡ 0 → (r.refusal ≡ 0) × Allowed p t e n r.count
  cause-none q =
      ⊎_elim
      (λ (h : r.refusal ≡ 0). (h, allowed p t e n r.count (sym (ap (λ (c : Cause). c.refusal) (cause_own h)) ∙ q)))
      (λ (h : r.refusal ≡ 0 → ⊥). absurd (h (sym (ap (λ (c : Cause). c.refusal) (cause_log h)) ∙ q)))
      (equal_or_not r.refusal 0)
