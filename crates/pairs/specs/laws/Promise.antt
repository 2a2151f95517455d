-- From what was found to what the check promises. Assumes nothing.
use Rattle.std.specs.Prelude.{◌≡◌, refl, List, ◌++◌, ℕ, zero, suc, ◌*◌, ◌≤◌, min, length, drop, replicate}
use Rattle.std.proofs.Common.{sym, ap, ◌∙◌, arith}
use Rattle.std.proofs.lemmas.List.{length-replicate}
use Rattle.basics.specs.Rooms.{front}
use Rattle.basics.specs.laws.Rooms.{beyond_cleared, room_kept}
use Rattle.basics.specs.Refusal.{Cause}
use Rattle.drawlog.specs.Log.{count}
use Rattle.drawlog.specs.Promise.{Tested, tested_of}
use Rattle.pairs.specs.Check.{probe_size, Pair, pairs, unprobed, numbers}
use Rattle.pairs.specs.Refusal.{table_size, cause_of}
use Rattle.pairs.specs.Promise.{step, checked_of, cause, Checking}
use Rattle.pairs.specs.declared.run.Run.{Run}
use Rattle.pairs.specs.Inside.{Worked, Ready, Found, Onward}
use Rattle.basics.specs.laws.Inlaid.{inlaid_front}
use Rattle.pairs.specs.laws.Check.{tested_count, tested_few, pairs-most}
use Rattle.pairs.specs.laws.Refusal.{Allowed, cause-none}

-- THE ANSWER, number by number
pub checked_refusal : (r k : ℕ) (qs : List Pair) (u : ℕ) → (checked_of r k qs u).refusal ≡ r
unfolding checked_of
checked_refusal zero k qs u = refl
checked_refusal (suc r) k qs u = refl

pub checked_entry : (r k : ℕ) (qs : List Pair) (u : ℕ) → (r ≡ 0 → ⊥) → (checked_of r k qs u).entry ≡ k
unfolding checked_of
checked_entry zero k qs u n = absurd (n refl)
checked_entry (suc r) k qs u n = refl

pub checked_numbers : (r k : ℕ) (qs : List Pair) (u : ℕ) → r ≡ 0 → ((checked_of r k qs u).pairs ≡ length qs) × ((checked_of r k qs u).unprobed ≡ u)
unfolding checked_of
checked_numbers zero k qs u z = (refl, refl)
checked_numbers (suc r) k qs u z = absurd (omega arith)

-- the cause as the code looks for it
pub cause_is : (s : List ℕ) (p : ℕ) (t e d : List ℕ) {r : Tested} {k : Cause} → r ≡ tested_of s → k ≡ cause_of r p (length t) (length e) (length d)
    → k ≡ cause s p t e d
cause_is s p t e d u q = rw u at q

-- ON REFUSAL
checked_no : (r k : ℕ) (qs : List Pair) (u : ℕ) → (r ≡ 0 → ⊥) → record { refusal = r; entry = k; pairs = 0; unprobed = 0 } ≡ checked_of r k qs u
unfolding checked_of
checked_no zero k qs u n = absurd (n refl)
checked_no (suc r) k qs u n = refl

pub refused_is : {s : List ℕ} {p : ℕ} {t e d : List ℕ} {k : Cause} → k ≡ cause s p t e d → (k.refusal ≡ 0 → ⊥)
    → Checking s p t e d (record { refusal = k.refusal; entry = k.entry; pairs = 0; unprobed = 0 }) t e d
refused_is {s} {p} {t} {e} {d} {k} q n =
    record {
      answer =
          checked_no k.refusal k.entry (pairs step p s (count s)) (unprobed p s (count s)) n
          ∙ ap (λ (k : Cause). checked_of k.refusal k.entry (pairs step p s (count s)) (unprobed p s (count s))) q;
      tables = sym (room_kept k.refusal (replicate (table_size p) 0) t n);
      memory = sym (room_kept k.refusal (replicate (probe_size p) 0) e n);
      result = sym (room_kept k.refusal (numbers (pairs step p s (count s))) d n);
    }

-- ON SUCCESS: what the searches may rely on
pub record Granted (s : List ℕ) (p : ℕ) (t e d : List ℕ) : Type 0 where
  pub number : (tested_of s).count ≡ count s
  pub allowed : Allowed p (length t) (length e) (length d) (tested_of s).count
  pub ready : Ready (probe_size p) t e

pub granted : {s : List ℕ} {p : ℕ} {t e d : List ℕ} {k : Cause} → k ≡ cause s p t e d → k.refusal ≡ 0 → Granted s p t e d
granted {s} {p} {t} {e} {d} {k} q z =
    let g = cause-none (tested_of s) p (length t) (length e) (length d) (ap (λ (k : Cause). k.refusal) (sym q) ∙ z) in
    let a = g.1 in
    record {
      number = tested_count s g.0;
      allowed = a;
      ready = record { some = omega (arith, a.some); short = omega (arith, a.short); tables = a.tables; memory = a.memory };
    }

-- the numbers found fit 32 bits
pub found_few : {k : Cause} {n : ℕ} {u v : Run} → k ≡ cause u.log.now u.p u.tables.now u.memory.now u.res.now → k.refusal ≡ 0 → u.pairs ≡ 0
    → Onward (pairs step u.p u.log.now u.count) n u v → v.pairs ≤ 4032
found_few {u = u} q z0 none g =
    let e : u.count ≡ count u.log.now = u.counted ∙ (granted q z0).number in
    omega (arith, g.found.number, ap (λ (c : ℕ). length (pairs step u.p u.log.now c)) e, pairs-most step u.p u.log.now (omega (arith, e, u.counted, tested_few u.log.now)))

-- and what they give once the work rooms are cleared
pub done_is : {s : List ℕ} {p c n u z : ℕ} {t e d t₁ e₁ t₂ e₂ d₁ : List ℕ} {k : Cause} → k ≡ cause s p t e d → k.refusal ≡ 0 → c ≡ (tested_of s).count → z ≡ probe_size p
    → Found (pairs step p s c) 0 d n d₁ → u ≡ unprobed p s c → Worked (probe_size p) t e t₁ e₁
    → t₂ ≡ front (replicate (min (2 * z) (length t₁)) 0) t₁ → e₂ ≡ front (replicate (min z (length e₁)) 0) e₁
    → Checking s p t e d (record { refusal = 0; entry = 0; pairs = n; unprobed = u }) t₂ e₂ d₁
unfolding checked_of
done_is {s} {p} {c} {n} {u} {z} {t} {e} {d} {t₁} {e₁} {t₂} {e₂} {d₁} {k} q z0 ec ez found eu worked ct ce =
    let none : (cause s p t e d).refusal ≡ 0 = ap (λ (k : Cause). k.refusal) (sym q) ∙ z0 in
    let given : Granted s p t e d = granted q z0 in
    let all : c ≡ count s = ec ∙ given.number in
    let g : Found (pairs step p s (count s)) 0 d n d₁ = rw all at found in
    let en : n ≡ length (pairs step p s (count s)) = omega (arith, g.number) in
    let eu' : u ≡ unprobed p s (count s) = rw all at eu in
    record {
      answer = rw none (λ i. record { refusal = 0; entry = 0; pairs = en i; unprobed = eu' i });
      tables = beyond_cleared given.ready.tables worked.tables (2 * z) (ap (λ (m : ℕ). 2 * m) ez) ct;
      memory = beyond_cleared given.ready.memory worked.memory z ez ce;
      result = inlaid_front g.laid;
    }

-- the same of a check under way
padded : (m : ℕ) (d : List ℕ) {ys : List ℕ} → m ≤ length d → ys ≡ replicate m 0 → ys ++ drop m d ≡ front (replicate (min m (length d)) 0) d
padded m d h e = let q : min m (length d) ≡ m = omega arith in rw (q, e, length-replicate {A = ℕ} m 0) refl

pub done_run : {k : Cause} {u v : Run} {z : ℕ} {t₁ e₁ d₁ ys zs : List ℕ} → k ≡ cause u.log.now u.p u.tables.now u.memory.now u.res.now → k.refusal ≡ 0
    → u.pairs ≡ 0 → u.unprobed ≡ 0 → Onward (pairs step u.p u.log.now u.count) (unprobed u.p u.log.now u.count) u v → z ≡ probe_size u.p
    → t₁ ≡ v.tables.now → e₁ ≡ v.memory.now → d₁ ≡ v.res.now → ys ≡ replicate (2 * z) 0 → zs ≡ replicate z 0
    → Checking u.log.now u.p u.tables.now u.memory.now u.res.now (record { refusal = 0; entry = 0; pairs = v.pairs; unprobed = v.unprobed }) (ys ++ drop (2 * z) t₁) (zs ++ drop z e₁) d₁
done_run {u = u} {v = v} {z = z} q z0 none first g ez et ee ed ey ex =
    let given : Granted u.log.now u.p u.tables.now u.memory.now u.res.now = granted q z0 in
    let missed : v.unprobed ≡ unprobed u.p u.log.now u.count = omega (arith, g.unprobed, first) in
    rw (et, ee, ed)
    (done_is q z0 u.counted ez (rw none at g.found) missed g.worked
    (padded (2 * z) _ (omega (arith, ez, given.ready.tables, g.worked.tables.size)) ey)
    (padded z _ (omega (arith, ez, given.ready.memory, g.worked.memory.size)) ex))
