-- Laws of the pairs: one block more, one owner more, and how many there can be. Assumes nothing.
use Rattle.std.specs.Prelude.{◌≡◌, eqb, take, drop}
use Rattle.std.proofs.Math.Path.{refl, ap}
use Rattle.std.proofs.Common.{sym, ◌∙◌, ⊎_elim, eq-or-lt_of_le, le_of_suc-le-suc, mul-le-mul, mul-le-mul_right, eq-eqb, ne_eqb, le-leb, length-append, length-take, length-drop, get_or-drop, drop_at}
use Rattle.std.proofs.Math.Bool.{cond}
use mathlib.Core.List.{List, [], ◌∷◌, ◌++◌}
use Prim.Native.Nat.{ℕ, zero, suc, ◌+◌, ◌-◌, ◌*◌, ◌≤◌, ◌<◌, zero-le}
use Rattle.std.proofs.Math.Numerals.{add-one}
use native.Mathlib.Omega.{arith}
use Rattle.std.proofs.lemmas.Bool.{lt-leb}
use Rattle.std.proofs.Math.ListN.{length, get_or-append}
use Rattle.basics.specs.Lists.{at}
use Rattle.basics.specs.laws.Tests.{bool_case, equal_or_not, le_or_lt}
use Rattle.scans.specs.Occurrences.{occurrences, multiples, first_of}
use Rattle.drawlog.specs.Log.{count, id_at, length_at}
use Rattle.drawlog.specs.Refusal.{cause_of}
use Rattle.drawlog.specs.Promise.{Tested, tested_of, Listed, listed_of}
use Rattle.drawlog.specs.laws.Refusal.{accepted_is}
use Rattle.drawlog.specs.laws.Promise.{tested_yes, tested_no, listed_at, holding}
use Rattle.drawlog.proofs.Promise.{listed_within}
use Rattle.pairs.specs.Check.{block, probe_size, probe, probed, Pair, pair_at, pair_with, pairs_with, pairs_of, pairs, unprobed, numbers}
use Rattle.pairs.specs.Refusal.{needed}

-- THE NUMBERS, four for each pair
pub numbers-append : (qs rs : List Pair) → numbers (qs ++ rs) ≡ numbers qs ++ numbers rs
unfolding numbers
numbers-append [] rs = refl
numbers-append (q ∷ qs) rs = ap (λ (l : List ℕ). q.owner ∷ q.other ∷ q.first ∷ q.number ∷ l) (numbers-append qs rs)

pub length-numbers : (qs : List Pair) → length (numbers qs) ≡ 4 * length qs
unfolding numbers
length-numbers [] = refl
length-numbers (q ∷ qs) = omega (arith, length-numbers qs)

-- the four numbers of a pair behind others
pub number_at : (ps : List Pair) (q : Pair) (qs : List Pair) (t : ℕ) → t < 4
    → at (numbers (ps ++ (q ∷ qs))) (4 * length ps + t) ≡ at (q.owner ∷ q.other ∷ q.first ∷ q.number ∷ []) t
unfolding numbers
number_at ps q qs t h =
    sym (get_or-drop (4 * length ps) (numbers (ps ++ (q ∷ qs))) t 0)
    ∙ ap (λ (l : List ℕ). at l t)
    (ap (drop (4 * length ps)) (numbers-append ps (q ∷ qs)) ∙ drop_at (numbers ps) (numbers (q ∷ qs)) (4 * length ps) (length-numbers ps))
    ∙ get_or-append (q.owner ∷ q.other ∷ q.first ∷ q.number ∷ []) (numbers qs) 0 t h

-- THE BLOCKS of a log with an entry k
module _ (s : List ℕ) (k : ℕ) (h : k < (tested_of s).count) where
  pub block_is : take (listed_of s k).length (drop (listed_of s k).start s) ≡ block s k
  block_is = rw (listed_at s k h)

  pub block-length : length (block s k) ≡ length_at s k
  block-length = simp (length-take, length-drop) (omega (arith, rw (listed_at s k h) at (listed_within s k)))

  -- the same of the stretch y that the log hands out for it, and of what is cut off it as a probe of n bytes
  pub handed_length : {y : List ℕ} → y ≡ take (listed_of s k).length (drop (listed_of s k).start s) → length y ≡ length_at s k
  handed_length e = ap length (e ∙ block_is) ∙ block-length

  pub handed_probe : {y : List ℕ} (p n : ℕ) → y ≡ take (listed_of s k).length (drop (listed_of s k).start s) → n ≡ probe_size p → take n y ≡ probe p s k
  handed_probe p n e q = rw q (ap (take (probe_size p)) (e ∙ block_is))

  pub block_short : length (block s k) ≤ 65536
  block_short = simp (length-take, length-drop) (omega (arith, (holding s k h).good.frame.short))

  pub id_is : {l : Listed} → l ≡ listed_of s k → l.id ≡ id_at s k
  id_is e = ap (λ (l : Listed). l.id) (e ∙ listed_at s k h)

  pub count_is : (tested_of s).count ≡ count s
  count_is = (holding s k h).number

  pub few_entries : count s ≤ 64
  few_entries = (holding s k h).good.frame.few

-- and of any log
module _ (s : List ℕ) where
  pub tested_few : (tested_of s).count ≤ 64
  tested_few =
      ⊎_elim
      (λ (h : (cause_of s).refusal ≡ 0). omega (arith, ap (λ (t : Tested). t.count) (tested_yes s h), (accepted_is s h).frame.few))
      (λ (h : (cause_of s).refusal ≡ 0 → ⊥). omega (arith, ap (λ (t : Tested). t.count) (tested_no s h)))
      (equal_or_not (cause_of s).refusal 0)

  pub tested_count : (tested_of s).refusal ≡ 0 → (tested_of s).count ≡ count s
  tested_count z =
      ⊎_elim
      (λ (h : (cause_of s).refusal ≡ 0). ap (λ (t : Tested). t.count) (tested_yes s h))
      (λ (h : (cause_of s).refusal ≡ 0 → ⊥). absurd (h (sym (ap (λ (t : Tested). t.refusal) (tested_no s h)) ∙ z)))
      (equal_or_not (cause_of s).refusal 0)

-- ONE PAIR, as the code finds it
pair_none : (i j : ℕ) (fs : List ℕ) → length fs ≡ 0 → pair_at i j fs ≡ []
unfolding pair_at
pair_none i j [] e = refl
pair_none i j (f ∷ fs) e = absurd (omega arith)

pair_some : (i j : ℕ) (fs : List ℕ) → (length fs ≡ 0 → ⊥) → pair_at i j fs ≡ record { owner = i; other = j; first = first_of fs; number = length fs } ∷ []
unfolding pair_at
pair_some i j [] n = absurd (n refl)
pair_some i j (f ∷ fs) n = refl

-- the pair of owner a, whose probe is x, with block b, if there is one
abbrev pub made : ℕ → List ℕ → List ℕ → ℕ → ℕ → Pair
made d x s a b =
    let fs = multiples d (occurrences x (block s b)) in record { owner = id_at s a; other = id_at s b; first = first_of fs; number = length fs }

module _ (d : ℕ) (x s : List ℕ) (a b : ℕ) where
  pub with_self : a ≡ b → pair_with d x s a b ≡ []
  unfolding pair_with
  with_self e = rw (eq-eqb a b e)

  pub with_none : (a ≡ b → ⊥) → length (multiples d (occurrences x (block s b))) ≡ 0 → pair_with d x s a b ≡ []
  unfolding pair_with
  with_none n z = rw (ne_eqb a b n) (pair_none (id_at s a) (id_at s b) (multiples d (occurrences x (block s b))) z)

  pub with_some : (a ≡ b → ⊥) → (length (multiples d (occurrences x (block s b))) ≡ 0 → ⊥)
      → pair_with d x s a b ≡ made d x s a b ∷ []
  unfolding pair_with
  with_some n z = rw (ne_eqb a b n) (pair_some (id_at s a) (id_at s b) (multiples d (occurrences x (block s b))) z)

  -- of the numbers that the code has in hand
  pub with_found : {i j f n : ℕ} → (a ≡ b → ⊥) → i ≡ id_at s a → j ≡ id_at s b → f ≡ first_of (multiples d (occurrences x (block s b)))
      → n ≡ length (multiples d (occurrences x (block s b))) → (n ≡ 0 → ⊥) → [] ++ (record { owner = i; other = j; first = f; number = n } ∷ []) ≡ pair_with d x s a b
  with_found n' ei ej ef en some = rw (ei, ej, ef, en) (sym (with_some n' (λ z. some (en ∙ z))))

  at_most_one : (fs : List ℕ) → length (pair_at (id_at s a) (id_at s b) fs) ≤ 1
  unfolding pair_at
  at_most_one [] = zero-le
  at_most_one (f ∷ fs) = omega arith

  with_le : length (pair_with d x s a b) ≤ 1
  unfolding pair_with
  with_le =
      bool_case (eqb a b) (λ t. length (cond t [] (pair_at (id_at s a) (id_at s b) (multiples d (occurrences x (block s b))))) ≤ 1)
      (λ e. zero-le)
      (λ e. at_most_one (multiples d (occurrences x (block s b))))

-- ONE OWNER, block after block
module _ (d : ℕ) (x s : List ℕ) (a : ℕ) where
  pub with_first : pairs_with d x s a 0 ≡ []
  unfolding pairs_with
  with_first = refl

  pub with_next : (b : ℕ) → pairs_with d x s a b ++ pair_with d x s a b ≡ pairs_with d x s a (b + 1)
  unfolding pairs_with
  with_next b = rw add-one

  -- at most one pair for each block
  pub with_few : (n : ℕ) → length (pairs_with d x s a n) ≤ n
  unfolding pairs_with
  with_few zero = zero-le
  with_few (suc b) = rw (length-append (pairs_with d x s a b) (pair_with d x s a b)) (omega (arith, with_few b, with_le d x s a b))

  -- and none for its own
  pub with_fewer : (n : ℕ) → a < n → length (pairs_with d x s a n) < n
  unfolding pairs_with
  with_fewer zero h = absurd (omega arith)
  with_fewer (suc b) h =
      rw (length-append (pairs_with d x s a b) (pair_with d x s a b))
      (⊎_elim
      (λ (e : a ≡ b). omega (arith, with_few b, ap length (with_self d x s a b e)))
      (λ (l : a < b). omega (arith, with_fewer b l, with_le d x s a b))
      (eq-or-lt_of_le (le_of_suc-le-suc h)))

  -- so there is room for one more before any other block b
  pub with_room : (b n : ℕ) → (a ≡ b → ⊥) → a < n → b < n → length (pairs_with d x s a b) + 1 ≤ n - 1
  with_room b n other h l =
      ⊎_elim
      (λ (u : a ≤ b). ⊎_elim (λ (e : a ≡ b). absurd (other e)) (λ (v : a < b). omega (arith, with_fewer b v)) (eq-or-lt_of_le u))
      (λ (u : b < a). omega (arith, with_few b))
      (le_or_lt a b)

-- probed or not
module _ (d p : ℕ) (s : List ℕ) (a : ℕ) where
  pub of_probed : probe_size p ≤ length_at s a → pairs_of d p s a ≡ pairs_with d (probe p s a) s a (count s)
  unfolding pairs_of
  of_probed h = rw (le-leb (probe_size p) (length_at s a) h)

  -- as the code searches, with the probe cut off the stretch y, and with c blocks
  pub of_handed : {y : List ℕ} (n c : ℕ) → a < (tested_of s).count → y ≡ take (listed_of s a).length (drop (listed_of s a).start s) → n ≡ probe_size p → n ≤ length y
      → c ≡ (tested_of s).count → pairs_with d (take n y) s a c ≡ pairs_of d p s a
  of_handed {y} n c h e q l u =
      let v : c ≡ count s = u ∙ count_is s a h in
      rw (handed_probe s a h p n e q, v) (sym (of_probed (omega (arith, handed_length s a h e))))

  pub of_unprobed : length_at s a < probe_size p → pairs_of d p s a ≡ []
  unfolding pairs_of
  of_unprobed h = rw (lt-leb (probe_size p) (length_at s a) h)

  of_few : a < count s → length (pairs_of d p s a) ≤ count s - 1
  unfolding pairs_of
  of_few h =
      bool_case (probed p s a) (λ t. length (cond t (pairs_with d (probe p s a) s a (count s)) []) ≤ count s - 1)
      (λ e. omega (arith, with_fewer d (probe p s a) s a (count s) h))
      (λ e. zero-le)

pub told-probed : (p : ℕ) (s : List ℕ) (a : ℕ) → probe_size p ≤ length_at s a → ◌≡◌ {A = ℕ} (cond (probed p s a) 0 1) 0
told-probed p s a h = rw (le-leb (probe_size p) (length_at s a) h)

pub told-unprobed : (p : ℕ) (s : List ℕ) (a : ℕ) → length_at s a < probe_size p → ◌≡◌ {A = ℕ} (cond (probed p s a) 0 1) 1
told-unprobed p s a h = rw (lt-leb (probe_size p) (length_at s a) h)

-- OWNER AFTER OWNER
module _ (d p : ℕ) (s : List ℕ) where
  pub pairs_first : pairs d p s 0 ≡ []
  unfolding pairs
  pairs_first = refl

  pub pairs_next : (a : ℕ) → pairs d p s a ++ pairs_of d p s a ≡ pairs d p s (a + 1)
  unfolding pairs
  pairs_next a = rw add-one

  pub pairs_few : (n : ℕ) → n ≤ count s → length (pairs d p s n) ≤ n * (count s - 1)
  unfolding pairs
  pairs_few zero h = zero-le
  pairs_few (suc a) h =
      rw (length-append (pairs d p s a) (pairs_of d p s a)) (omega (arith, pairs_few a (omega arith), of_few d p s a h))

  pub pairs-most : count s ≤ 64 → length (pairs d p s (count s)) ≤ 4032
  pairs-most h =
      let most : count s * (count s - 1) ≤ 64 * 63 = mul-le-mul {n₁ = count s} {m₁ = count s - 1} {n₂ = 64} {m₂ = 63} (omega arith) (omega arith) in
      omega (arith, pairs_few (count s) (omega arith))

  -- so there is room for the pairs of one owner more
  pub pairs_room : (a c : ℕ) → a < c → c ≡ count s → c ≤ 64 → (4 * (length (pairs d p s a) + (c - 1)) ≤ needed c) × (length (pairs d p s a) ≤ 4096)
  pairs_room a c h e l =
      let few : length (pairs d p s a) ≤ a * (c - 1) = rw e (pairs_few a (omega arith)) in
      let more : suc a * (c - 1) ≤ c * (c - 1) = mul-le-mul_right (c - 1) h in
      let most : a * (c - 1) ≤ 64 * 64 = mul-le-mul {n₁ = a} {m₁ = c - 1} {n₂ = 64} {m₂ = 64} (omega arith) (omega arith) in
      (omega arith, omega arith)

module _ (p : ℕ) (s : List ℕ) where
  pub unprobed_first : unprobed p s 0 ≡ 0
  unfolding unprobed
  unprobed_first = refl

  pub unprobed-next : {u v : ℕ} (a : ℕ) → u ≡ unprobed p s a → v ≡ u + cond (probed p s a) 0 1 → v ≡ unprobed p s (a + 1)
  unfolding unprobed
  unprobed-next a e q = q ∙ rw (e, add-one)

  pub unprobed_le : (n : ℕ) → unprobed p s n ≤ n
  unfolding unprobed
  unprobed_le zero = zero-le
  unprobed_le (suc a) =
      bool_case (probed p s a) (λ t. unprobed p s a + cond t 0 1 ≤ suc a) (λ e. omega (arith, unprobed_le a)) (λ e. omega (arith, unprobed_le a))
