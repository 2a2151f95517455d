-- The suffix table in linear time: SUFFIXES, figure 9 of source 001, section 4.1. Assumes nothing.
-- On the page g falls to −1. Here g1 is one more than g, and n is one more than the i whose round comes next.
use Rattle.std.specs.Prelude.{◌≡◌, refl, ◌⊎◌, Bool, true, cond, List, ◌++◌, leb, set}
use Rattle.std.proofs.Math.Path.{sym}
use Rattle.std.proofs.Common.{ap, ◌∙◌, eq-or-lt_of_le, add-one, length-set, set-set, drop-set-lt}
use Rattle.std.proofs.Math.Logic.{inl, inr, ⊎_elim}
use Rattle.std.proofs.Math.Bool.{false}
use Prim.Native.Nat.{ℕ, zero, suc, ◌+◌, ◌*◌, ◌-◌, ◌≤◌, ◌<◌, min}
use native.Mathlib.Omega.{arith}
use borrow.Author.Tests.{le-leb, lt-leb, lt-ltb, ltb-true, leb-true}
use Rattle.std.proofs.Math.Dec.{ltb}
use Rattle.std.proofs.Math.ListN.{length}
use Rattle.basics.specs.Lists.{at, table}
use Rattle.basics.specs.Rooms.{front}
use Rattle.basics.specs.laws.Tests.{and_true_both, le_or_lt}
use Rattle.basics.specs.laws.Lists.{length-table}
use Rattle.basics.specs.laws.Endings.{Level}
use Rattle.basics.specs.laws.Rooms.{Filled, down_to, down_none, down_more, down_at, down_all}
use Rattle.tables.specs.Suffix.{suffix_at, suffix_table}
use Rattle.tables.specs.Comparisons.{lcsuf, facing, falls, compared, told, rounds, comparisons}
use Rattle.tables.specs.laws.Suffix.{suffix_last}
use Rattle.tables.specs.laws.Lemma41.{lcsuf_le, lcsuf_is, suffix_beyond, Furthest, lemma_4_1}

-- g falls to −1 at most
pub falls_le : (x : List ℕ) (f g1 : ℕ) → falls x f g1 ≤ g1
unfolding falls
falls_le x f g1 = lcsuf_le x g1 (facing x f g1)

-- LINES 8 AND 9. Every pair is equal from g1 down to low, which is one more than g as it has fallen
module _ (x : List ℕ) (f g1 : ℕ) where
  abbrev pub Fell : ℕ → Type 0
  Fell low = (low ≤ g1) × ((t : ℕ) → t < g1 - low → Level x g1 x (facing x f g1) t)

  pub fell_none : Fell g1
  fell_none = (omega arith, λ t d. absurd (omega arith))

  module _ (h : f < length x) (l : g1 ≤ f + 1) where
    -- nothing is left to compare, or what is left begins with an unequal pair
    fell_is : (low : ℕ) → Fell low → (low ≡ 0) ⊎ (Level x g1 x (facing x f g1) (g1 - low) → ⊥) → falls x f g1 ≡ g1 - low
    unfolding falls
    fell_is low a stop =
        lcsuf_is x g1 (facing x f g1) (omega arith) (omega arith) (g1 - low) (omega arith) a.1
        (⊎_elim (λ (e : low ≡ 0). inl (omega arith)) (λ differ. inr differ) stop)

    module _ (g : ℕ) (a : Fell (g + 1)) where
      pub fell_more : at x g ≡ at x (facing x f g) → Fell g
      fell_more e = (
        omega (arith, a.0),
        λ t d.
            ⊎_elim
            (λ (q : t ≡ g1 - (g + 1)) u v eu ev.
            let w : u ≡ g = omega (arith, a.0) in
            let z : v ≡ facing x f g = omega (arith, a.0) in
            rw (w, z) e)
            (λ (q : t < g1 - (g + 1)). a.1 t q)
            (eq-or-lt_of_le (omega (arith, a.0))),
      )

      -- an unequal pair ends it, and was compared too
      pub fell_stops : (at x g ≡ at x (facing x f g) → ⊥) → (falls x f g1 ≡ g1 - (g + 1)) × (compared x f g1 ≡ g1 - g)
      unfolding compared
      fell_stops n =
          let e = fell_is (g + 1) a (inr (λ level. n (level g (facing x f g) (omega (arith, a.0)) (omega (arith, a.0))))) in
          (e, omega (arith, a.0, e))

    pub fell_ends : Fell 0 → (falls x f g1 ≡ g1) × (compared x f g1 ≡ g1)
    unfolding compared
    fell_ends a = let e = fell_is 0 a (inl refl) in (omega (arith, e), omega (arith, e))

-- LINE 4, as it is tested
module _ (x : List ℕ) (i f g1 : ℕ) where
  pub told_is : g1 ≤ i → {k : ℕ} {b : Bool} → k ≡ suffix_at x (facing x f i) → ltb k (i + 1 - g1) ≡ b → told x i f g1 ≡ b
  unfolding told
  told_is l e t = rw (le-leb g1 i l, ← e) t

  pub told-not : i < g1 → told x i f g1 ≡ false
  unfolding told
  told-not l = rw (lt-leb g1 i l)

-- BEFORE THE FIRST ROUND no j lies between i and m − 1: g is m − 1, and f has no value on the page
abbrev pub Ready : List ℕ → ℕ → ℕ → ℕ → Type 0
Ready x n f g1 = ((n + 1 ≡ length x) × (f ≡ n) × (g1 ≡ length x)) ⊎ Furthest x n f g1

ready_high : (x : List ℕ) (n f g1 : ℕ) → Ready x n f g1 → (n ≤ f) × (f < length x)
ready_high x n f g1 (inl e) = (omega arith, omega arith)
ready_high x n f g1 (inr a) = (a.low, omega (arith, a.high))

-- no entry from i on reaches lower than g
none_lower : (x : List ℕ) (i g1 : ℕ) → suffix_at x i + g1 ≤ i + 1 → ((j : ℕ) → i < j → j + 1 < length x → suffix_at x j + g1 ≤ j + 1)
    → (j : ℕ) → i ≤ j → j + 1 < length x → suffix_at x j + g1 ≤ j + 1
none_lower x i g1 here above j l h = ⊎_elim (λ (e : i ≡ j). rw (← e) here) (λ (u : i < j). above j u h) (eq-or-lt_of_le l)

-- ONE ROUND, for i
module _ (x : List ℕ) (i f g1 : ℕ) (ready : Ready x (i + 1) f g1) where
  furthest : g1 ≤ i → Furthest x (i + 1) f g1
  furthest l = ⊎_elim (λ e. absurd (omega (arith, e))) (λ a. a) ready

  within : i + 1 < length x
  within = ⊎_elim (λ e. omega (arith, e)) (λ a. omega (arith, a.low, a.high)) ready

  -- line 4 holds
  module _ (t : told x i f g1 ≡ true) where
    above : (g1 ≤ i) × (suffix_at x (facing x f i) < i + 1 - g1)
    unfolding told
    above =
        let b = and_true_both (leb g1 i) (ltb (suffix_at x (facing x f i)) (i + 1 - g1)) t in
        (leb-true g1 i b.0, ltb-true (suffix_at x (facing x f i)) (i + 1 - g1) b.1)

    pub told_entry : suffix_at x i ≡ suffix_at x (facing x f i)
    told_entry = rw (lt-ltb (suffix_at x (facing x f i)) (i + 1 - g1) above.1) at (lemma_4_1 x i f g1 (furthest above.0) above.0)

    told_ready : Ready x i f g1
    told_ready =
        let a = furthest above.0 in
        inr
        (record {
          low = omega (arith, a.low);
          high = a.high;
          reached = a.reached;
          least = none_lower x i g1 (omega (arith, told_entry, above)) (λ j u h. a.least j (omega arith) h);
        })

  -- line 4 does not hold: g falls from the lesser of g and i
  module _ (t : told x i f g1 ≡ false) (from : ℕ) (e : from ≡ min g1 (i + 1)) where
    pub fallen_entry : suffix_at x i ≡ i + 1 - from + falls x i from
    unfolding falls told
    fallen_entry = ⊎_elim inside outside (le_or_lt g1 i)
      where
        inside : g1 ≤ i → suffix_at x i ≡ i + 1 - from + lcsuf x from (facing x i from)
        inside l =
            let k : ℕ = suffix_at x (facing x f i) in
            let u : ltb k (i + 1 - g1) ≡ false = rw (le-leb g1 i l) at t in
            let w : from ≡ g1 = omega arith in
            let q : length x - (i + 1) + g1 ≡ facing x i g1 = omega (arith, within) in
            rw w (rw (u, q) at (lemma_4_1 x i f g1 (furthest l) l))

        outside : i < g1 → suffix_at x i ≡ i + 1 - from + lcsuf x from (facing x i from)
        outside l =
            let w : from ≡ i + 1 = omega arith in
            let q : facing x i (i + 1) ≡ length x = omega (arith, within) in
            let z : i + 1 - (i + 1) ≡ 0 = omega arith in
            rw (w, q, z) (suffix_beyond x i 0 (i + 1) (length x) (omega (arith, within)) (omega arith) (omega arith) (omega arith))

    fallen_ready : Ready x i i (from - falls x i from)
    fallen_ready =
        inr
        (record {
          low = omega arith;
          high = within;
          reached = omega (arith, fallen_entry, falls_le x i from);
          least = none_lower x i (from - falls x i from) (omega (arith, fallen_entry, falls_le x i from))
              (λ j u h. ⊎_elim (λ z. absurd (omega (arith, z))) (λ a. omega (arith, a.least j (omega arith) h)) ready);
        })

-- THEOREM 4.3: less than 2m comparisons. Each equal pair lets g fall (the page's proof has j for it), and each round finds one unequal pair at most
compared_few : (x : List ℕ) (i from r : ℕ) → r ≤ i + (from - falls x i from) → compared x i from + r ≤ suc i + from
unfolding compared
compared_few x i from r h = omega (arith, falls_le x i from)

rounds_few : (x : List ℕ) (n f g1 : ℕ) → rounds x n f g1 ≤ n + min g1 n
unfolding rounds
rounds_few x zero f g1 = omega arith
rounds_few x (suc i) f g1 =
    let from : ℕ = min g1 (i + 1) in
    let low : ℕ = from - falls x i from in
    go (told x i f g1) (omega (arith, rounds_few x i f g1)) (omega (arith, compared_few x i from (rounds x i i low) (omega (arith, rounds_few x i i low))))
  where
    go : (b : Bool) {u v w : ℕ} → u ≤ w → v ≤ w → cond b u v ≤ w
    go true p q = p
    go false p q = q

pub theorem_4_3 : (x : List ℕ) → 1 ≤ length x → comparisons x < 2 * length x
unfolding comparisons
theorem_4_3 x h = omega (arith, rounds_few x (length x - 1) (length x - 1) (length x))

-- WHAT THE LOOP KEEPS: f and g, the entries from n on in the room d, which was d₀, and the comparisons made, c
pub record Going (x d₀ : List ℕ) (n f g1 c : ℕ) (d : List ℕ) : Type 0 where
  pub ready : Ready x n f g1
  pub done : Filled (down_to (suffix_at x) d₀ n) d₀ (length x) d
  pub count : c + rounds x n f g1 ≡ comparisons x

-- lines 1 and 2
pub going_none : (x d : List ℕ) (n : ℕ) → n + 1 ≡ length x → length x ≤ length d → Going x (set d n (length x)) n n (length x) 0 (set d n (length x))
unfolding comparisons
going_none x d n e l =
    let w : n ≡ length x - 1 = omega arith in
    let d₀ : List ℕ = set d n (length x) in
    let none : Filled (down_to (suffix_at x) d₀ (n + 1)) d₀ (length x) d₀ = rw e (down_none (suffix_at x) d₀ (length x) (omega (arith, length-set d n (length x)))) in
    record {
      ready = inl (e, refl, refl);
      done = rw (set-set d n (length x) (length x)) at (down_more (suffix_at x) (length x) n none (omega arith) (sym (suffix_last x n e)));
      count = rw w (omega arith);
    }

module _ {x d₀ d : List ℕ} {n f g1 c : ℕ} (g : Going x d₀ n f g1 c d) where
  -- f lies in x, and the count is small
  pub going_within : (n ≤ f) × (f < length x) × (c < 2 * length x)
  going_within =
      let b = ready_high x n f g1 g.ready in
      (b.0, b.1, omega (arith, b, g.count, theorem_4_3 x (omega (arith, b))))

module _ {x d₀ d : List ℕ} {i f g1 c : ℕ} (g : Going x d₀ (i + 1) f g1 c d) where
  -- what line 4 reads
  pub going_entry : g1 ≤ i → {r : ℕ} → r ≡ at d (facing x f i) → r ≡ suffix_at x (facing x f i)
  going_entry l e =
      let a = furthest x i f g1 g.ready l in
      e ∙ down_at (suffix_at x) (length x) (i + 1) g.done (facing x f i) (omega (arith, a.low, a.high)) (omega (arith, a.low, a.high))

  -- line 5
  pub going_told : told x i f g1 ≡ true → {v : ℕ} → v ≡ suffix_at x (facing x f i) → Going x d₀ i f g1 c (set d i v)
  unfolding rounds
  going_told t e =
      record {
        ready = told_ready x i f g1 g.ready t;
        done = down_more (suffix_at x) (length x) i g.done (omega (arith, within x i f g1 g.ready)) (e ∙ sym (told_entry x i f g1 g.ready t));
        count = rw (add-one i, t) at g.count;
      }

  -- lines 6 to 10
  pub going_fallen : told x i f g1 ≡ false → {from low c' v : ℕ} → from ≡ min g1 (i + 1) → low ≡ from - falls x i from → c' ≡ c + compared x i from
      → v ≡ i + 1 - low → Going x d₀ i i low c' (set d i v)
  unfolding rounds
  going_fallen t {from} e el ec ev =
      rw el
      (record {
        ready = fallen_ready x i f g1 g.ready t from e;
        done = down_more (suffix_at x) (length x) i g.done (omega (arith, within x i f g1 g.ready)) (omega (arith, fallen_entry x i f g1 g.ready t from e, falls_le x i from));
        count = omega (arith, rw (add-one i, t, ← e) at g.count);
      })

pub going_all : {x d' : List ℕ} {f g1 c : ℕ} (d : List ℕ) (n v : ℕ) → Going x (set d n v) 0 f g1 c d' → n < length x → (d' ≡ front (suffix_table x) d) × (c ≡ comparisons x)
unfolding rounds suffix_table
going_all {x} d n v g l = (
  down_all (suffix_at x) (length x) g.done ∙ ap (λ (r : List ℕ). table (length x) (suffix_at x) ++ r) (drop-set-lt (length (table (length x) (suffix_at x))) d n v (omega (arith, length-table (length x) (suffix_at x)))),
  omega (arith, g.count),
)
