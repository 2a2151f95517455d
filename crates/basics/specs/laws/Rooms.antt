-- Laws of rooms: after a call, and while a loop fills one. Assumes nothing.
use Rattle.std.specs.Prelude.{◌≡◌, refl, cond, List, [], ◌∷◌, ◌++◌, ℕ, zero, suc, ◌+◌, ◌-◌, ◌≤◌, ◌<◌, min, leb, length, get_or, take, drop, set, replicate}
use Rattle.std.proofs.Common.{sym, ap, ◌∙◌, ⊎_elim, append_assoc, add-one, arith, le-leb, length-append, length-drop, take-append-drop, drop-cons, drop_at, drop-drop, get_or-take, length-take-le}
use Rattle.std.proofs.lemmas.Bool.{lt-leb}
use Rattle.std.proofs.lemmas.List.{length-replicate, get_or-replicate, set_at, set-append_left}
use Rattle.std.proofs.Math.ListN.{get_or-append}
use Rattle.basics.specs.Lists.{at, table}
use Rattle.basics.specs.Rooms.{front, room_after, Begins}
use Rattle.basics.specs.laws.Tests.{le_or_lt}
use Rattle.basics.specs.laws.Lists.{length-table, at_table, table_is, table_ext, set-table}

-- a refusal leaves the room
pub room_kept : (r : ℕ) (t d : List ℕ) → (r ≡ 0 → ⊥) → room_after r t d ≡ d
room_kept zero t d h = absurd (h refl)
room_kept (suc r) t d h = refl

-- a room with a list in front: as long as it was, that list first, and the rest as it was
module _ (t d : List ℕ) (h : length t ≤ length d) where
  pub length_front : length (front t d) ≡ length d
  length_front = simp (length-append, length-drop) (omega arith)

  pub begins_front : {d' : List ℕ} → d' ≡ front t d → Begins t d'
  begins_front {d'} e =
      record {
        reaches = omega (arith, ap length e, length_front);
        entry = λ k l. ap (λ (r : List ℕ). at r k) e ∙ get_or-append t (drop (length t) d) 0 k l;
      }

pub drop-front : (t d : List ℕ) (n : ℕ) → length t ≤ n → drop n (front t d) ≡ drop n d
drop-front t d n l =
    let q : length t + (n - length t) ≡ n = omega arith in
    rw q
    at (sym (drop-drop (n - length t) (length t) (front t d)) ∙ ap (drop (n - length t)) (drop_at t (drop (length t) d) (length t) refl) ∙ drop-drop (n - length t) (length t) d)

-- a longer list written over a shorter one
pub front_then : (t u d d₁ : List ℕ) {d₂ : List ℕ} → d₁ ≡ front t d → d₂ ≡ front u d₁ → length t ≤ length u → d₂ ≡ front u d
front_then t u d d₁ p q l = q ∙ ap (λ (r : List ℕ). u ++ r) (ap (drop (length u)) p ∙ drop-front t d (length u) l)

-- the same list again changes nothing
pub front_again : (t d : List ℕ) {d₁ : List ℕ} → d₁ ≡ front t d → d₁ ≡ front t d₁
front_again t d {d₁} p = p ∙ sym (front_then t t d d₁ p refl (omega arith))

-- a room that is long enough is cleared as far as was asked
pub cleared : (n : ℕ) (d : List ℕ) {d' : List ℕ} → n ≤ length d → d' ≡ front (replicate (min n (length d)) 0) d → d' ≡ front (replicate n 0) d
cleared n d h e = let q : min n (length d) ≡ n = omega arith in rw q at e

-- UNCHANGED FROM A PLACE ON: the room d' is as long as the room d was, and the same from place n on
pub record Beyond (n : ℕ) (d d' : List ℕ) : Type 0 where
  pub size : length d' ≡ length d
  pub rest : drop n d' ≡ drop n d

pub beyond_none : {n : ℕ} {d : List ℕ} → Beyond n d d
beyond_none = record { size = refl; rest = refl }

pub beyond_then : {n : ℕ} {d d₁ d₂ : List ℕ} → Beyond n d d₁ → Beyond n d₁ d₂ → Beyond n d d₂
beyond_then u v = record { size = v.size ∙ u.size; rest = v.rest ∙ u.rest }

pub beyond_front : (n : ℕ) (t d : List ℕ) {d' : List ℕ} → d' ≡ front t d → length t ≡ n → n ≤ length d → Beyond n d d'
beyond_front n t d e q l =
    record { size = ap length e ∙ length_front t d (omega arith); rest = ap (drop n) e ∙ drop-front t d n (omega arith) }

-- the first n entries are cleared at last
pub beyond_cleared : {n : ℕ} {d d₁ d₂ : List ℕ} → n ≤ length d → Beyond n d d₁ → (z : ℕ) → z ≡ n → d₂ ≡ front (replicate (min z (length d₁)) 0) d₁ → d₂ ≡ front (replicate n 0) d
beyond_cleared {n} {d} {d₁} l u z q e =
    let c = cleared n d₁ (omega (arith, u.size)) (rw q at e) in
    c ∙ rw (length-replicate {A = ℕ} n 0) (ap (λ (r : List ℕ). replicate n 0 ++ r) u.rest)

-- A LOOP THAT FILLS: d is the room d₀ with the first i entries of f in front
pub record Filled (f : ℕ → ℕ) (d₀ : List ℕ) (i : ℕ) (d : List ℕ) : Type 0 where
  pub is : d ≡ front (table i f) d₀

pub filled_none : {f : ℕ → ℕ} {d : List ℕ} → Filled f d 0 d
unfolding table
filled_none = record { is = refl }

one_more : (f : ℕ → ℕ) (d : List ℕ) (i : ℕ) → i < length d → set (table i f ++ drop i d) i (f i) ≡ table (i + 1) f ++ drop (i + 1) d
unfolding table
one_more f d i h =
    ap (λ (l : List ℕ). set (table i f ++ l) i (f i)) (drop-cons d i 0 h)
    ∙ set_at (table i f) (get_or d i 0) (drop (suc i) d) (f i) i (length-table i f)
    ∙ simp add-one (sym (append_assoc (table i f) (f i ∷ []) (drop (suc i) d)))

pub filled_more : {f : ℕ → ℕ} {d₀ d : List ℕ} {i v : ℕ} → Filled f d₀ i d → i < length d₀ → v ≡ f i → Filled f d₀ (i + 1) (set d i v)
filled_more {f} {d₀} {d} {i} {v} g h q = record { is = rw (g.is, q, length-table i f, length-table (i + 1) f) (one_more f d₀ i h) }

pub filled_length : {f : ℕ → ℕ} {d₀ d : List ℕ} {i : ℕ} → Filled f d₀ i d → i ≤ length d₀ → length d ≡ length d₀
filled_length {f} {d₀} {d} {i} g h = ap length g.is ∙ length_front (table i f) d₀ (omega (arith, length-table i f))

pub filled_all : {f : ℕ → ℕ} {d₀ d : List ℕ} {i n : ℕ} → Filled f d₀ i d → i ≡ n → d ≡ front (table n f) d₀
filled_all {f} {d₀} {d} {i} {n} g e = rw e at g.is

-- only the first i values of f matter
pub filled_ext : {f g : ℕ → ℕ} {d₀ d : List ℕ} {i : ℕ} → Filled f d₀ i d → ((k : ℕ) → k < i → f k ≡ g k) → Filled g d₀ i d
filled_ext {f} {g} {d₀} {d} {i} p h = record { is = p.is ∙ ap (λ (t : List ℕ). front t d₀) (table_ext i f g h) }

pub filled_at : {f : ℕ → ℕ} {d₀ d : List ℕ} {i : ℕ} → Filled f d₀ i d → (k : ℕ) → k < i → at d k ≡ f k
filled_at {f} {d₀} {d} {i} g k l =
    ap (λ (r : List ℕ). at r k) g.is ∙ get_or-append (table i f) (drop (length (table i f)) d₀) 0 k (omega (arith, length-table i f)) ∙ at_table i f k l

-- a room filled with zeros
pub filled_zeros : {d₀ d : List ℕ} {i : ℕ} (n : ℕ) → Filled (λ k. 0) d₀ i d → i ≡ n → d ≡ front (replicate n 0) d₀
filled_zeros {d₀} n g e =
    filled_all g e ∙ ap (λ (t : List ℕ). front t d₀) (sym (table_is n (λ k. 0) (replicate n 0) (length-replicate n 0) (λ k l. get_or-replicate n k 0 0 l)))

-- one entry is written anew
pub filled_set : {f g : ℕ → ℕ} {d₀ d : List ℕ} {i b v : ℕ} → Filled f d₀ i d → b < i → g b ≡ v → ((k : ℕ) → k < i → (k ≡ b → ⊥) → f k ≡ g k)
    → Filled g d₀ i (set d b v)
filled_set {f} {g} {d₀} {d} {i} {b} {v} p l e other =
    record {
      is =
          ap (λ (r : List ℕ). set r b v) p.is
          ∙ set-append_left (table i f) (drop (length (table i f)) d₀) b v (omega (arith, length-table i f))
          ∙ rw (set-table i f g b v l e other, length-table i f, length-table i g);
    }

-- a room filled on from what fills another
pub filled_then : {f g : ℕ → ℕ} {d₀ d d' : List ℕ} {i n : ℕ} → Filled f d₀ i d → Filled g d n d' → i ≤ n → Filled g d₀ n d'
filled_then {f} {g} {d₀} {d} {d'} {i} {n} p q l =
    record { is = front_then (table i f) (table n g) d₀ d p.is q.is (omega (arith, length-table i f, length-table n g)) }

-- A LOOP THAT FILLS DOWNWARD: from place i on the entries of f, and before it what stood in the room d
abbrev pub down_to : (ℕ → ℕ) → List ℕ → ℕ → ℕ → ℕ
down_to f d i k = cond (leb i k) (f k) (at d k)

pub down_on : (f : ℕ → ℕ) (d : List ℕ) (i k : ℕ) → i ≤ k → down_to f d i k ≡ f k
down_on f d i k l = rw (le-leb i k l)

pub down_none : (f : ℕ → ℕ) (d : List ℕ) (n : ℕ) → n ≤ length d → Filled (down_to f d n) d n d
down_none f d n h =
    let t : take n d ≡ table n (down_to f d n) =
    table_is n (down_to f d n) (take n d) (length-take-le n d h) (λ k l. get_or-take n d k 0 l ∙ rw (lt-leb n k l)) in
    record { is = sym (take-append-drop n d) ∙ rw (t, length-table n (down_to f d n)) }

pub down_more : (f : ℕ → ℕ) {d₀ d : List ℕ} (n i : ℕ) {v : ℕ} → Filled (down_to f d₀ (i + 1)) d₀ n d → i < n → v ≡ f i → Filled (down_to f d₀ i) d₀ n (set d i v)
down_more f {d₀} {d} n i {v} g h e =
    filled_set g h (down_on f d₀ i i (omega arith) ∙ sym e)
    (λ k l other.
    ⊎_elim
    (λ (u : i ≤ k). down_on f d₀ (i + 1) k (omega arith) ∙ sym (down_on f d₀ i k u))
    (λ (u : k < i). rw (lt-leb (i + 1) k (omega arith), lt-leb i k u))
    (le_or_lt i k))

pub down_at : (f : ℕ → ℕ) {d₀ d : List ℕ} (n i : ℕ) → Filled (down_to f d₀ i) d₀ n d → (k : ℕ) → i ≤ k → k < n → at d k ≡ f k
down_at f {d₀} n i g k l u = filled_at g k u ∙ down_on f d₀ i k l

pub down_all : (f : ℕ → ℕ) {d₀ d : List ℕ} (n : ℕ) → Filled (down_to f d₀ 0) d₀ n d → d ≡ front (table n f) d₀
down_all f {d₀} n g = filled_all (filled_ext g (λ k l. down_on f d₀ 0 k (omega arith))) refl
