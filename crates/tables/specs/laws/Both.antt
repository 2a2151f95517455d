-- Pairs in one room: put together, taken apart, and written while the others stay. Assumes nothing.
use Rattle.std.specs.Prelude.{◌≡◌, refl, List, [], ◌∷◌, ◌++◌, ℕ, zero, suc, ◌+◌, ◌*◌, ◌≤◌, ◌<◌, length, drop, set}
use Rattle.std.proofs.Common.{sym, ap, ◌∙◌, add-one, arith}
use Rattle.std.proofs.Math.Seq.{drop-nil}
use Rattle.basics.specs.Lists.{at}
use Rattle.basics.specs.Rooms.{front, Begins}
use Rattle.basics.specs.laws.Lists.{table_is}
use Rattle.basics.specs.laws.Rooms.{begins_front}
use Rattle.tables.specs.Suffix.{suffix_at, suffix_table}
use Rattle.tables.specs.Shift.{shift_at, shift_table}
use Rattle.tables.specs.Both.{in_pairs, both_tables, firsts, seconds}
use Rattle.tables.specs.Inside.{Firstly, Secondly, every_second}
use Rattle.tables.specs.laws.Suffix.{length-suffix_table, at-suffix_table, suffix_le}
use Rattle.tables.specs.laws.Shift.{length-shift_table, at-shift_table}

twice : (i : ℕ) → 2 * suc i ≡ suc (suc (2 * i))
twice i = omega arith

twice_one : (i : ℕ) → 2 * suc i + 1 ≡ suc (suc (2 * i + 1))
twice_one i = omega arith

-- the second ones are the first ones of what follows the first number
second_first : (a : ℕ) (d : List ℕ) → seconds (a ∷ d) ≡ firsts d
unfolding firsts seconds
second_first a [] = refl
second_first a (b ∷ []) = refl
second_first a (b ∷ c ∷ d) = ap (λ (l : List ℕ). b ∷ l) (second_first c d)

-- WHAT STANDS WHERE
pub at-firsts : (d : List ℕ) (i : ℕ) → at (firsts d) i ≡ at d (2 * i)
unfolding firsts
at-firsts [] i = refl
at-firsts (a ∷ []) zero = refl
at-firsts (a ∷ []) (suc i) = rw (twice i)
at-firsts (a ∷ b ∷ d) zero = refl
at-firsts (a ∷ b ∷ d) (suc i) = rw (twice i) (at-firsts d i)

pub at-seconds : (d : List ℕ) (i : ℕ) → at (seconds d) i ≡ at d (2 * i + 1)
unfolding seconds
at-seconds [] i = refl
at-seconds (a ∷ d) i = rw (second_first a d, add-one (2 * i)) (at-firsts d i)

-- how many there are: as many of the one as of the other, or one more first
pub record Halves (n f s : ℕ) : Type 0 where
  pub all : f + s ≡ n
  pub low : s ≤ f
  pub high : f ≤ s + 1

pub halves : (d : List ℕ) → Halves (length d) (length (firsts d)) (length (seconds d))
unfolding firsts seconds
halves [] = record { all = refl; low = omega arith; high = omega arith }
halves (a ∷ []) = record { all = refl; low = omega arith; high = omega arith }
halves (a ∷ b ∷ d) =
    let h = halves d in
    record { all = omega (arith, h.all); low = omega (arith, h.low); high = omega (arith, h.high) }

-- a room of 2n numbers or more has n pairs or more
pub half_reaches : (n : ℕ) (d : List ℕ) → 2 * n ≤ length d → (n ≤ length (firsts d)) × (n ≤ length (seconds d))
half_reaches n d l = let h = halves d in (omega (arith, h.all, h.low, h.high), omega (arith, h.all, h.low, h.high))

pub within_firsts : (d : List ℕ) (i : ℕ) → i < length (firsts d) → 2 * i < length d
within_firsts d i l = let h = halves d in omega (arith, h.all, h.low, h.high)

-- rooms with as many of each are equally long
pub same_halves : (d d' : List ℕ) → length (firsts d) ≡ length (firsts d') → length (seconds d) ≡ length (seconds d') → length d ≡ length d'
same_halves d d' f s = omega (arith, (halves d).all, (halves d').all)

-- ONE NUMBER WRITTEN: a first one
pub firsts-set : (d : List ℕ) (i v : ℕ) → firsts (set d (2 * i) v) ≡ set (firsts d) i v
unfolding firsts
firsts-set [] i v = refl
firsts-set (a ∷ []) zero v = refl
firsts-set (a ∷ []) (suc i) v = rw (twice i)
firsts-set (a ∷ b ∷ d) zero v = refl
firsts-set (a ∷ b ∷ d) (suc i) v = rw (twice i) (ap (λ (l : List ℕ). a ∷ l) (firsts-set d i v))

pub firsts_kept : (d : List ℕ) (i v : ℕ) → firsts (set d (2 * i + 1) v) ≡ firsts d
unfolding firsts
firsts_kept [] i v = refl
firsts_kept (a ∷ []) zero v = refl
firsts_kept (a ∷ []) (suc i) v = rw (twice_one i)
firsts_kept (a ∷ b ∷ d) zero v = refl
firsts_kept (a ∷ b ∷ d) (suc i) v = rw (twice_one i) (ap (λ (l : List ℕ). a ∷ l) (firsts_kept d i v))

-- and a second one
pub seconds-set : (d : List ℕ) (i v : ℕ) → seconds (set d (2 * i + 1) v) ≡ set (seconds d) i v
unfolding seconds
seconds-set [] i v = refl
seconds-set (a ∷ d) i v = rw (add-one (2 * i), second_first a d, second_first a (set d (2 * i) v)) (firsts-set d i v)

pub seconds_kept : (d : List ℕ) (i v : ℕ) → seconds (set d (2 * i) v) ≡ seconds d
unfolding seconds
seconds_kept [] i v = refl
seconds_kept (a ∷ d) zero v = second_first v d ∙ sym (second_first a d)
seconds_kept (a ∷ d) (suc i) v =
    let e : 2 * suc i ≡ suc (2 * i + 1) = omega arith in
    rw (e, second_first a d, second_first a (set d (2 * i + 1) v)) (firsts_kept d i v)

-- PUT TOGETHER AND TAKEN APART
pub length_pairs : (s h : List ℕ) → length s ≡ length h → length (in_pairs s h) ≡ 2 * length s
unfolding in_pairs
length_pairs [] h e = refl
length_pairs (a ∷ s) [] e = absurd (omega arith)
length_pairs (a ∷ s) (b ∷ h) e = omega (arith, length_pairs s h (omega arith))

pub firsts-pairs : (s h : List ℕ) → length s ≡ length h → firsts (in_pairs s h) ≡ s
unfolding firsts in_pairs
firsts-pairs [] h e = refl
firsts-pairs (a ∷ s) [] e = absurd (omega arith)
firsts-pairs (a ∷ s) (b ∷ h) e = ap (λ (l : List ℕ). a ∷ l) (firsts-pairs s h (omega arith))

pub seconds-pairs : (s h : List ℕ) → length s ≡ length h → seconds (in_pairs s h) ≡ h
unfolding seconds in_pairs
seconds-pairs [] [] e = refl
seconds-pairs [] (b ∷ h) e = absurd (omega arith)
seconds-pairs (a ∷ s) [] e = absurd (omega arith)
seconds-pairs (a ∷ s) (b ∷ h) e = ap (λ (l : List ℕ). b ∷ l) (seconds-pairs s h (omega arith))

together : (d : List ℕ) → in_pairs (firsts d) (seconds d) ≡ d
unfolding in_pairs firsts seconds
together [] = refl
together (a ∷ []) = refl
together (a ∷ b ∷ d) = ap (λ (l : List ℕ). a ∷ b ∷ l) (together d)

pairs-append : (s h u v : List ℕ) → length s ≡ length h → in_pairs (s ++ u) (h ++ v) ≡ in_pairs s h ++ in_pairs u v
unfolding in_pairs
pairs-append [] [] u v e = refl
pairs-append [] (b ∷ h) u v e = absurd (omega arith)
pairs-append (a ∷ s) [] u v e = absurd (omega arith)
pairs-append (a ∷ s) (b ∷ h) u v e = ap (λ (l : List ℕ). a ∷ b ∷ l) (pairs-append s h u v (omega arith))

drop-pairs : (n : ℕ) (d : List ℕ) → in_pairs (drop n (firsts d)) (drop n (seconds d)) ≡ drop (2 * n) d
unfolding in_pairs firsts seconds
drop-pairs zero d = together d
drop-pairs (suc n) [] = rw (twice n)
drop-pairs (suc n) (a ∷ []) = rw (twice n, drop-nil {A = ℕ} n)
drop-pairs (suc n) (a ∷ b ∷ d) = rw (twice n) (drop-pairs n d)

-- A ROOM WRITTEN, in its firsts or in its seconds
pub begins_first : {t d d' : List ℕ} → Firstly t d d' → 2 * length t ≤ length d → Begins t (firsts d')
begins_first {t} {d} w l = begins_front t (firsts d) (half_reaches (length t) d l).0 w.written

pub begins_second : {t d d' : List ℕ} → Secondly t d d' → 2 * length t ≤ length d → Begins t (seconds d')
begins_second {t} {d} w l = begins_front t (seconds d) (half_reaches (length t) d l).1 w.written

both_written : {s h d d₁ d₂ : List ℕ} → Firstly s d d₁ → Secondly h d₁ d₂ → length s ≡ length h → d₂ ≡ front (in_pairs s h) d
both_written {s} {h} {d} {d₁} {d₂} u v e =
    let f : firsts d₂ ≡ front s (firsts d) = v.others ∙ u.written in
    let g : seconds d₂ ≡ front h (seconds d) = v.written ∙ ap (front h) u.others in
    let n : length h ≡ length s = sym e in
    let rest : in_pairs (drop (length s) (firsts d)) (drop (length s) (seconds d)) ≡ drop (2 * length s) d = drop-pairs (length s) d in
    let apart : in_pairs (front s (firsts d)) (front h (seconds d)) ≡ in_pairs s h ++ in_pairs (drop (length s) (firsts d)) (drop (length h) (seconds d)) =
    pairs-append s h (drop (length s) (firsts d)) (drop (length h) (seconds d)) e in
    rw (← together d₂, f, g, apart, n, rest, length_pairs s h e)

-- EVERY SECOND NUMBER of a room that has a list in front of its firsts, or of its seconds, is that list
pub first_of_each : {t : List ℕ} (d : List ℕ) (m : ℕ) → length t ≡ m → Begins t (firsts d) → every_second 0 d m ≡ t
first_of_each {t} d m n b =
    sym
    (table_is m (λ i. at d (0 + 2 * i)) t n
    (λ i l. let e : 2 * i ≡ 0 + 2 * i = omega arith in sym (b.entry i (omega arith)) ∙ at-firsts d i ∙ ap (at d) e))

pub second_of_each : {t : List ℕ} (d : List ℕ) (m : ℕ) → length t ≡ m → Begins t (seconds d) → every_second 1 d m ≡ t
second_of_each {t} d m n b =
    sym
    (table_is m (λ i. at d (1 + 2 * i)) t n
    (λ i l. let e : 2 * i + 1 ≡ 1 + 2 * i = omega arith in sym (b.entry i (omega arith)) ∙ at-seconds d i ∙ ap (at d) e))

-- BOTH TABLES
pub equal_lengths : (x : List ℕ) → length (suffix_table x) ≡ length (shift_table x)
equal_lengths x = length-suffix_table x ∙ sym (length-shift_table x)

pub length-both_tables : (x : List ℕ) → length (both_tables x) ≡ 2 * length x
unfolding both_tables
length-both_tables x = length_pairs (suffix_table x) (shift_table x) (equal_lengths x) ∙ ap (λ (n : ℕ). 2 * n) (length-suffix_table x)

-- TAKEN APART they are the two tables
pub suffix_apart : (x : List ℕ) → firsts (both_tables x) ≡ suffix_table x
unfolding both_tables
suffix_apart x = firsts-pairs (suffix_table x) (shift_table x) (equal_lengths x)

pub shift_apart : (x : List ℕ) → seconds (both_tables x) ≡ shift_table x
unfolding both_tables
shift_apart x = seconds-pairs (suffix_table x) (shift_table x) (equal_lengths x)

pub both_filled : (x : List ℕ) {d d₁ d₂ : List ℕ} → Firstly (suffix_table x) d d₁ → Secondly (shift_table x) d₁ d₂ → d₂ ≡ front (both_tables x) d
unfolding both_tables
both_filled x u v = both_written u v (equal_lengths x)

-- a room that has them in front
pub both_reaches : (x : List ℕ) {d : List ℕ} → Begins (both_tables x) d → 2 * length x ≤ length d
both_reaches x b = omega (arith, b.reaches, length-both_tables x)

pub suffix_there : (x : List ℕ) {d : List ℕ} → Begins (both_tables x) d → (i : ℕ) {r : ℕ} → r ≡ at d (2 * i) → i < length x → (r ≡ suffix_at x i) × (r ≤ suc i)
suffix_there x {d} b i {r} e h =
    let q : r ≡ suffix_at x i =
    e ∙ b.entry (2 * i) (omega (arith, length-both_tables x)) ∙ sym (at-firsts (both_tables x) i) ∙ ap (λ (l : List ℕ). at l i) (suffix_apart x) ∙ at-suffix_table x i h in
    (q, omega (arith, suffix_le x i h))

pub shift_there : (x : List ℕ) {d : List ℕ} → Begins (both_tables x) d → (i : ℕ) {r : ℕ} → r ≡ at d (2 * i + 1) → i < length x → r ≡ shift_at x i
shift_there x b i e h =
    e ∙ b.entry (2 * i + 1) (omega (arith, length-both_tables x)) ∙ sym (at-seconds (both_tables x) i) ∙ ap (λ (l : List ℕ). at l i) (shift_apart x) ∙ at-shift_table x i h
