-- Laws of an id that is read byte by byte. Assumes nothing.
use Rattle.std.specs.Prelude.{◌≡◌, refl, Bool, true, false, ◌&&◌, cond, List, [], ◌∷◌, ℕ, suc, ◌+◌, ◌-◌, ◌*◌, ◌≤◌, ◌<◌, min, ltb, length, drop}
use Rattle.std.proofs.Common.{sym, ap, ◌∙◌, ⊎_elim, add-one, arith, lt-ltb, le-ltb, le-leb, drop_of_length-le, drop-cons}
use Rattle.std.proofs.lemmas.Bool.{lt-leb}
use Rattle.basics.specs.Lists.{at}
use Rattle.basics.specs.laws.Tests.{bool_case, le_or_lt}
use Rattle.lines.specs.Digits.{zero_byte, digit_byte, value_on}
use Rattle.lines.proofs.Digits.{value_none, value-more, value_is, value_grows}
use Rattle.binding.specs.Ids.{Id, limit, is_digit, all_digits, is_id, id_of}
use Rattle.binding.specs.Inside.{none, id_on, next}

-- from the limit on there is no id
past_limit : (t : Bool) (n : ℕ) → limit ≤ n → ◌≡◌ {A = Id} (cond (t && ltb n limit) (record { good = true; value = n }) none) none
past_limit true n h = rw (le-ltb n limit h)
past_limit false n h = refl

pub on_limit : (v : ℕ) (w : List ℕ) → limit ≤ v → id_on v w ≡ none
unfolding id_on
on_limit v w h = past_limit (all_digits w) (value_on v w) (omega (arith, value_grows v w))

-- one byte more
on_digit : (v b : ℕ) (w : List ℕ) → is_digit b ≡ true → id_on v (b ∷ w) ≡ id_on (v * 10 + (b - zero_byte)) w
unfolding id_on all_digits
on_digit v b w e = rw (e, value-more v b w)

on_other : (v b : ℕ) (w : List ℕ) → is_digit b ≡ false → id_on v (b ∷ w) ≡ none
unfolding id_on all_digits
on_other v b w e = rw e

capped : (n : ℕ) (w : List ℕ) → id_on n w ≡ id_on (min n limit) w
capped n w =
    ⊎_elim
    (λ (l : limit ≤ n). on_limit n w l ∙ sym (on_limit (min n limit) w (omega arith)))
    (λ (l : n < limit). ap (λ (k : ℕ). id_on k w) (omega arith))
    (le_or_lt limit n)

pub on_next : (v b : ℕ) (w : List ℕ) → id_on v (b ∷ w) ≡ id_on (next v b) w
unfolding next
on_next v b w =
    bool_case (is_digit b) (λ t. id_on v (b ∷ w) ≡ id_on (cond t (min (v * 10 + (b - zero_byte)) limit) limit) w)
    (λ e. on_digit v b w e ∙ capped (v * 10 + (b - zero_byte)) w)
    (λ e. on_other v b w e ∙ sym (on_limit limit w (omega arith)))

pub next_le : (v b : ℕ) → next v b ≤ limit
unfolding next
next_le v b = bool_case (is_digit b) (λ t. cond t (min (v * 10 + (b - zero_byte)) limit) limit ≤ limit) (λ e. omega arith) (λ e. omega arith)

-- the cases of `next`
pub next_low : (v b : ℕ) → b < zero_byte → next v b ≡ limit
unfolding next
next_low v b h = rw (lt-leb zero_byte b h)

pub next_high : (v b : ℕ) → digit_byte 9 < b → next v b ≡ limit
unfolding next
next_high v b h = rw (le-leb zero_byte b (omega arith), lt-leb b (digit_byte 9) h)

pub next_digit : (v b : ℕ) → zero_byte ≤ b → b ≤ digit_byte 9 → next v b ≡ min (v * 10 + (b - zero_byte)) limit
unfolding next
next_digit v b h l = rw (le-leb zero_byte b h, le-leb b (digit_byte 9) l)

-- THE READING LOOP: i bytes of w are read, and v says what they are
pub record Read (w : List ℕ) (i v : ℕ) : Type 0 where
  pub small : v ≤ limit
  pub inside : i ≤ length w
  pub is : id_on 0 w ≡ id_on v (drop i w)

pub read_none : (w : List ℕ) → Read w 0 0
read_none w = record { small = omega arith; inside = omega arith; is = refl }

pub read_more : {w : List ℕ} {i v u : ℕ} → Read w i v → i < length w → u ≡ next v (at w i) → Read w (i + 1) u
read_more {w} {i} {v} a h e =
    record {
      small = omega (arith, e, next_le v (at w i));
      inside = omega arith;
      is = a.is ∙ ap (id_on v) (drop-cons w i 0 h) ∙ on_next v (at w i) (drop (suc i) w) ∙ rw (add-one, e);
    }

-- a text of one byte or more
id_some : (w : List ℕ) → 0 < length w → id_of w ≡ id_on 0 w
unfolding id_of is_id id_on
id_some w h = rw (lt-ltb 0 (length w) h, value_is w)

pub read_empty : (w : List ℕ) → length w ≡ 0 → id_of w ≡ none
unfolding id_of is_id
read_empty w e = rw (le-ltb 0 (length w) (omega arith))

alone : (v : ℕ) → v < limit → id_on v [] ≡ record { good = true; value = v }
unfolding id_on all_digits
alone v g = rw (value_none v, lt-ltb v limit g)

-- a byte after which the text can be no id
pub read_stop : {w : List ℕ} {i v : ℕ} → Read w i v → i < length w → limit ≤ next v (at w i) → id_of w ≡ none
read_stop {w} {i} {v} a h l =
    id_some w (omega arith)
    ∙ a.is
    ∙ ap (id_on v) (drop-cons w i 0 h)
    ∙ on_next v (at w i) (drop (suc i) w)
    ∙ on_limit (next v (at w i)) (drop (suc i) w) l

module _ {w : List ℕ} {i v : ℕ} (a : Read w i v) (h : length w ≤ i) (l : 0 < i) where
  rest : id_of w ≡ id_on v []
  rest = id_some w (omega (arith, a.inside)) ∙ a.is ∙ ap (id_on v) (drop_of_length-le w h)

  pub read_bad : limit ≤ v → id_of w ≡ none
  read_bad g = rest ∙ on_limit v [] g

  pub read_all : v < limit → id_of w ≡ record { good = true; value = v }
  read_all g = rest ∙ alone v g
