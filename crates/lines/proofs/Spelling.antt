-- Digits written to the end of an array, the last one first: what the spelling loop keeps. Assumes nothing.
--
--     text  . . . . 0 3 2        4032: three digits are written, 4 is left
--                 |              the next digit's place
use Rattle.std.specs.Prelude.{◌≡◌, List, [], ◌∷◌, ◌++◌, ℕ, suc, ◌-◌, ◌/◌, ◌%◌, ◌^◌, ◌≤◌, ◌<◌, length, take, drop, set}
use Rattle.std.proofs.Common.{sym, ap, ◌∙◌, append_assoc, append-nil, arith, length-append, length-drop, length-set, drop_of_length-le, length-take-le, drop_at}
use Rattle.std.proofs.lemmas.List.{set_split}
use Rattle.lines.specs.Digits.{digit_byte, digits, most_digits}
use Rattle.lines.proofs.Digits.{digits_one, digits_more, digits_some, digits_fit, length_more}

-- the digits of `rest` are still to be written, the next at `place`; with those behind it they are the digits of n
pub record Spelt (n place rest : ℕ) (text : List ℕ) : Type 0 where
  pub size : length text ≡ most_digits
  pub inside : place < most_digits
  pub is : digits rest ++ drop (suc place) text ≡ digits n

pub spelt_none : (n : ℕ) (text : List ℕ) → length text ≡ most_digits → Spelt n (most_digits - 1) n text
spelt_none n text e =
    record { size = e; inside = omega arith; is = rw (drop_of_length-le text {i = most_digits} (omega arith)) (append-nil (digits n)) }

-- a digit stored at a place stands before what stood behind it
drop_stored : (text : List ℕ) (place v : ℕ) → place < length text → drop place (set text place v) ≡ v ∷ drop (suc place) text
drop_stored text place v h =
    ap (drop place) (set_split text place v h) ∙ drop_at (take place text) (v ∷ drop (suc place) text) place (length-take-le place text (omega arith))

module _ {n place rest : ℕ} {text : List ℕ} (s : Spelt n place rest text) where
  -- two digits are left: there is a place for both
  pub spelt_room : n < 2 ^ 64 → 10 ≤ rest → 1 ≤ place
  spelt_room h l =
      omega (
        arith,
        digits_fit n h,
        length_more rest l,
        digits_some (rest / 10),
        s.size,
        simp (length-append, length-drop) at (ap length s.is),
      )

  pub spelt_more : {v : ℕ} → 10 ≤ rest → 1 ≤ place → v ≡ digit_byte (rest % 10) → Spelt n (place - 1) (rest / 10) (set text place v)
  spelt_more {v} l r e =
      let q : suc (place - 1) ≡ place = omega arith in
      record {
        size = length-set text place v ∙ s.size;
        inside = omega (arith, s.inside);
        is =
            rw (q, drop_stored text place v (omega (arith, s.size, s.inside)), e)
            (sym (append_assoc (digits (rest / 10)) (digit_byte (rest % 10) ∷ []) (drop (suc place) text))
            ∙ ap (λ (w : List ℕ). w ++ drop (suc place) text) (sym (digits_more rest l))
            ∙ s.is);
      }

  pub spelt_all : {v : ℕ} → rest < 10 → v ≡ digit_byte rest → drop place (set text place v) ≡ digits n
  spelt_all {v} l e =
      drop_stored text place v (omega (arith, s.size, s.inside))
      ∙ rw e (ap (λ (w : List ℕ). w ++ drop (suc place) text) (sym (digits_one rest l)) ∙ s.is)
