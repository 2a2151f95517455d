-- Laws of digits. Assumes nothing.
use Rattle.std.specs.Prelude.{◌≡◌, refl, List, [], ◌∷◌, ◌++◌, ℕ, zero, suc, ◌+◌, ◌-◌, ◌*◌, ◌/◌, ◌%◌, ◌^◌, ◌≤◌, ◌<◌, length}
use Rattle.std.proofs.Common.{sym, ap, ◌∙◌, ⊎_elim, div-add-mod', eq-or-lt_of_le, pow-suc, arith, lt-ltb, le-ltb, length-append}
use Rattle.std.proofs.Math.ListN.{get_or-append}
use Rattle.std.proofs.lemmas.List.{get_or_at}
use Rattle.basics.specs.Lists.{at}
use Rattle.basics.specs.laws.Tests.{le_or_lt}
use Rattle.lines.specs.Digits.{zero_byte, digit_byte, followed, digits_in, digits, value_on, value, most_digits}

-- more steps than n change nothing
digits_steps : (f g n : ℕ) → n < f → n < g → digits_in f n ≡ digits_in g n
unfolding digits_in
digits_steps zero g n h l = absurd (omega arith)
digits_steps (suc f) zero n h l = absurd (omega arith)
digits_steps (suc f) (suc g) n h l =
    ⊎_elim
    (λ (s : 10 ≤ n). rw (le-ltb n 10 s) (ap (λ (w : List ℕ). followed w (n % 10)) (digits_steps f g (n / 10) (omega arith) (omega arith))))
    (λ (s : n < 10). rw (lt-ltb n 10 s))
    (le_or_lt 10 n)

-- the two cases of the definition
pub digits_one : (n : ℕ) → n < 10 → digits n ≡ digit_byte n ∷ []
unfolding digits digits_in
digits_one n h = rw (lt-ltb n 10 h)

pub digits_more : (n : ℕ) → 10 ≤ n → digits n ≡ followed (digits (n / 10)) (n % 10)
unfolding digits digits_in
digits_more n h =
    rw (le-ltb n 10 h) (ap (λ (w : List ℕ). followed w (n % 10)) (digits_steps n (suc (n / 10)) (n / 10) (omega arith) (omega arith)))

-- what holds of one digit, and of n where it holds of n / 10, holds of each number
module _ (P : ℕ → Type 0) (one : (n : ℕ) → n < 10 → P n) (more : (n : ℕ) → 10 ≤ n → P (n / 10) → P n) where
  below : (f n : ℕ) → n < f → P n
  below zero n h = absurd (omega arith)
  below (suc f) n h = ⊎_elim (λ (s : 10 ≤ n). more n s (below f (n / 10) (omega arith))) (λ (s : n < 10). one n s) (le_or_lt 10 n)

  by_digits : (n : ℕ) → P n
  by_digits n = below (suc n) n (omega arith)

-- THE NUMBER ITSELF AGAIN: no digit is lost or exchanged
pub value_none : (a : ℕ) → value_on a [] ≡ a
unfolding value_on
value_none a = refl

pub value-more : (a b : ℕ) (w : List ℕ) → value_on a (b ∷ w) ≡ value_on (a * 10 + (b - zero_byte)) w
unfolding value_on
value-more a b w = refl

pub value_is : (w : List ℕ) → value w ≡ value_on 0 w
unfolding value
value_is w = refl

-- digits behind a number make it no smaller
pub value_grows : (a : ℕ) (w : List ℕ) → a ≤ value_on a w
unfolding value_on
value_grows a [] = omega arith
value_grows a (b ∷ w) = omega (arith, value_grows (a * 10 + (b - zero_byte)) w)

value-append : (a : ℕ) (v w : List ℕ) → value_on a (v ++ w) ≡ value_on (value_on a v) w
unfolding value_on
value-append a [] w = refl
value-append a (b ∷ v) w = value-append (a * 10 + (b - zero_byte)) v w

value-followed : (w : List ℕ) (d : ℕ) → value (followed w d) ≡ value w * 10 + d
unfolding value value_on
value-followed w d = value-append 0 w (digit_byte d ∷ []) ∙ omega arith

pub value-digits : (n : ℕ) → value (digits n) ≡ n
unfolding value value_on
value-digits =
    by_digits (λ n. value (digits n) ≡ n)
    (λ n h. rw (digits_one n h) (omega arith))
    (λ n h e. rw (digits_more n h) (value-followed (digits (n / 10)) (n % 10) ∙ rw e (div-add-mod' n 10)))

-- so two numbers never have the same digits
pub digits_tell : (m n : ℕ) → digits m ≡ digits n → m ≡ n
digits_tell m n e = sym (value-digits m) ∙ ap value e ∙ value-digits n

-- HOW MANY: at least one
pub digits_some : (n : ℕ) → 1 ≤ length (digits n)
digits_some =
    by_digits (λ n. 1 ≤ length (digits n))
    (λ n h. rw (digits_one n h) (omega arith))
    (λ n h e. rw (digits_more n h, length-append) (omega arith))

pub length_more : (n : ℕ) → 10 ≤ n → length (digits n) ≡ length (digits (n / 10)) + 1
length_more n h = rw (digits_more n h, length-append)

-- at most k + 1 below 10 ^ (k + 1)
pub digits-most : (k n : ℕ) → n < 10 ^ suc k → length (digits n) ≤ suc k
digits-most zero n h = rw (digits_one n h) (omega arith)
digits-most (suc k) n h =
    ⊎_elim
    (λ (s : 10 ≤ n). omega (arith, length_more n s, digits-most k (n / 10) (omega (arith, pow-suc 10 (suc k)))))
    (λ (s : n < 10). rw (digits_one n s) (omega arith))
    (le_or_lt 10 n)

pub digits_fit : (n : ℕ) → n < 2 ^ 64 → length (digits n) ≤ most_digits
digits_fit n h = digits-most 19 n (omega arith)

-- and one of 32 bits at most ten
pub digits_word : (n : ℕ) → n < 4294967296 → length (digits n) ≤ 10
digits_word n h = digits-most 9 n (omega arith)

-- WHICH BYTES: from 48 to 57, at every place
pub record IsDigit (b : ℕ) : Type 0 where
  pub least : zero_byte ≤ b
  pub most : b ≤ digit_byte 9

is_digit_lem : (d : ℕ) {b : ℕ} → d < 10 → b ≡ digit_byte d → IsDigit b
is_digit_lem d h e = record { least = omega arith; most = omega arith }

pub digits_bytes : (n k : ℕ) → k < length (digits n) → IsDigit (at (digits n) k)
digits_bytes = by_digits (λ n. (k : ℕ) → k < length (digits n) → IsDigit (at (digits n) k)) one more
  where
    one : (n : ℕ) → n < 10 → (k : ℕ) → k < length (digits n) → IsDigit (at (digits n) k)
    one n h k l = let z : k ≡ 0 = omega (arith, ap length (digits_one n h)) in is_digit_lem n h (rw (z, digits_one n h))

    more : (n : ℕ) → 10 ≤ n → ((k : ℕ) → k < length (digits (n / 10)) → IsDigit (at (digits (n / 10)) k)) → (k : ℕ) → k < length (digits n) → IsDigit (at (digits n) k)
    more n h earlier k l =
        ⊎_elim
        (λ (q : k ≡ length (digits (n / 10))).
        is_digit_lem (n % 10) (omega arith) (rw (digits_more n h) (get_or_at (digits (n / 10)) (digit_byte (n % 10)) [] 0 k (sym q))))
        (λ (q : k < length (digits (n / 10))).
        rw (digits_more n h, get_or-append (digits (n / 10)) (digit_byte (n % 10) ∷ []) 0 k q) (earlier k q))
        (eq-or-lt_of_le (omega (arith, length_more n h)))

-- no zero in front
pub digits_first : (n : ℕ) → 1 ≤ n → zero_byte < at (digits n) 0
digits_first =
    by_digits (λ n. 1 ≤ n → zero_byte < at (digits n) 0)
    (λ n h s. rw (digits_one n h) (omega arith))
    (λ n h earlier s.
    rw (digits_more n h, get_or-append (digits (n / 10)) (digit_byte (n % 10) ∷ []) 0 0 (digits_some (n / 10))) (earlier (omega arith)))
