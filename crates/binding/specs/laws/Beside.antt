-- Laws of a folder's end, and of a name beside a log. Assumes nothing.
use Rattle.std.specs.Prelude.{◌≡◌, Bool, false, List, ℕ, zero, suc, ◌+◌, ◌-◌, ◌^◌, ◌≤◌, ◌<◌, length}
use Rattle.std.proofs.Common.{sym, ap, ◌∙◌, add-one, arith, eq-eqb, ne_eqb, length-append, length-take}
use Rattle.basics.specs.Lists.{at}
use Rattle.basics.specs.Search.{greatest}
use Rattle.basics.specs.laws.Search.{greatest-none, greatest_new, greatest_old, greatest_is}
use Rattle.lines.proofs.Digits.{digits_fit}
use Rattle.lines.specs.laws.Put.{after_short}
use Rattle.binding.specs.Beside.{slash, slash_before, folder_end, beside_name}
use Rattle.binding.specs.Promise.{longest, Said}

-- THE LOOP ALONG THE PATH: the first i bytes are seen, and k is where the last slash among them ends
pub record Seen (w : List ℕ) (i k : ℕ) : Type 0 where
  pub inside : i ≤ length w
  pub below : k ≤ i
  pub is : k ≡ greatest (slash_before w) i

back : (i : ℕ) → suc i - 1 ≡ i
back i = omega arith

pub seen_none : (w : List ℕ) → Seen w 0 0
seen_none w = record { inside = omega arith; below = omega arith; is = sym (greatest-none (slash_before w)) }

pub seen-slash : {w : List ℕ} {i k : ℕ} → Seen w i k → i < length w → at w i ≡ slash → Seen w (i + 1) (i + 1)
seen-slash {w} {i} a h e =
    record {
      inside = omega arith;
      below = omega arith;
      is = rw add-one (sym (greatest_new (slash_before w) i (eq-eqb (at w (suc i - 1)) slash (ap (at w) (back i) ∙ e))));
    }

pub seen_other : {w : List ℕ} {i k : ℕ} → Seen w i k → i < length w → (at w i ≡ slash → ⊥) → Seen w (i + 1) k
seen_other {w} {i} a h e =
    record {
      inside = omega arith;
      below = omega (arith, a.below);
      is = a.is ∙ rw add-one (sym (greatest_old (slash_before w) i (ne_eqb (at w (suc i - 1)) slash (λ g. e (ap (at w) (sym (back i)) ∙ g)))));
    }

pub seen_all : {w : List ℕ} {i k : ℕ} → Seen w i k → length w ≤ i → k ≡ folder_end w
unfolding folder_end
seen_all {w} {i} a h = let e : i ≡ length w = omega (arith, a.inside) in rw e at a.is

-- THE LAST SLASH, found at once
pub end_behind : (w : List ℕ) (i : ℕ) → i < length w → at w i ≡ slash → ((k : ℕ) → i < k → k < length w → at w k ≡ slash → ⊥) → folder_end w ≡ i + 1
unfolding folder_end
end_behind w i h e none =
    greatest_is (slash_before w) (length w) (i + 1) (omega arith) (eq-eqb (at w (i + 1 - 1)) slash (rw add-one (ap (at w) (back i) ∙ e)))
    (λ j l u. ne_eqb (at w (j - 1)) slash (none (j - 1) (omega arith) (omega arith)))

none_passes : (p : ℕ → Bool) (n : ℕ) → ((j : ℕ) → 0 < j → j ≤ n → p j ≡ false) → greatest p n ≡ 0
none_passes p zero h = greatest-none p
none_passes p (suc n) h = greatest_old p n (h (suc n) (omega arith) (omega arith)) ∙ none_passes p n (λ j l u. h j l (omega arith))

pub end_none : (w : List ℕ) → ((k : ℕ) → k < length w → at w k ≡ slash → ⊥) → folder_end w ≡ 0
unfolding folder_end
end_none w none = none_passes (slash_before w) (length w) (λ j l u. ne_eqb (at w (j - 1)) slash (none (j - 1) (omega arith)))

-- THE NAME
beside_length : (log : List ℕ) (m n : ℕ) → m < 2 ^ 64 → n < 2 ^ 64 → length (beside_name log m n) ≤ longest + length log
unfolding beside_name
beside_length log m n h l =
    simp (length-append, length-take) (omega (arith, digits_fit m h, digits_fit n l))

pub beside_short : {d : List ℕ} {r : ℕ} {d' : List ℕ} (log : List ℕ) (m n : ℕ) → m < 2 ^ 64 → n < 2 ^ 64 → Said (beside_name log m n) d r d' → r ≤ longest + length log
beside_short log m n h l s = omega (arith, s.answer, after_short 0 (beside_name log m n), beside_length log m n h l)
