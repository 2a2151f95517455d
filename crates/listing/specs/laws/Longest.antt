-- The longest listing: 64 replicates have at most 4,032 pairs, of at most 44 bytes each. Assumes nothing.
use Rattle.std.specs.Prelude.{◌≡◌, cond, List, [], ◌∷◌}
use Rattle.std.proofs.Common.{sym, ◌∙◌, ⊎_elim, arith}
use Rattle.std.proofs.Math.Path.{ap}
use Prim.Native.Nat.{ℕ, zero, suc, ◌+◌, ◌*◌, ◌≤◌, ◌<◌, zero-le}
use Rattle.std.proofs.Math.Numerals.{add-one}
use Rattle.std.proofs.Math.ListN.{length, length-append}
use Rattle.basics.specs.laws.Lists.{Bytes}
use Rattle.basics.specs.laws.Tests.{bool_case, equal_or_not}
use Rattle.lines.proofs.Digits.{digits_word}
use Rattle.lines.proofs.Line.{numbers-length}
use Rattle.lines.specs.laws.Put.{after_short}
use Rattle.drawlog.specs.Log.{count, id_at}
use Rattle.drawlog.specs.Refusal.{cause_of}
use Rattle.drawlog.specs.Promise.{Tested}
use Rattle.drawlog.specs.laws.Log.{id_below}
use Rattle.drawlog.specs.laws.Refusal.{accepted_is, cause_small}
use Rattle.drawlog.specs.laws.Promise.{tested_yes}
use Rattle.pairs.specs.Check.{probed, Pair, pairs_of, pairs, unprobed}
use Rattle.pairs.specs.Promise.{step}
use Rattle.pairs.specs.laws.Check.{pairs_next, pairs-most, unprobed_le}
use Rattle.pairs.specs.laws.Each.{Each}
use Rattle.pairs.specs.laws.Sizes.{Small, of_small}
use Rattle.listing.specs.Listing.{draws, total_word, refused_word, head_line, pair_line, pair_lines, unprobed_line, total_line, refused_line, owner_text, owners_text, accepted_text, listing}
use Rattle.listing.specs.Promise.{longest, Written}
use Rattle.listing.specs.laws.Text.{listing-accepted, listing_refused}

-- ONE LINE
pair_length : (q : Pair) → Small q → length (pair_line q) ≤ 44
unfolding pair_line
pair_length q u =
    simp length-append
    (omega (arith, digits_word q.owner u.owner, digits_word q.other u.other, digits_word q.first u.first, digits_word q.number u.number))

unprobed-length : (id : ℕ) → id < 4294967296 → length (unprobed_line id) ≤ 20
unfolding unprobed_line
unprobed-length id h = simp length-append (omega (arith, digits_word id h))

head_length : (c : ℕ) → c < 4294967296 → length (head_line c) ≤ 39
unfolding head_line
head_length c h = simp length-append (omega (arith, digits_word c h, digits_word draws (omega arith)))

total_length : (k u : ℕ) → k < 4294967296 → u < 4294967296 → length (total_line k u) ≤ 28
unfolding total_line
total_length k u h l = numbers-length total_word k u h l

refused_length : (r k : ℕ) → r < 4294967296 → k < 4294967296 → length (refused_line r k) ≤ 30
unfolding refused_line
refused_length r k h l = numbers-length refused_word r k h l

-- ALL LINES
lines_length : (qs : List Pair) → Each Small qs → length (pair_lines qs) ≤ 44 * length qs
unfolding pair_lines
lines_length [] u = zero-le
lines_length (q ∷ qs) u = omega (arith, length-append (pair_line q) (pair_lines qs), pair_length q u.0, lines_length qs u.1)

module _ (s : List ℕ) (bytes : Bytes s) (z : (cause_of s).refusal ≡ 0) where
  few : count s ≤ 64
  few = (accepted_is s z).frame.few

  owner_length : (a : ℕ) → length (owner_text s a) ≤ 44 * length (pairs_of step draws s a) + 20
  unfolding owner_text
  owner_length a =
      let qs = pairs_of step draws s a in
      bool_case (probed draws s a) (λ t. length (cond t (pair_lines qs) (unprobed_line (id_at s a))) ≤ 44 * length qs + 20)
      (λ e. omega (arith, lines_length qs (of_small step s bytes draws a (omega (arith, ap (λ (t : Tested). t.count) (tested_yes s z))))))
      (λ e. omega (arith, unprobed-length (id_at s a) (id_below s bytes a)))

  owners_length : (n : ℕ) → length (owners_text s n) ≤ 44 * length (pairs step draws s n) + 20 * n
  unfolding owners_text
  owners_length zero = zero-le
  owners_length (suc a) =
      let more : length (pairs step draws s (suc a)) ≡ length (pairs step draws s a) + length (pairs_of step draws s a) =
      rw add-one at (sym (ap length (pairs_next step draws s a))) ∙ length-append (pairs step draws s a) (pairs_of step draws s a) in
      -- whichever stands first
      omega (arith, length-append (owners_text s a) (owner_text s a), length-append (owner_text s a) (owners_text s a), owners_length a, owner_length a)

  accepted-length : length (accepted_text s) ≤ longest
  unfolding accepted_text
  accepted-length =
      let most = pairs-most step draws s few in
      let missed = unprobed_le draws s (count s) in
      simp length-append
      (omega (arith, few, most, head_length (count s) (omega (arith, few)), owners_length (count s), total_length (length (pairs step draws s (count s))) (unprobed draws s (count s)) (omega (arith, most)) (omega (arith, missed, few))))

-- NO LISTING IS LONGER
pub listing_short : (s : List ℕ) → Bytes s → length (listing s) ≤ longest
listing_short s bytes =
    ⊎_elim
    (λ (z : (cause_of s).refusal ≡ 0). rw (← listing-accepted s z) (accepted-length s bytes z))
    (λ (n : (cause_of s).refusal ≡ 0 → ⊥).
    let small = cause_small s in
    rw (← listing_refused s n)
    (omega (arith, refused_length (cause_of s).refusal (cause_of s).entry (omega (arith, small.0)) (omega (arith, small.1)))))
    (equal_or_not (cause_of s).refusal 0)

-- so the answer of `put` is the listing's length, and at most that
pub written_short : (s : List ℕ) {d : List ℕ} {r : ℕ} {d' : List ℕ} → Bytes s → Written s d r d' → r ≤ longest
written_short s bytes w = omega (arith, w.answer, after_short 0 (listing s), listing_short s bytes)
