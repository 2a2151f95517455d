-- What is read in a log that was made: it is accepted, and has the entries of which it was made. Assumes nothing.
use Rattle.std.specs.Prelude.{◌≡◌, true, take, drop}
use Rattle.std.proofs.Common.{sym, ◌∙◌, length-drop}
use Rattle.std.proofs.Math.Path.{ap}
use mathlib.Core.List.{List, [], ◌++◌, append_assoc, append-nil}
use Prim.Native.Nat.{ℕ, zero, suc, ◌+◌, ◌-◌, ◌≤◌, ◌<◌}
use native.Mathlib.Omega.{arith}
use Rattle.std.proofs.Math.ListN.{length, length-append}
use Rattle.std.proofs.Math.Seq.{drop_at}
use Rattle.std.proofs.lemmas.List.{drop-append-le, take-append-le}
use Rattle.basics.specs.Lists.{at}
use Rattle.basics.specs.laws.Lists.{rising_ext}
use Rattle.drawlog.specs.Number.{bytes_of}
use Rattle.drawlog.specs.Log.{mark, trailer, directory, count, marked, place, id_at, start_at, length_at}
use Rattle.drawlog.specs.Refusal as log
use Rattle.drawlog.specs.laws.Number.{length_bytes, number_read}
use Rattle.drawlog.specs.laws.Log.{is_marked, directory-at, count_at, id_at_lem, start_at_lem, length-at}
use Rattle.drawlog.specs.laws.Refusal as law
use Rattle.drawlog.proofs.Due.{due-next}
use Rattle.writer.specs.Made.{sum_to, entry_bytes, directory_bytes, trailer_bytes, made, size_of}
use Rattle.writer.specs.Inside.{Fit}
use Rattle.writer.specs.laws.Made.{length-directory, length-made, sum_le, block_le}

-- n entries from entry k on
unfoldable entries_from : List ℕ → List ℕ → ℕ → ℕ → List ℕ
entries_from is ns zero k = []
entries_from is ns (suc n) k = entry_bytes is ns k ++ entries_from is ns n (suc k)

split : (is ns : List ℕ) (n k : ℕ) → directory_bytes is ns (k + n) ≡ directory_bytes is ns k ++ entries_from is ns n k
unfolding entries_from directory_bytes
split is ns zero k = let e : k + 0 ≡ k = omega arith in rw (e, append-nil)
split is ns (suc n) k =
    let e : k + suc n ≡ suc k + n = omega arith in
    rw (e, split is ns n (suc k)) (append_assoc (directory_bytes is ns k) (entry_bytes is ns k) (entries_from is ns n (suc k)))

module _ (b is ns : List ℕ) {n : ℕ} (f : Fit b is ns n) where
  abbrev s : List ℕ
  s = made b is ns

  size : length s ≡ size_of b is
  size = length-made b is ns

  -- THE TRAILER
  abbrev entries : List ℕ
  entries = b ++ directory_bytes is ns (length is)

  before_trailer : length entries ≡ trailer s
  before_trailer = simp (length-append, length-directory) (omega (arith, size))

  pub directory-made : directory s ≡ length b
  unfolding made trailer_bytes
  directory-made = directory-at s ∙ number_read s entries (bytes_of (length is) ++ mark) (length b) (trailer s) (simp append_assoc) before_trailer (omega (arith, f.short))

  pub count-made : count s ≡ length is
  unfolding made trailer_bytes
  count-made =
      count_at s
      ∙ number_read s (entries ++ bytes_of (length b)) mark (length is) (trailer s + 4)
      (simp append_assoc) (rw (length-append entries (bytes_of (length b)), length_bytes (length b), before_trailer)) (omega (arith, f.few))

  marked-made : marked s ≡ true
  unfolding made trailer_bytes
  marked-made =
      let front = (entries ++ bytes_of (length b)) ++ bytes_of (length is) in
      let whole : s ≡ front ++ mark = simp append_assoc in
      let long : length front ≡ trailer s + 8 = simp (length-append, length-directory, length_bytes) (omega (arith, size)) in
      is_marked s (ap (drop (trailer s + 8)) whole ∙ drop_at front mark (trailer s + 8) long)

  -- ENTRY k
  module _ (k : ℕ) (h : k < length is) where
    abbrev front : List ℕ
    front = b ++ directory_bytes is ns k

    abbrev behind : List ℕ
    behind = entries_from is ns (length is - suc k) (suc k) ++ trailer_bytes (length b) (length is)

    at_entry : s ≡ front ++ (entry_bytes is ns k ++ behind)
    unfolding made entries_from
    at_entry =
        let e : length is ≡ k + suc (length is - suc k) = omega arith in
        ap (λ (m : ℕ). b ++ (directory_bytes is ns m ++ trailer_bytes (length b) (length is))) e
        ∙ rw (split is ns (suc (length is - suc k)) k) (simp append_assoc)

    before_entry : length front ≡ place s k
    before_entry = simp (length-append, length-directory) (omega (arith, directory-made))

    start_small : sum_to ns k < 4294967296
    start_small = omega (arith, sum_le ns k (length is) (omega arith), f.sums, f.short)

    length_small : at ns k < 4294967296
    length_small = omega (arith, block_le ns k (length is) h, f.sums, f.short)

    pub id_made : at is k < 4294967296 → id_at s k ≡ at is k
    unfolding entry_bytes
    id_made small =
        id_at_lem s k ∙ number_read s front (bytes_of (sum_to ns k) ++ (bytes_of (at ns k) ++ behind)) (at is k) (place s k) (at_entry ∙ simp append_assoc) before_entry small

    pub start_made : start_at s k ≡ sum_to ns k
    unfolding entry_bytes
    start_made =
        start_at_lem s k
        ∙ number_read s (front ++ bytes_of (at is k)) (bytes_of (at ns k) ++ behind) (sum_to ns k) (place s k + 4)
        (at_entry ∙ simp append_assoc) (rw (length-append front (bytes_of (at is k)), length_bytes (at is k), before_entry)) start_small

    pub size_made : length_at s k ≡ at ns k
    unfolding entry_bytes
    size_made =
        length-at s k
        ∙ number_read s ((front ++ bytes_of (at is k)) ++ bytes_of (sum_to ns k)) behind (at ns k) (place s k + 8)
        (at_entry ∙ simp append_assoc)
        (rw (length-append (front ++ bytes_of (at is k)) (bytes_of (sum_to ns k)), length-append front (bytes_of (at is k)), length_bytes (at is k), length_bytes (sum_to ns k), before_entry) (omega arith))
        length_small

    -- its block is that of which it was made
    pub block_made : take (at ns k) (drop (sum_to ns k) s) ≡ take (at ns k) (drop (sum_to ns k) b)
    unfolding made
    block_made =
        let rest = directory_bytes is ns (length is) ++ trailer_bytes (length b) (length is) in
        let ends = block_le ns k (length is) h in
        rw (drop-append-le (sum_to ns k) b rest (omega (arith, ends, f.sums)))
        (take-append-le (at ns k) (drop (sum_to ns k) b) rest (rw (length-drop (sum_to ns k) b) (omega (arith, ends, f.sums))))

  due-made : (k : ℕ) → k ≤ length is → log.due s k ≡ sum_to ns k
  unfolding sum_to
  due-made zero h = law.due_first s
  due-made (suc k) h = due-next s k ∙ rw (start_made k (omega arith), size_made k (omega arith))

  -- IT IS ACCEPTED, where the ids are 32-bit numbers
  module _ (small : (k : ℕ) → at is k < 4294967296) where
    rises-made : (k : ℕ) → k < length is → log.rises s k ≡ true
    rises-made k h = rising_ext (id_at s) (λ j. at is j) k (λ j u. id_made j (omega arith) (small j)) ∙ f.up k h

    pub made-accepted : law.Accepted s
    made-accepted =
        law.is_accepted s
        (record {
          long = omega (arith, size);
          short = omega (arith, size, f.short);
          signed = marked-made;
          some = omega (arith, count-made, f.some);
          few = omega (arith, count-made, f.few);
          size = omega (arith, directory-made, count-made, size);
        })
        (λ k u. let h : k < length is = omega (arith, count-made) in
        record {
          up = rises-made k h;
          joined = start_made k h ∙ sym (due-made k (omega arith));
          whole = rw (size_made k h) (f.whole k h);
        })
        (rw count-made (due-made (length is) (omega arith) ∙ sym f.sums ∙ sym directory-made))
