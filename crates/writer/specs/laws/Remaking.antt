-- A log that was accepted, taken apart and made again: its contents fit, and the log that is made of them is that log. Assumes nothing.
use Rattle.std.specs.Prelude.{◌≡◌, true, List, ◌++◌, take, drop}
use Rattle.std.proofs.Math.Path.{refl, sym, ap}
use Rattle.std.proofs.Common.{◌∙◌, arith, length-take, drop-drop, take-add}
use Prim.Native.Nat.{ℕ, zero, suc, ◌+◌, ◌*◌, ◌≤◌, ◌<◌}
use Rattle.std.proofs.Math.ListN.{length}
use Rattle.std.proofs.Math.Seq.{take_all}
use Rattle.basics.specs.Lists.{at}
use Rattle.basics.specs.laws.Lists.{Bytes, length-table, at_table, rising_ext}
use Rattle.drawlog.specs.Log.{entry_size, trailer_size, mark, trailer, directory, count, place, id_at, length_at}
use Rattle.drawlog.specs.Refusal as log
use Rattle.drawlog.specs.laws.Number.{bytes_read}
use Rattle.drawlog.specs.laws.Log.{marked_is, directory-at, count_at, id_at_lem, start_at_lem, length-at}
use Rattle.drawlog.specs.laws.Refusal as law
use Rattle.drawlog.proofs.Due.{due-next}
use Rattle.writer.specs.Made.{sum_to, entry_bytes, directory_bytes, trailer_bytes, made}
use Rattle.writer.specs.Refusal.{rises}
use Rattle.writer.specs.Contents.{blocks_of, ids_of, lengths_of}
use Rattle.writer.specs.Inside.{Fit}

-- n bytes from byte o on, and two such stretches that lie back to back
abbrev part : List ℕ → ℕ → ℕ → List ℕ
part s o n = take n (drop o s)

joined : (s : List ℕ) (o m n p t : ℕ) → p ≡ o + m → t ≡ m + n → part s o m ++ part s p n ≡ part s o t
joined s o m n p t e f = rw (e, f) (sym (take-add m n (drop o s) ∙ ap (λ (l : List ℕ). take m (drop o s) ++ take n l) (drop-drop m o s)))

-- three words back to back
three : (s : List ℕ) (o : ℕ) → part s o 4 ++ (part s (o + 4) 4 ++ part s (o + 8) 4) ≡ part s o 12
three s o = rw (joined s (o + 4) 4 4 (o + 8) 8 (omega arith) refl) (joined s o 4 8 (o + 4) 12 refl refl)

module _ (s : List ℕ) (bytes : Bytes s) (a : law.Accepted s) where
  size : directory s + entry_size * count s + trailer_size ≡ length s
  size = a.frame.size

  -- what stands at a place of the contents
  id_of_lem : (k : ℕ) → k < count s → at (ids_of s) k ≡ id_at s k
  id_of_lem k h = at_table (count s) (id_at s) k h

  length_of : (k : ℕ) → k < count s → at (lengths_of s) k ≡ length_at s k
  length_of k h = at_table (count s) (length_at s) k h

  ids : length (ids_of s) ≡ count s
  ids = length-table (count s) (id_at s)

  lengths : length (lengths_of s) ≡ count s
  lengths = length-table (count s) (length_at s)

  blocks : length (blocks_of s) ≡ directory s
  blocks = rw (length-take (directory s) s) (omega (arith, size))

  -- the blocks lie back to back
  starts : (k : ℕ) → k ≤ count s → sum_to (lengths_of s) k ≡ log.due s k
  unfolding sum_to
  starts zero h = sym (law.due_first s)
  starts (suc k) h = rw (starts k (omega arith), length_of k h, due-next s k, (a.each k h).joined)

  -- THE PARTS are those of the log
  entry_part : (k : ℕ) → k < count s → entry_bytes (ids_of s) (lengths_of s) k ≡ part s (place s k) entry_size
  unfolding entry_bytes
  entry_part k h =
      rw (
        id_of_lem k h ∙ id_at_lem s k,
        starts k (omega arith) ∙ sym (a.each k h).joined ∙ start_at_lem s k,
        length_of k h ∙ length-at s k,
        bytes_read s bytes (place s k) (omega (arith, size)),
        bytes_read s bytes (place s k + 4) (omega (arith, size)),
        bytes_read s bytes (place s k + 8) (omega (arith, size)),
      )
      (three s (place s k))

  directory-part : (k : ℕ) → k ≤ count s → directory_bytes (ids_of s) (lengths_of s) k ≡ part s (directory s) (entry_size * k)
  unfolding directory_bytes
  directory-part zero h = refl
  directory-part (suc k) h =
      rw (directory-part k (omega arith), entry_part k h)
      (joined s (directory s) (entry_size * k) entry_size (place s k) (entry_size * suc k) refl (omega arith))

  trailer-part : trailer_bytes (directory s) (count s) ≡ part s (trailer s) trailer_size
  unfolding trailer_bytes
  trailer-part =
      let long : trailer_size ≤ length s = a.frame.long in
      let signed : part s (trailer s + 8) 4 ≡ mark = ap (take 4) (marked_is s a.frame.signed) in
      rw (directory-at s, count_at s, bytes_read s bytes (trailer s) (omega arith), bytes_read s bytes (trailer s + 4) (omega arith), ← signed)
      (three s (trailer s))

  -- MADE AGAIN, it is the same byte for byte
  pub remade : made (blocks_of s) (ids_of s) (lengths_of s) ≡ s
  unfolding made
  remade =
      let n = entry_size * count s in
      rw (ids, blocks, directory-part (count s) (omega arith), trailer-part, joined s (directory s) n trailer_size (trailer s) (n + trailer_size) (omega (arith, size)) refl)
      (joined s 0 (directory s) (n + trailer_size) (directory s) (length s) (omega arith) (omega (arith, size)) ∙ take_all (length s) s (omega arith))

  -- and its contents fit any room that holds it
  up : (k : ℕ) → k < count s → rises (ids_of s) k ≡ true
  up k h = rising_ext (λ j. at (ids_of s) j) (id_at s) k (λ j u. id_of_lem j (omega arith)) ∙ (a.each k h).up

  pub contents_fit : (n : ℕ) → length s ≤ n → Fit (blocks_of s) (ids_of s) (lengths_of s) n
  contents_fit n h =
      record {
        paired = ids ∙ sym lengths;
        some = omega (arith, ids, a.frame.some);
        few = omega (arith, ids, a.frame.few);
        up = λ k u. up k (omega (arith, ids));
        whole = λ k u. let v : k < count s = omega (arith, ids) in rw (length_of k v) (a.each k v).whole;
        sums = blocks ∙ sym (ap (sum_to (lengths_of s)) ids ∙ starts (count s) (omega arith) ∙ a.ends);
        short = omega (arith, ids, blocks, size, a.frame.short);
        held = omega (arith, ids, blocks, size);
      }
