-- Laws of the log that is made: how long its parts are, and sums of lengths. Assumes nothing.
use Rattle.std.specs.Prelude.{◌≡◌, refl, List, ◌++◌, ℕ, zero, suc, ◌+◌, ◌-◌, ◌*◌, ◌≤◌, ◌<◌, length, take, sum}
use Rattle.std.proofs.Common.{sym, add-one, arith, length-append}
use Rattle.std.proofs.Math.Seq.{take-length}
use Rattle.std.proofs.lemmas.List.Sums.{fold_more}
use Rattle.basics.specs.Lists.{at}
use Rattle.drawlog.specs.Log.{entry_size, trailer_size}
use Rattle.drawlog.specs.Number.{bytes_of}
use Rattle.drawlog.specs.laws.Number.{length_bytes}
use Rattle.writer.specs.Made.{sum_to, entry_bytes, directory_bytes, trailer_bytes, made, size_of}

-- LENGTHS
pub length_word : (a b c : ℕ) → length (bytes_of a ++ (bytes_of b ++ bytes_of c)) ≡ 12
length_word a b c = simp (length-append, length_bytes)

pub length-directory : (is ns : List ℕ) (k : ℕ) → length (directory_bytes is ns k) ≡ entry_size * k
unfolding directory_bytes entry_bytes
length-directory is ns zero = refl
length-directory is ns (suc k) = simp (length-append, length-directory is ns k, length_bytes) (omega arith)

pub length-trailer : (d n : ℕ) → length (trailer_bytes d n) ≡ trailer_size
unfolding trailer_bytes
length-trailer d n = simp (length-append, length_bytes)

pub length-made : (b is ns : List ℕ) → length (made b is ns) ≡ size_of b is
unfolding made
length-made b is ns = simp (length-append, length-directory, length-trailer) (omega arith)

-- SUMS of the first lengths grow from each to the next
pub sum_none : (ns : List ℕ) → sum_to ns 0 ≡ 0
unfolding sum_to
sum_none ns = refl

pub sum_next : (ns : List ℕ) (k : ℕ) → sum_to ns (k + 1) ≡ sum_to ns k + at ns k
unfolding sum_to
sum_next ns k = rw add-one

sum_up : (ns : List ℕ) (k n : ℕ) → sum_to ns k ≤ sum_to ns (k + n)
unfolding sum_to
sum_up ns k zero = let e : k + 0 ≡ k = omega arith in rw e (omega arith)
sum_up ns k (suc n) = let e : k + suc n ≡ suc (k + n) = omega arith in rw e (omega (arith, sum_up ns k n))

pub sum_le : (ns : List ℕ) (k n : ℕ) → k ≤ n → sum_to ns k ≤ sum_to ns n
sum_le ns k n h = let e : k + (n - k) ≡ n = omega arith in rw e at (sum_up ns k (n - k))

-- the first of them as the library adds them up, and all
sum_taken : (ns : List ℕ) (k : ℕ) → k ≤ length ns → sum_to ns k ≡ sum (take k ns)
unfolding sum_to
sum_taken ns zero h = refl
sum_taken ns (suc k) h = rw (sum_taken ns k (omega arith)) (sym (rw add-one at (fold_more (λ (a x : ℕ). a + x) 0 ns k 0 (omega arith))))

pub sum_all : (ns : List ℕ) → sum ns ≡ sum_to ns (length ns)
sum_all ns = sym (rw take-length at (sum_taken ns (length ns) (omega arith)))

-- block k ends within the sum of all
pub block_le : (ns : List ℕ) (k n : ℕ) → k < n → sum_to ns k + at ns k ≤ sum_to ns n
block_le ns k n h = rw (sum_next ns k) at (sum_le ns (k + 1) n (omega arith))
