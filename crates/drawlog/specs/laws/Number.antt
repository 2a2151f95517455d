-- Laws of 32-bit numbers among the bytes: reading a number's own bytes gives it, and the bytes of a number that was read are those that were read. Assumes nothing.
use Rattle.std.specs.Prelude.{◌≡◌, refl, List, [], ◌∷◌, ◌++◌, ℕ, ◌+◌, ◌*◌, ◌/◌, ◌%◌, ◌≤◌, ◌<◌, length, take, drop}
use Rattle.std.proofs.Common.{sym, add-one, arith, get_or-append-add, drop-cons}
use Rattle.std.proofs.Math.Seq.{get_or-append_seam}
use Rattle.basics.specs.Lists.{at}
use Rattle.basics.specs.laws.Lists.{Bytes}
use Rattle.drawlog.specs.Number.{number, bytes_of}

pub number_below : (s : List ℕ) → Bytes s → (o : ℕ) → number s o < 4294967296
unfolding number
number_below s b o = omega (arith, b o, b (o + 1), b (o + 2), b (o + 3))

pub bytes_are : (n : ℕ) → bytes_of n ≡ n % 256 ∷ n / 256 % 256 ∷ n / 256 / 256 % 256 ∷ n / 256 / 256 / 256 % 256 ∷ []
unfolding bytes_of
bytes_are n = refl

pub length_bytes : (n : ℕ) → length (bytes_of n) ≡ 4
unfolding bytes_of
length_bytes n = refl

-- READING A NUMBER'S OWN BYTES
whole : (n : ℕ) → n < 4294967296 → n % 256 + 256 * (n / 256 % 256 + 256 * (n / 256 / 256 % 256 + 256 * (n / 256 / 256 / 256 % 256))) ≡ n
whole n h = omega arith

-- the bytes of n stand behind p
pub number_read : (s p q : List ℕ) (n o : ℕ) → s ≡ p ++ (bytes_of n ++ q) → length p ≡ o → n < 4294967296 → number s o ≡ n
unfolding number bytes_of
number_read s p q n o e l h =
    rw (
      e,
      ← l,
      get_or-append_seam p (n % 256) (n / 256 % 256 ∷ n / 256 / 256 % 256 ∷ n / 256 / 256 / 256 % 256 ∷ q) 0,
      get_or-append-add p (bytes_of n ++ q) 1 0,
      get_or-append-add p (bytes_of n ++ q) 2 0,
      get_or-append-add p (bytes_of n ++ q) 3 0,
    )
    (whole n h)

-- THE BYTES OF A NUMBER THAT WAS READ
low : (a x : ℕ) → a < 256 → (a + 256 * x) % 256 ≡ a
low a x h = omega arith

rest : (a x : ℕ) → a < 256 → (a + 256 * x) / 256 ≡ x
rest a x h = omega arith

last : (a : ℕ) → a < 256 → a % 256 ≡ a
last a h = omega arith

next : (s : List ℕ) (o p : ℕ) → p ≡ o + 1 → o < length s → drop o s ≡ at s o ∷ drop p s
next s o p e h = rw (e, add-one) (drop-cons s o 0 h)

pub bytes_read : (s : List ℕ) → Bytes s → (o : ℕ) → o + 4 ≤ length s → bytes_of (number s o) ≡ take 4 (drop o s)
unfolding bytes_of number
bytes_read s small o h =
    let a = at s o in let b = at s (o + 1) in let c = at s (o + 2) in let d = at s (o + 3) in
    rw (
      low a (b + 256 * (c + 256 * d)) (small o),
      rest a (b + 256 * (c + 256 * d)) (small o),
      low b (c + 256 * d) (small (o + 1)),
      rest b (c + 256 * d) (small (o + 1)),
      low c d (small (o + 2)),
      rest c d (small (o + 2)),
      last d (small (o + 3)),
    )
    (sym four)
  where
    four : take 4 (drop o s) ≡ at s o ∷ at s (o + 1) ∷ at s (o + 2) ∷ at s (o + 3) ∷ []
    four =
        rw (
          next s o (o + 1) refl (omega arith),
          next s (o + 1) (o + 2) (omega arith) (omega arith),
          next s (o + 2) (o + 3) (omega arith) (omega arith),
          next s (o + 3) (o + 4) (omega arith) (omega arith),
        )
