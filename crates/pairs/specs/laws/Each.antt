-- What holds of each pair of a list; and of each pair of a log, where it holds of the one that an owner can make with a block. Assumes nothing.
use Rattle.std.specs.Prelude.{Bool, true, false, cond, eqb, length}
use mathlib.Core.List.{List, [], ◌∷◌, ◌++◌}
use Prim.Native.Nat.{ℕ, zero, suc, ◌<◌}
use Rattle.std.proofs.Common.{arith}
use Rattle.scans.specs.Occurrences.{occurrences, multiples, first_of}
use Rattle.drawlog.specs.Log.{count, id_at}
use Rattle.pairs.specs.Check.{block, probe, probed, Pair, pair_at, pair_with, pairs_with, pairs_of, pairs}
use Rattle.pairs.specs.laws.Check.{made}

abbrev pub Each : (Pair → Type 0) → List Pair → Type 0
Each P [] = Unit {0}
Each P (q ∷ qs) = P q × Each P qs

module _ (P : Pair → Type 0) where
  pub each_append : (qs rs : List Pair) → Each P qs → Each P rs → Each P (qs ++ rs)
  each_append [] rs u v = v
  each_append (q ∷ qs) rs u v = (u.0, each_append qs rs u.1 v)

  each_else : (t : Bool) (qs : List Pair) → Each P qs → Each P (cond t [] qs)
  each_else true qs u = tt
  each_else false qs u = u

  each_then : (t : Bool) (qs : List Pair) → Each P qs → Each P (cond t qs [])
  each_then true qs u = u
  each_then false qs u = tt

  pub each_map : (Q : Pair → Type 0) → ((q : Pair) → P q → Q q) → (qs : List Pair) → Each P qs → Each Q qs
  each_map Q f [] u = tt
  each_map Q f (q ∷ qs) u = (f q u.0, each_map Q f qs u.1)

  each_at : (i j : ℕ) (fs : List ℕ) → P (record { owner = i; other = j; first = first_of fs; number = length fs }) → Each P (pair_at i j fs)
  unfolding pair_at
  each_at i j [] u = tt
  each_at i j (f ∷ fs) u = (u, tt)

module _ (P : Pair → Type 0) (d p : ℕ) (s : List ℕ) where
  each_with : (x : List ℕ) (a n : ℕ) → ((b : ℕ) → b < n → P (made d x s a b)) → Each P (pairs_with d x s a n)
  unfolding pairs_with pair_with
  each_with x a zero h = tt
  each_with x a (suc b) h =
      let fs = multiples d (occurrences x (block s b)) in
      each_append P (pairs_with d x s a b) (pair_with d x s a b) (each_with x a b (λ k l. h k (omega arith)))
      (each_else P (eqb a b) (pair_at (id_at s a) (id_at s b) fs) (each_at P (id_at s a) (id_at s b) fs (h b (omega arith))))

  pub each_of : (a : ℕ) → ((b : ℕ) → b < count s → P (made d (probe p s a) s a b)) → Each P (pairs_of d p s a)
  unfolding pairs_of
  each_of a h = each_then P (probed p s a) (pairs_with d (probe p s a) s a (count s)) (each_with (probe p s a) a (count s) h)

  pub each_pair : ((a b : ℕ) → b < count s → P (made d (probe p s a) s a b)) → (n : ℕ) → Each P (pairs d p s n)
  unfolding pairs
  each_pair h zero = tt
  each_pair h (suc a) = each_append P (pairs d p s a) (pairs_of d p s a) (each_pair h a) (each_of a (h a))
