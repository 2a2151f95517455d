-- The pairs of an owner bear its id, and those of later owners a higher one. Assumes nothing.
use Rattle.std.specs.Prelude.{◌≡◌, refl}
use Rattle.std.proofs.Common.{sym, ap, ◌∙◌, arith}
use mathlib.Core.List.{List, [], ◌++◌, append_assoc, append-nil}
use Prim.Native.Nat.{ℕ, zero, suc, ◌+◌, ◌-◌, ◌≤◌, ◌<◌}
use Rattle.std.proofs.Math.Nat.{add-zero, add-suc}
use Rattle.drawlog.specs.Log.{count, id_at}
use Rattle.drawlog.specs.laws.Refusal.{Accepted}
use Rattle.drawlog.specs.laws.Accepted.{ids_rise}
use Rattle.pairs.specs.Check.{Pair, pairs_of, pairs}
use Rattle.pairs.specs.laws.Check.{pairs_next}
use Rattle.pairs.specs.laws.Each.{Each, each_append, each_map, each_of}

-- the owner's number is this
abbrev pub Bears : ℕ → Pair → Type 0
Bears id q = q.owner ≡ id

-- the owner's number is above this
abbrev pub Above : ℕ → Pair → Type 0
Above id q = id < q.owner

pub of_bears : (d p : ℕ) (s : List ℕ) (a : ℕ) → Each (Bears (id_at s a)) (pairs_of d p s a)
of_bears d p s a = each_of (Bears (id_at s a)) d p s a (λ b l. refl)

-- THE PAIRS of n owners from owner a on
unfoldable pub later : ℕ → ℕ → List ℕ → ℕ → ℕ → List Pair
later d p s a zero = []
later d p s a (suc n) = later d p s a n ++ pairs_of d p s (a + n)

module _ (d p : ℕ) (s : List ℕ) where
  pairs-later : (a n : ℕ) → pairs d p s (a + n) ≡ pairs d p s a ++ later d p s a n
  unfolding later pairs
  pairs-later a zero = rw add-zero (sym (append-nil (pairs d p s a)))
  pairs-later a (suc n) =
      rw add-suc
      (ap (λ (l : List Pair). l ++ pairs_of d p s (a + n)) (pairs-later a n)
      ∙ append_assoc (pairs d p s a) (later d p s a n) (pairs_of d p s (a + n)))

  -- all pairs: those of the owners before a, of a, and of the later ones
  pub pairs_split : (a c : ℕ) → a < c → pairs d p s c ≡ pairs d p s a ++ (pairs_of d p s a ++ later d p s (a + 1) (c - (a + 1)))
  pairs_split a c h =
      let e : (a + 1) + (c - (a + 1)) ≡ c = omega arith in
      ap (pairs d p s) (sym e)
      ∙ pairs-later (a + 1) (c - (a + 1))
      ∙ ap (λ (l : List Pair). l ++ later d p s (a + 1) (c - (a + 1))) (sym (pairs_next d p s a))
      ∙ append_assoc (pairs d p s a) (pairs_of d p s a) (later d p s (a + 1) (c - (a + 1)))

  -- ids rise, so later owners bear higher ones
  pub later-above : Accepted s → (a n : ℕ) → (a + 1) + n ≤ count s → Each (Above (id_at s a)) (later d p s (a + 1) n)
  unfolding later
  later-above good a zero h = tt
  later-above good a (suc n) h =
      let up : id_at s a < id_at s ((a + 1) + n) = ids_rise s good a ((a + 1) + n) (omega arith) (omega arith) in
      each_append (Above (id_at s a)) (later d p s (a + 1) n) (pairs_of d p s ((a + 1) + n)) (later-above good a n (omega arith))
      (each_map (Bears (id_at s ((a + 1) + n))) (Above (id_at s a)) (λ (q : Pair) (e : q.owner ≡ id_at s ((a + 1) + n)). omega (arith, up, e)) (pairs_of d p s ((a + 1) + n))
      (of_bears d p s ((a + 1) + n)))
