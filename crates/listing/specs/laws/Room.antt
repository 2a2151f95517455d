-- The pairs that a room holds, and those of one owner among them. Assumes nothing.
use Rattle.std.specs.Prelude.{◌≡◌, List, [], ◌∷◌, ◌++◌, length}
use Rattle.std.proofs.Math.Path.{refl}
use Rattle.std.proofs.Common.{ap, ◌∙◌, append_assoc, add-zero, arith, eq-eqb, ne_eqb, length-append}
use Prim.Native.Nat.{ℕ, zero, suc, ◌+◌, ◌-◌, ◌*◌, ◌≤◌, ◌<◌}
use Rattle.basics.specs.Lists.{at}
use Rattle.basics.specs.Rooms.{Begins}
use Rattle.drawlog.specs.Log.{id_at}
use Rattle.drawlog.specs.laws.Promise.{holding}
use Rattle.pairs.specs.Check.{Pair, pairs_of, pairs, numbers}
use Rattle.pairs.specs.laws.Check.{number_at, length-numbers}
use Rattle.pairs.specs.laws.Each.{Each}
use Rattle.pairs.specs.laws.Owners.{Bears, Above, of_bears, later, later-above, pairs_split}
use Rattle.pairs.specs.Promise.{step}
use Rattle.listing.specs.Listing.{draws}
use Rattle.listing.specs.Inside.{pair_in, owned_from, Holds}

-- A PAIR behind others
module _ (ps : List Pair) (q : Pair) (qs : List Pair) where
  module _ (d : List ℕ) (b : Begins (numbers (ps ++ (q ∷ qs))) d) where
    number_in : (t : ℕ) → t < 4 → at d (4 * length ps + t) ≡ at (q.owner ∷ q.other ∷ q.first ∷ q.number ∷ []) t
    number_in t h =
        b.entry (4 * length ps + t) (omega (arith, length-numbers (ps ++ (q ∷ qs)), length-append ps (q ∷ qs))) ∙ number_at ps q qs t h

    pub owner_in : at d (4 * length ps) ≡ q.owner
    owner_in = rw add-zero at (number_in 0 (omega arith))

    pub pair_in_lem : pair_in d (length ps) ≡ q
    pair_in_lem =
        let e1 : at d (4 * length ps + 1) ≡ q.other = number_in 1 (omega arith) in
        let e2 : at d (4 * length ps + 2) ≡ q.first = number_in 2 (omega arith) in
        let e3 : at d (4 * length ps + 3) ≡ q.number = number_in 3 (omega arith) in
        λ i. record { owner = owner_in i; other = e1 i; first = e2 i; number = e3 i }

-- THE PAIRS OF ONE OWNER from pair k on
module _ (id : ℕ) (d : List ℕ) where
  pub owned_none : (k : ℕ) → owned_from id d 0 k ≡ []
  unfolding owned_from
  owned_none k = refl

  pub owned_stop : (n k : ℕ) → (at d (4 * k) ≡ id → ⊥) → owned_from id d n k ≡ []
  unfolding owned_from
  owned_stop zero k h = refl
  owned_stop (suc n) k h = rw (ne_eqb (at d (4 * k)) id h)

  pub owned_more : (n k : ℕ) → at d (4 * k) ≡ id → owned_from id d (suc n) k ≡ pair_in d k ∷ owned_from id d n (suc k)
  unfolding owned_from
  owned_more n k h = rw (eq-eqb (at d (4 * k)) id h)

  -- in a room that holds ps, then pairs of this owner, then pairs of higher ones
  pub owned_is : (ps rs ts : List Pair) → Begins (numbers (ps ++ (rs ++ ts))) d → Each (Bears id) rs → Each (Above id) ts
      → owned_from id d (length (rs ++ ts)) (length ps) ≡ rs
  owned_is ps [] [] b own above = owned_none (length ps)
  owned_is ps [] (t ∷ ts) b own above =
      owned_stop (length (t ∷ ts)) (length ps) (λ (e : at d (4 * length ps) ≡ id). absurd (omega (arith, e, owner_in ps t ts d b, above.0)))
  owned_is ps (r ∷ rs) ts b own above =
      let next : length (ps ++ (r ∷ [])) ≡ suc (length ps) = omega (arith, length-append ps (r ∷ [])) in
      let front : Begins (numbers ((ps ++ (r ∷ [])) ++ (rs ++ ts))) d = rw (append_assoc ps (r ∷ []) (rs ++ ts)) b in
      let rest : owned_from id d (length (rs ++ ts)) (suc (length ps)) ≡ rs = rw next at (owned_is (ps ++ (r ∷ [])) rs ts front own.1 above) in
      owned_more (length (rs ++ ts)) (length ps) (owner_in ps r (rs ++ ts) d b ∙ own.0)
      ∙ (λ i. pair_in_lem ps r (rs ++ ts) d b i ∷ rest i)

-- in the room that the check leaves
pub owned_of : {s : List ℕ} {c n k : ℕ} {d : List ℕ} (a : ℕ) → Holds s c d n → a < c → k ≡ length (pairs step draws s a)
    → owned_from (id_at s a) d (n - k) k ≡ pairs_of step draws s a
owned_of {s} {c} {n} {k} {d} a held h e =
    let ps = pairs step draws s a in
    let rs = pairs_of step draws s a in
    let ts = later step draws s (a + 1) (c - (a + 1)) in
    let all = holding s a (omega (arith, held.count)) in
    let split : pairs step draws s c ≡ ps ++ (rs ++ ts) = pairs_split step draws s a c h in
    let left : n - k ≡ length (rs ++ ts) = omega (arith, held.number, ap length split, length-append ps (rs ++ ts)) in
    rw (left, e)
    (owned_is (id_at s a) d ps rs ts (rw split at held.room) (of_bears step draws s a)
    (later-above step draws s all.good a (c - (a + 1)) (omega (arith, held.count, all.number))))

-- the pairs of the owners before it are among them
pub owned_within : {s : List ℕ} {c n k : ℕ} {d : List ℕ} {a : ℕ} → Holds s c d n → a < c → k ≡ length (pairs step draws s a) → k ≤ n
owned_within {s} {c} {n} {k} {d} {a} held h e =
    let ps = pairs step draws s a in
    let rest = pairs_of step draws s a ++ later step draws s (a + 1) (c - (a + 1)) in
    omega (arith, held.number, ap length (pairs_split step draws s a c h), length-append ps rest)

pub holds_room : {s : List ℕ} {c n : ℕ} {d : List ℕ} → Holds s c d n → 4 * n ≤ length d
holds_room {s} {c} held = omega (arith, held.number, held.room.reaches, length-numbers (pairs step draws s c))
