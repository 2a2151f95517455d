-- Laws of lengths that are stored one after another, and of their sum. Assumes nothing.
use Rattle.std.specs.Prelude.{◌≡◌, List, ℕ, zero, suc, ◌+◌, ◌≤◌, ◌<◌, length, take, set}
use Rattle.std.proofs.Common.{sym, ◌∙◌, add-one, arith, get_or-take, get_or-set_same, get_or-set_other}
use Rattle.basics.specs.Lists.{at}
use Rattle.writer.specs.Made.{sum_to}
use Rattle.writer.specs.laws.Made.{sum_none, sum_next}

sum_suc : (ns : List ℕ) (k : ℕ) → sum_to ns (suc k) ≡ sum_to ns k + at ns k
sum_suc ns k = rw add-one at (sum_next ns k)

-- a length that is stored at place k leaves the sum below it
sum_below : (ns : List ℕ) (k v j : ℕ) → j ≤ k → sum_to (set ns k v) j ≡ sum_to ns j
sum_below ns k v zero h = sum_none (set ns k v) ∙ sym (sum_none ns)
sum_below ns k v (suc j) h =
    omega (arith, sum_suc (set ns k v) j, sum_suc ns j, sum_below ns k v j (omega arith), get_or-set_other ns k j v 0 (λ e. omega arith))

pub sum_stored : (ns : List ℕ) (k v : ℕ) → k < length ns → sum_to (set ns k v) (k + 1) ≡ sum_to ns k + v
sum_stored ns k v h = omega (arith, sum_next (set ns k v) k, sum_below ns k v k (omega arith), get_or-set_same ns k v 0 h)

-- the front of a room of lengths has the room's sum
pub sum_front : (ns : List ℕ) (n k : ℕ) → k ≤ n → sum_to (take n ns) k ≡ sum_to ns k
sum_front ns n zero h = sum_none (take n ns) ∙ sym (sum_none ns)
sum_front ns n (suc k) h = omega (arith, sum_suc (take n ns) k, sum_suc ns k, sum_front ns n k (omega arith), get_or-take n ns k 0 (omega arith))
