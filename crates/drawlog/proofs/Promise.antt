-- Laws of the answers: whatever a call answers, the stretch that it names lies in the log. Assumes nothing.
use Rattle.std.specs.Prelude.{◌≡◌, List, ℕ, ◌+◌, ◌≤◌, ◌<◌, length}
use Rattle.std.proofs.Common.{⊎_elim, arith}
use Rattle.basics.specs.laws.Tests.{equal_or_not, le_or_lt}
use Rattle.drawlog.specs.Log.{count, start_at, length_at}
use Rattle.drawlog.specs.Refusal.{cause_of}
use Rattle.drawlog.specs.Promise.{tested_of, seek, found_of, listed_of}
use Rattle.drawlog.specs.laws.Refusal.{Accepted, accepted_is}
use Rattle.drawlog.specs.laws.Promise.{found_at, found_none, found_no, listed_at, listed_none, holding}
use Rattle.drawlog.proofs.Accepted.{block_within}

-- WHATEVER A CALL ANSWERS, the stretch that it names lies in the log
inside : (s : List ℕ) → Accepted s → (k : ℕ) → k < count s → start_at s k + length_at s k ≤ length s
inside s a k h = omega (arith, block_within s a k h, a.frame.size)

pub found_within : (s : List ℕ) (id : ℕ) → (found_of s id).start + (found_of s id).length ≤ length s
found_within s id =
    ⊎_elim
    (λ (a : (cause_of s).refusal ≡ 0). ⊎_elim
    (λ (h : count s ≤ seek s id). rw (found_none s a id h) (omega arith))
    (λ (h : seek s id < count s). rw (found_at s a id h) (inside s (accepted_is s a) (seek s id) h))
    (le_or_lt (count s) (seek s id)))
    (λ (a : (cause_of s).refusal ≡ 0 → ⊥). rw (found_no s a id) (omega arith))
    (equal_or_not (cause_of s).refusal 0)

pub listed_within : (s : List ℕ) (k : ℕ) → (listed_of s k).start + (listed_of s k).length ≤ length s
listed_within s k =
    ⊎_elim
    (λ (h : (tested_of s).count ≤ k). rw (listed_none s k h) (omega arith))
    (λ (h : k < (tested_of s).count). rw (listed_at s k h) (inside s (holding s k h).good k (omega (arith, (holding s k h).number))))
    (le_or_lt (tested_of s).count k)
