-- What the writer promises of its answer and of the whole room, on success and on refusal; and that equal inputs give equal outcomes. Assumes nothing.
use Rattle.std.specs.Prelude.{◌≡◌, List, ℕ, zero, suc, length, Result, Ok, Err}
use Rattle.basics.specs.Rooms.{room_after}
use Rattle.basics.specs.Refusal.{Cause, number_of}
use Rattle.basics.specs.declared.refusal.Fault.{Fault}
use Rattle.writer.specs.Made.{made}
use Rattle.writer.specs.Refusal.{cause_of}

-- `write`'s answer: its refusal (0: none) with the entry at fault, and the log's length, which is 0 beside a refusal
pub record Written : Type 0 where
  pub refusal : ℕ
  pub entry : ℕ
  pub length : ℕ

-- the answer of an outcome
abbrev pub written_seen : Result ℕ Fault → Written
written_seen (Ok size) = record { refusal = 0; entry = 0; length = size }
written_seen (Err f) = record { refusal = number_of f.refusal; entry = f.entry; length = 0 }

-- the answer beside this refusal (0: none) and its entry number: the log's length
unfoldable pub written_of : ℕ → ℕ → ℕ → Written
written_of zero k size = record { refusal = 0; entry = 0; length = size }
written_of (suc r) k size = record { refusal = suc r; entry = k; length = 0 }

-- the first cause to refuse the block bytes b, the ids is, the lengths ns and the room d
abbrev pub cause : List ℕ → List ℕ → List ℕ → List ℕ → Cause
cause b is ns d = cause_of b is ns (length d)

-- `write`, of the block bytes b, the ids is, the lengths ns and the room d: the answer is r, and the room ends as d'
pub record Writing (b is ns d : List ℕ) (r : Written) (d' : List ℕ) : Type 0 where
  pub answer : r ≡ written_of (cause b is ns d).refusal (cause b is ns d).entry (length (made b is ns))
  pub room : d' ≡ room_after r.refusal (made b is ns) d

pub write_once : {b is ns d : List ℕ} {r r' : Written} {d₁ d₂ : List ℕ} → Writing b is ns d r d₁ → Writing b is ns d r' d₂ → (r ≡ r') × (d₁ ≡ d₂)
write_once p q = (cc, cc)
