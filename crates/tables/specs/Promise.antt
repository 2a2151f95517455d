-- What each table call promises of its answer and its rooms, on success and on refusal; and that equal inputs give equal outcomes.
-- Assumes nothing.
use Rattle.std.specs.Prelude.{◌≡◌, List, ℕ, zero, suc, length, replicate, Result, Ok, Err}
use Rattle.basics.specs.declared.refusal.Refusal.{Refusal}
use Rattle.basics.specs.Refusal.{number_of}
use Rattle.basics.specs.Rooms.{room_after}
use Rattle.tables.specs.Occurrence.{occurrence_table}
use Rattle.tables.specs.Refusal.{refusal_of}

-- `suffix`, `shift` and `both`: the list t, k numbers for each byte of the probe x, in front of the room d. The answer is r, and the room ends as d'.
pub record Written (k : ℕ) (t x d : List ℕ) (r : ℕ) (d' : List ℕ) : Type 0 where
  pub answer : r ≡ refusal_of k (length x) (length d)
  pub room : d' ≡ room_after r t d

pub written_once : {k : ℕ} {t x d : List ℕ} {r r' : ℕ} {d₁ d₂ : List ℕ} → Written k t x d r d₁ → Written k t x d r' d₂ → (r ≡ r') × (d₁ ≡ d₂)
written_once p q = (cc, cc)

-- an outcome of `occurrence` by its refusal's number, 0 for none, and the table; 256 zeros beside a refusal
pub record Occurrences : Type 0 where
  pub refusal : ℕ
  pub table : List ℕ

abbrev pub occurrences_seen : Result (List ℕ) Refusal → Occurrences
occurrences_seen (Ok t) = record { refusal = 0; table = t }
occurrences_seen (Err r) = record { refusal = number_of r; table = replicate 256 0 }

-- `occurrence`: the table by value, and 256 zeros beside a refusal. It has no room, so none is too short.
abbrev pub value_after : ℕ → List ℕ → List ℕ
value_after zero t = t
value_after (suc r) t = replicate 256 0

unfoldable pub occurrence_of : List ℕ → Occurrences
occurrence_of x =
    let refusal = refusal_of 0 (length x) 0 in record { refusal = refusal; table = value_after refusal (occurrence_table x) }

pub occurrence_once : (x : List ℕ) {r r' : Occurrences} → r ≡ occurrence_of x → r' ≡ occurrence_of x → r ≡ r'
occurrence_once x p q = cc
