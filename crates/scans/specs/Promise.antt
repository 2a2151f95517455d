-- What each search promises of its answer and its rooms, on success and on refusal; and that equal inputs give equal outcomes.
-- Assumes nothing.
use Rattle.std.specs.Prelude.{◌≡◌, List, ◌++◌, ℕ, zero, suc, min, length, take, drop, replicate, Option, Some, None, Result, Ok, Err}
use Rattle.basics.specs.declared.refusal.Refusal.{Refusal}
use Rattle.basics.specs.Refusal.{number_of}
use Rattle.basics.specs.Rooms.{room_after}
use Rattle.tables.specs.Both.{both_tables}
use Rattle.scans.specs.declared.Answer.{Answer as Six}
use Rattle.scans.specs.declared.Tally.{Tally as Places}
use Rattle.scans.specs.Trace.{Window, comparisons, positions}
use Rattle.scans.specs.Plain.{plain}
use Rattle.scans.specs.Remember.{remembering}
use Rattle.scans.specs.Closeness.{closest, closest_start}
use Rattle.scans.specs.Occurrences.{occurrences, multiples, first_of}
use Rattle.scans.specs.Refusal.{refusal_of}

-- What a search answers: its refusal (0: none) and six numbers. The last two say how close it came: the most trailing bytes of the probe that equal the stream
-- in a window visited, and where the first window with so many starts. On refusal every other number is 0.
pub record Answer : Type 0 where
  pub refusal : ℕ
  pub occurrences : ℕ
  pub written : ℕ
  pub windows : ℕ
  pub comparisons : ℕ
  pub closest : ℕ
  pub closest_at : ℕ

-- what the code gives, read as that
abbrev pub answer_seen : Result Six Refusal → Answer
answer_seen (Ok a) =
    record {
      refusal = 0;
      occurrences = a.occurrences;
      written = a.written;
      windows = a.windows;
      comparisons = a.comparisons;
      closest = a.closest;
      closest_at = a.closest_at;
    }
answer_seen (Err r) =
    record { refusal = number_of r; occurrences = 0; written = 0; windows = 0; comparisons = 0; closest = 0; closest_at = 0 }

-- the six numbers of a search with this refusal (0: none), trace and number of entries in the position room
unfoldable pub answer_of : ℕ → List Window → ℕ → Answer
answer_of zero ws n =
    record {
      refusal = 0;
      occurrences = length (positions ws);
      written = min (length (positions ws)) n;
      windows = length ws;
      comparisons = comparisons ws;
      closest = closest ws;
      closest_at = closest_start ws;
    }
answer_of (suc r) ws n =
    record { refusal = suc r; occurrences = 0; written = 0; windows = 0; comparisons = 0; closest = 0; closest_at = 0 }

-- the position room d after the positions ps: the first of them as far as it reaches, and the rest as it was
abbrev pub reported : List ℕ → List ℕ → List ℕ
reported ps d = take (length d) ps ++ drop (length ps) d

abbrev pub reported_after : ℕ → List ℕ → List ℕ → List ℕ
reported_after zero ps d = reported ps d
reported_after (suc r) ps d = d

-- `plain`, of the probe x, the stream y, the room t for both tables and the position room d: the answer is r, and the rooms end as t', d'. It has no memory
-- room, so none is too short.
pub record Plainly (x y t d : List ℕ) (r : Answer) (t' d' : List ℕ) : Type 0 where
  pub answer : r ≡ answer_of (refusal_of (length x) (length y) (length t) (length x)) (plain x y) (length d)
  pub tables : t' ≡ room_after r.refusal (both_tables x) t
  pub places : d' ≡ reported_after r.refusal (positions (plain x y)) d

pub plain_once : {x y t d : List ℕ} {r r' : Answer} {t₁ d₁ t₂ d₂ : List ℕ} → Plainly x y t d r t₁ d₁ → Plainly x y t d r' t₂ d₂
    → (r ≡ r') × (t₁ ≡ t₂) × (d₁ ≡ d₂)
plain_once p q = (cc, cc, cc)

-- `remember`, with the memory room e besides, whose first m entries end at 0
pub record Rememberingly (x y t e d : List ℕ) (r : Answer) (t' e' d' : List ℕ) : Type 0 where
  pub answer : r ≡ answer_of (refusal_of (length x) (length y) (length t) (length e)) (remembering x y) (length d)
  pub tables : t' ≡ room_after r.refusal (both_tables x) t
  pub memory : e' ≡ room_after r.refusal (replicate (length x) 0) e
  pub places : d' ≡ reported_after r.refusal (positions (remembering x y)) d

pub remember_once : {x y t e d : List ℕ} {r r' : Answer} {t₁ e₁ d₁ t₂ e₂ d₂ : List ℕ} → Rememberingly x y t e d r t₁ e₁ d₁ → Rememberingly x y t e d r' t₂ e₂ d₂
    → (r ≡ r') × (t₁ ≡ t₂) × (e₁ ≡ e₂) × (d₁ ≡ d₂)
remember_once p q = (cc, cc, cc, cc)

-- The occurrences at multiples of a step: the refusal (0: none), their number, and the first of them. On refusal, and where there is none, 0.
pub record Tally : Type 0 where
  pub refusal : ℕ
  pub number : ℕ
  pub first : ℕ

-- what the code gives, read as that
abbrev pub tally_seen : Result (Option Places) Refusal → Tally
tally_seen (Ok (Some t)) = record { refusal = 0; number = t.number; first = t.first }
tally_seen (Ok None) = record { refusal = 0; number = 0; first = 0 }
tally_seen (Err r) = record { refusal = number_of r; number = 0; first = 0 }

-- the number and the first of the places ps beside this refusal
unfoldable pub tally_of : ℕ → List ℕ → Tally
tally_of zero ps = record { refusal = 0; number = length ps; first = first_of ps }
tally_of (suc r) ps = record { refusal = suc r; number = 0; first = 0 }

-- `aligned`, with the step d: of all occurrences, those at multiples of d
pub record Aligning (x y t e : List ℕ) (d : ℕ) (r : Tally) (t' e' : List ℕ) : Type 0 where
  pub answer : r ≡ tally_of (refusal_of (length x) (length y) (length t) (length e)) (multiples d (occurrences x y))
  pub tables : t' ≡ room_after r.refusal (both_tables x) t
  pub memory : e' ≡ room_after r.refusal (replicate (length x) 0) e

pub aligned_once : {x y t e : List ℕ} {d : ℕ} {r r' : Tally} {t₁ e₁ t₂ e₂ : List ℕ} → Aligning x y t e d r t₁ e₁ → Aligning x y t e d r' t₂ e₂
    → (r ≡ r') × (t₁ ≡ t₂) × (e₁ ≡ e₂)
aligned_once p q = (cc, cc, cc)
