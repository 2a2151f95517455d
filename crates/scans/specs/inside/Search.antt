-- What a whole search gives, before it is put into an answer. Assumes nothing.
use Rattle.std.specs.Prelude.{◌≡◌, List, ℕ, cond, eqb, min, length, replicate, Option, Some, None, Result, IfOk}
use Rattle.basics.specs.declared.refusal.Refusal.{Refusal}
use Rattle.basics.specs.Refusal.{refusal_seen}
use Rattle.basics.specs.Rooms.{room_after}
use Rattle.tables.specs.Both.{both_tables}
use Rattle.tables.specs.Occurrence.{occurrence_table}
use Rattle.scans.specs.declared.Answer.{Answer}
use Rattle.scans.specs.declared.Tally.{Tally}
use Rattle.scans.specs.declared.loops.Run.{Run}
use Rattle.scans.specs.Remember.{remembering}
use Rattle.scans.specs.Refusal.{refusal_of}
use Rattle.scans.specs.Promise.{reported_after}
use Rattle.scans.specs.inside.Hits.{places_of, run_of}

-- the answers made of a run: the position room has n entries, or the first place noted is f
abbrev pub answer_by : Run → ℕ → Answer
answer_by run n =
    record {
      occurrences = run.hits;
      written = min run.hits n;
      windows = run.windows;
      comparisons = run.comparisons;
      closest = run.closest.equal;
      closest_at = run.closest.at;
    }

abbrev pub tally_by : Run → ℕ → Option Tally
tally_by run f = cond (eqb run.hits 0) None (Some (record { number = run.hits; first = f }))

-- the remembering search, of the probe x, the stream y, the rooms t, e, p and the step d: its outcome is r
pub record Searching (x y t e p : List ℕ) (d : ℕ) (r : Result Run Refusal) (t' e' p' : List ℕ) : Type 0 where
  pub refusal : refusal_seen r ≡ refusal_of (length x) (length y) (length t) (length e)
  pub run : IfOk r (λ run. run ≡ run_of d (remembering x y))
  pub tables : t' ≡ room_after (refusal_seen r) (both_tables x) t
  pub memory : e' ≡ room_after (refusal_seen r) (replicate (length x) 0) e
  pub places : p' ≡ reported_after (refusal_seen r) (places_of d (remembering x y)) p

-- the causes looked for and the tables written, of the probe x, a stream of n bytes, a memory room of e entries, and the room t for both tables
pub record Preparing (x : List ℕ) (n e : ℕ) (t : List ℕ) (r : Result (List ℕ) Refusal) (t' : List ℕ) : Type 0 where
  pub refusal : refusal_seen r ≡ refusal_of (length x) n (length t) e
  pub tables : t' ≡ room_after (refusal_seen r) (both_tables x) t
  pub byte : IfOk r (λ occ. occ ≡ occurrence_table x)
