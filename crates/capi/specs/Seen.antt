-- The structs of the C interface, read as the libraries' answers; and what each shows of an outcome. Assumes nothing.
use Rattle.std.specs.Prelude.{◌≡◌, List, ℕ, Result}
use Rattle.basics.specs.declared.refusal.Refusal.{Refusal}
use Rattle.basics.specs.declared.refusal.Fault.{Fault}
use Rattle.scans.specs.declared.Answer as six
use Rattle.drawlog.specs.declared.Span as span
use Rattle.pairs.specs.declared.Checked as numbers
use Rattle.tables.specs.Promise as tables
use Rattle.scans.specs.Promise as scans
use Rattle.drawlog.specs.Promise as drawlog
use Rattle.writer.specs.Promise as writer
use Rattle.pairs.specs.Promise as pairs
use Rattle.capi.specs.declared.checks.Checked.{Checked}
use Rattle.capi.specs.declared.logs.Tested.{Tested}
use Rattle.capi.specs.declared.logs.Found.{Found}
use Rattle.capi.specs.declared.logs.Written.{Written}
use Rattle.capi.specs.declared.probes.Occurrences.{Occurrences}
use Rattle.capi.specs.declared.searches.Searched.{Searched}

abbrev pub occurrences_seen : Occurrences → tables.Occurrences
occurrences_seen r = record { refusal = r.refusal; table = r.table }

abbrev pub FromTable : Result (List ℕ) Refusal → Occurrences → Type 0
FromTable o r = occurrences_seen r ≡ tables.occurrences_seen o

-- without the entry number, which is 0
abbrev pub answer_seen : Searched → scans.Answer
answer_seen r =
    record {
      refusal = r.refusal;
      occurrences = r.occurrences;
      written = r.written;
      windows = r.windows;
      comparisons = r.comparisons;
      closest = r.closest;
      closest_at = r.closest_at;
    }

abbrev pub FromAnswer : Result six.Answer Refusal → Searched → Type 0
FromAnswer o r = (answer_seen r ≡ scans.answer_seen o) × (r.entry ≡ 0)

abbrev pub tested_seen : Tested → drawlog.Tested
tested_seen r = record { refusal = r.refusal; entry = r.entry; count = r.count }

abbrev pub FromTested : Result ℕ Fault → Tested → Type 0
FromTested o r = tested_seen r ≡ drawlog.tested_seen o

abbrev pub found_seen : Found → drawlog.Found
found_seen r = record { refusal = r.refusal; entry = r.entry; start = r.start; length = r.length }

abbrev pub FromFound : Result span.Span Fault → Found → Type 0
FromFound o r = found_seen r ≡ drawlog.found_seen o

abbrev pub written_seen : Written → writer.Written
written_seen r = record { refusal = r.refusal; entry = r.entry; length = r.length }

abbrev pub FromWritten : Result ℕ Fault → Written → Type 0
FromWritten o r = written_seen r ≡ writer.written_seen o

abbrev pub checked_seen : Checked → pairs.Checked
checked_seen r = record { refusal = r.refusal; entry = r.entry; pairs = r.pairs; unprobed = r.unprobed }

abbrev pub FromChecked : Result numbers.Checked Fault → Checked → Type 0
FromChecked o r = checked_seen r ≡ pairs.checked_seen o
