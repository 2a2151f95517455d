-- What the calls give where no cause refuses them. Assumes nothing.
use Rattle.std.specs.Prelude.{◌≡◌, List, ℕ, ◌*◌, ◌≤◌, length}
use Rattle.std.proofs.Common.{sym, ap, ◌∙◌, arith}
use Rattle.basics.specs.Rooms.{front}
use Rattle.tables.specs.Occurrence.{occurrence_table}
use Rattle.tables.specs.Refusal.{longest}
use Rattle.tables.specs.Promise.{Written, Occurrences, occurrence_of}
use Rattle.tables.specs.laws.Refusal.{refuses_none}
use Rattle.tables.specs.laws.Occurrence.{occurrence_by}

pub table_written : {k : ℕ} {t x d : List ℕ} {r : ℕ} {d' : List ℕ} → Written k t x d r d' → 1 ≤ length x → length x ≤ longest → k * length x ≤ length d → d' ≡ front t d
table_written {k} {t} {x} {d} {r} w some short reaches =
    let z : r ≡ 0 = w.answer ∙ refuses_none k (length x) (length d) (λ e. omega arith) short reaches in
    rw z at w.room

pub occurrence_written : (x : List ℕ) → 1 ≤ length x → length x ≤ longest → (occurrence_of x).table ≡ occurrence_table x
occurrence_written x some short =
    ap (λ (r : Occurrences). r.table) (sym (occurrence_by x 0 (sym (refuses_none 0 (length x) 0 (λ e. omega arith) short (omega arith)))))
