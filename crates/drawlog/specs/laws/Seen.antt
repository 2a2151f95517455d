-- An answer tells the outcome of the code whole: outcomes with one answer are one. Assumes nothing.
use Rattle.std.specs.Prelude.{◌≡◌, refl, Option, Some, None, Result, Ok, Err, ℕ}
use Rattle.std.proofs.Common.{sym, ap, ◌∙◌, true≢false}
use Rattle.basics.specs.declared.refusal.Fault.{Fault}
use Rattle.basics.specs.Refusal.{Cause, cause_seen}
use Rattle.basics.specs.laws.Refusal.{fault_same, refuses}
use Rattle.drawlog.specs.declared.layout.Span.{Span}
use Rattle.drawlog.specs.declared.layout.Entry.{Entry}
use Rattle.drawlog.specs.declared.reader.Reader as held
use Rattle.drawlog.specs.Promise.{Tested, Found, Listed, tested_seen, found_seen, listed_seen}
use Rattle.drawlog.specs.Reader.{Reader, reader_seen}

-- OUTCOMES
pub cause_same : (r r' : Result (Unit {0}) Fault) → cause_seen r ≡ cause_seen r' → r ≡ r'
cause_same (Ok u) (Ok u') e = refl
cause_same (Ok u) (Err f) e = refuses f (ap (λ (c : Cause). c.refusal) (sym e))
cause_same (Err f) (Ok u) e = refuses f (ap (λ (c : Cause). c.refusal) e)
cause_same (Err f) (Err f') e = ap Err (fault_same f f' e)

pub tested_same : (r r' : Result ℕ Fault) → tested_seen r ≡ tested_seen r' → r ≡ r'
tested_same (Ok n) (Ok n') e = ap Ok (ap (λ (t : Tested). t.count) e)
tested_same (Ok n) (Err f) e = refuses f (ap (λ (t : Tested). t.refusal) (sym e))
tested_same (Err f) (Ok n) e = refuses f (ap (λ (t : Tested). t.refusal) e)
tested_same (Err f) (Err f') e = ap Err (fault_same f f' (ap (λ (t : Tested). record { refusal = t.refusal; entry = t.entry }) e))

pub found_same : (r r' : Result Span Fault) → found_seen r ≡ found_seen r' → r ≡ r'
found_same (Ok s) (Ok s') e = ap (λ (x : Found). Ok (record { start = x.start; length = x.length })) e
found_same (Ok s) (Err f) e = refuses f (ap (λ (x : Found). x.refusal) (sym e))
found_same (Err f) (Ok s) e = refuses f (ap (λ (x : Found). x.refusal) e)
found_same (Err f) (Err f') e = ap Err (fault_same f f' (ap (λ (x : Found). record { refusal = x.refusal; entry = x.entry }) e))

pub listed_same : (r r' : Result (Option Entry) Fault) → listed_seen r ≡ listed_seen r' → r ≡ r'
listed_same (Ok (Some n)) (Ok (Some n')) e = ap (λ (x : Listed). Ok (Some (record { id = x.id; start = x.start; length = x.length }))) e
listed_same (Ok (Some n)) (Ok None) e = absurd (true≢false (ap (λ (x : Listed). x.there) e))
listed_same (Ok None) (Ok (Some n)) e = absurd (true≢false (ap (λ (x : Listed). x.there) (sym e)))
listed_same (Ok None) (Ok None) e = refl
listed_same (Ok (Some n)) (Err f) e = refuses f (ap (λ (x : Listed). x.refusal) (sym e))
listed_same (Ok None) (Err f) e = refuses f (ap (λ (x : Listed). x.refusal) (sym e))
listed_same (Err f) (Ok (Some n)) e = refuses f (ap (λ (x : Listed). x.refusal) e)
listed_same (Err f) (Ok None) e = refuses f (ap (λ (x : Listed). x.refusal) e)
listed_same (Err f) (Err f') e = ap Err (fault_same f f' (ap (λ (x : Listed). record { refusal = x.refusal; entry = x.entry }) e))

pub reader_same : (r r' : held.Reader) → reader_seen r ≡ reader_seen r' → r ≡ r'
reader_same r r' e =
    let outcomes : r.outcome ≡ r'.outcome = cause_same r.outcome r'.outcome (ap (λ (x : Reader). record { refusal = x.refusal; entry = x.fault }) e) in
    let made : Reader → Result (Unit {0}) Fault → held.Reader = λ x o. record { log = x.log; next = x.next; outcome = o } in
    ap (λ (x : Reader). made x r.outcome) e ∙ ap (λ (o : Result (Unit {0}) Fault). made (reader_seen r') o) outcomes
