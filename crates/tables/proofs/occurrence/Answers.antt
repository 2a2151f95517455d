-- `tables::occurrence` meets its contract: the value for each refusal is `value_after`'s.
-- Assumes nothing.
use Rattle.std.proofs.Common.{◌≡◌, ap, ◌∙◌, ℕ, List, length, Err, arith, rules}
use Rattle.basics.specs.declared.refusal.Refusal.{Refusal}
use Rattle.basics.specs.Refusal.{number_of}
use Rattle.basics.specs.laws.Refusal.{number_above}
use Rattle.tables.specs.Occurrence.{occurrence_table}
use Rattle.tables.specs.Refusal.{refusal_of}
use Rattle.tables.specs.Promise.{occurrence_of, occurrences_seen}
use Rattle.tables.specs.laws.Occurrence.{occurrence_by, value_refused}
use Rattle.tables.proofs.occurrence.Goals as goal

-- an outcome that is no table reads as 256 zeros
refused : (x : List ℕ) (r : Refusal) → number_of r ≡ refusal_of 0 (length x) 0 → occurrences_seen (Err r) ≡ occurrence_of x
refused x r e =
    (λ k. record { refusal = number_of r; table = value_refused (number_of r) (occurrence_table x) (λ z. omega (arith, number_above r)) k }) ∙ occurrence_by x (number_of r) e

pub returns-in_err-x : goal.returns-in_err-x
returns-in_err-x c = search (rules, refused)

pub returns : goal.returns
returns c =
    let k = c.in_ok-x.ensures in
    let q : c.by_byte.result ≡ occurrence_table c.args.probe.now = c.by_byte.ensures ∙ ap occurrence_table k.probe in
    (λ k. record { refusal = 0; table = q k }) ∙ occurrence_by c.args.probe.now 0 k.refusal
