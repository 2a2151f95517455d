-- Equal inputs, equal outcomes: one theorem for each public call, from what it promises. Assumes nothing.
use Rattle.std.specs.Prelude.{◌≡◌, Bool, Option, Result, List, ℕ}
use Rattle.std.proofs.Common.{sym, ap, ◌∙◌}
use Rattle.std.specs.Borrow.{Bor}
use Rattle.basics.specs.declared.refusal.Fault.{Fault}
use Rattle.basics.specs.Refusal.{Cause, cause_seen}
use Rattle.drawlog.specs.declared.layout.Span.{Span}
use Rattle.drawlog.specs.declared.layout.Entry.{Entry}
use Rattle.drawlog.specs.declared.reader.Reader as held
use Rattle.drawlog.specs.Promise.{Tested, Found, Listed, tested_of, tested_seen, found_of, found_seen, listed_of, listed_seen, Stretch, BlockOf, BlockAt}
use Rattle.drawlog.specs.Reader.{Reader, reader_seen, opened, carried, left, Handed, skipped}
use Rattle.drawlog.specs.laws.Seen.{cause_same, tested_same, found_same, listed_same, reader_same}

-- CALLS THAT ANSWER A VALUE
pub test_determined : {s s' : List ℕ} {r r' : Tested} → r ≡ tested_of s → r' ≡ tested_of s' → s ≡ s' → r ≡ r'
test_determined e e' same = cc

pub find_determined : (id : ℕ) {s s' : List ℕ} {r r' : Found} → r ≡ found_of s id → r' ≡ found_of s' id → s ≡ s' → r ≡ r'
find_determined id e e' same = cc

pub entry_determined : (k : ℕ) {s s' : List ℕ} {r r' : Listed} → r ≡ listed_of s k → r' ≡ listed_of s' k → s ≡ s' → r ≡ r'
entry_determined k e e' same = cc

-- CALLS THAT HAND BACK A STRETCH: of equal logs equal bytes, and of one log the same place
pub record Alike (l l' b b' : Bor (List ℕ)) : Type 0 where
  pub bytes : b.now ≡ b'.now
  pub place : l.ref_ptr ≡ l'.ref_ptr → b.ref_ptr ≡ b'.ref_ptr

stretch_determined : {l l' : Bor (List ℕ)} {a a' n n' : ℕ} {b b' : Bor (List ℕ)} → Stretch l a n b → Stretch l' a' n' b' → l.now ≡ l'.now → a ≡ a' → n ≡ n' → Alike l l' b b'
stretch_determined {l} {l'} {a} {a'} w w' same starts sizes = record {
  bytes = cc;
  place = λ at. w.place ∙ rw (at, starts) (sym w'.place);
}

pub block_determined : (id : ℕ) {l l' : Bor (List ℕ)} {b b' : Bor (List ℕ)} → BlockOf l id b → BlockOf l' id b' → l.now ≡ l'.now → Alike l l' b b'
block_determined id {l} {l'} w w' same =
    let f : found_of l.now id ≡ found_of l'.now id = ap (λ (s : List ℕ). found_of s id) same in
    stretch_determined w w' same (ap (λ (x : Found). x.start) f) (ap (λ (x : Found). x.length) f)

pub block-at_determined : (k : ℕ) {l l' : Bor (List ℕ)} {b b' : Bor (List ℕ)} → BlockAt l k b → BlockAt l' k b' → l.now ≡ l'.now → Alike l l' b b'
block-at_determined k {l} {l'} w w' same =
    let e : listed_of l.now k ≡ listed_of l'.now k = ap (λ (s : List ℕ). listed_of s k) same in
    stretch_determined w w' same (ap (λ (x : Listed). x.start) e) (ap (λ (x : Listed). x.length) e)

-- THE READER: equal readers answer, hand out and go on alike
pub open_determined : {l l' : Bor (List ℕ)} {r r' : Reader} → r ≡ opened l → r' ≡ opened l' → l ≡ l' → r ≡ r'
open_determined {l} {l'} e e' same = e ∙ ap opened same ∙ sym e'

pub refused_determined : {r r' : Reader} {c c' : Cause} → c ≡ carried r → c' ≡ carried r' → r ≡ r' → c ≡ c'
refused_determined e e' same = e ∙ ap carried same ∙ sym e'

pub left_determined : {r r' : Reader} {b b' : Bool} → b ≡ left r → b' ≡ left r' → r ≡ r' → b ≡ b'
left_determined e e' same = e ∙ ap left same ∙ sym e'

pub handed_determined : {r r' : Reader} {b b' : Bor (List ℕ)} → Handed r b → Handed r' b' → r ≡ r' → Alike r.log r'.log b b'
handed_determined {r} {r'} w w' same =
    let logs : r.log ≡ r'.log = ap (λ (x : Reader). x.log) same in
    let next : r.next ≡ r'.next = ap (λ (x : Reader). x.next) same in
    let e : listed_of r.log.now r.next ≡ listed_of r'.log.now r'.next = rw (logs, next) in
    stretch_determined w w' (ap (λ x. x.now) logs) (ap (λ (x : Listed). x.start) e) (ap (λ (x : Listed). x.length) e)

pub skip_determined : (n : ℕ) {r r' : Reader} {q q' : Reader} → q ≡ skipped r n → q' ≡ skipped r' n → r ≡ r' → q ≡ q'
skip_determined n e e' same = e ∙ ap (λ (x : Reader). skipped x n) same ∙ sym e'

pub read_determined : (k : ℕ) {l l' : Bor (List ℕ)} {b b' : Bor (List ℕ)} → Handed (skipped (opened l) k) b → Handed (skipped (opened l') k) b' → l ≡ l' → Alike l l' b b'
read_determined k w w' same = handed_determined w w' (ap (λ (x : Bor (List ℕ)). skipped (opened x) k) same)

-- THE OUTCOMES THEMSELVES, which the answers tell whole
pub test_outcome : {s s' : List ℕ} {r r' : Result ℕ Fault} → tested_seen r ≡ tested_of s → tested_seen r' ≡ tested_of s' → s ≡ s' → r ≡ r'
test_outcome {s} {s'} {r} {r'} e e' same = tested_same r r' (test_determined e e' same)

pub find_outcome : (id : ℕ) {s s' : List ℕ} {r r' : Result Span Fault} → found_seen r ≡ found_of s id → found_seen r' ≡ found_of s' id → s ≡ s' → r ≡ r'
find_outcome id {s} {s'} {r} {r'} e e' same = found_same r r' (find_determined id e e' same)

pub entry_outcome : (k : ℕ) {s s' : List ℕ} {r r' : Result (Option Entry) Fault} → listed_seen r ≡ listed_of s k → listed_seen r' ≡ listed_of s' k → s ≡ s' → r ≡ r'
entry_outcome k {s} {s'} {r} {r'} e e' same = listed_same r r' (entry_determined k e e' same)

pub open_outcome : {l l' : Bor (List ℕ)} {r r' : held.Reader} → reader_seen r ≡ opened l → reader_seen r' ≡ opened l' → l ≡ l' → r ≡ r'
open_outcome {l} {l'} {r} {r'} e e' same = reader_same r r' (open_determined e e' same)

pub refused_outcome : {r r' : held.Reader} {c c' : Result (Unit {0}) Fault} → cause_seen c ≡ carried (reader_seen r) → cause_seen c' ≡ carried (reader_seen r') → r ≡ r' → c ≡ c'
refused_outcome {r} {r'} {c} {c'} e e' same = cause_same c c' (refused_determined e e' (ap reader_seen same))

pub skip_outcome : (n : ℕ) {r r' : held.Reader} {q q' : held.Reader} → reader_seen q ≡ skipped (reader_seen r) n → reader_seen q' ≡ skipped (reader_seen r') n → r ≡ r' → q ≡ q'
skip_outcome n {r} {r'} {q} {q'} e e' same = reader_same q q' (skip_determined n e e' (ap reader_seen same))
