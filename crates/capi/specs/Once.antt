-- Equal inputs give equal outcomes: a struct that C sees is determined by the answer that it shows, and the answers and rooms are determined by the
-- libraries' own theorems (`occurrence_once`, `plain_once`, `remember_once`, `test_determined`, `find_determined`, `write_once`, `check_once`). Assumes nothing.
use Rattle.std.specs.Prelude.{◌≡◌}
use Rattle.std.proofs.Common.{sym, ◌∙◌}
use Rattle.capi.specs.declared.checks.Checked.{Checked}
use Rattle.capi.specs.declared.logs.Tested.{Tested}
use Rattle.capi.specs.declared.logs.Found.{Found}
use Rattle.capi.specs.declared.logs.Written.{Written}
use Rattle.capi.specs.declared.probes.Occurrences.{Occurrences}
use Rattle.capi.specs.declared.searches.Searched.{Searched}
use Rattle.capi.specs.Seen.{occurrences_seen, answer_seen, tested_seen, found_seen, written_seen, checked_seen}

pub occurrences-told : {r r' : Occurrences} → occurrences_seen r ≡ occurrences_seen r' → r ≡ r'
occurrences-told e = λ k. record { refusal = (e k).refusal; table = (e k).table }

-- the entry number of a search is promised to be 0
pub answer_told : {r r' : Searched} → answer_seen r ≡ answer_seen r' → r.entry ≡ 0 → r'.entry ≡ 0 → r ≡ r'
answer_told {r} {r'} e z z' =
    let q : r.entry ≡ r'.entry = z ∙ sym z' in
    λ k. record {
      refusal = (e k).refusal;
      entry = q k;
      occurrences = (e k).occurrences;
      written = (e k).written;
      windows = (e k).windows;
      comparisons = (e k).comparisons;
      closest = (e k).closest;
      closest_at = (e k).closest_at;
    }

pub tested_told : {r r' : Tested} → tested_seen r ≡ tested_seen r' → r ≡ r'
tested_told e = λ k. record { refusal = (e k).refusal; entry = (e k).entry; count = (e k).count }

pub found-told : {r r' : Found} → found_seen r ≡ found_seen r' → r ≡ r'
found-told e = λ k. record { refusal = (e k).refusal; entry = (e k).entry; start = (e k).start; length = (e k).length }

pub written_told : {r r' : Written} → written_seen r ≡ written_seen r' → r ≡ r'
written_told e = λ k. record { refusal = (e k).refusal; entry = (e k).entry; length = (e k).length }

pub checked_told : {r r' : Checked} → checked_seen r ≡ checked_seen r' → r ≡ r'
checked_told e = λ k. record { refusal = (e k).refusal; entry = (e k).entry; pairs = (e k).pairs; unprobed = (e k).unprobed }
