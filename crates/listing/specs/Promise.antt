-- What the listing's call promises of its answer and of every byte of the buffer; and that equal inputs give equal outcomes. Assumes nothing.
use Rattle.std.specs.Prelude.{◌≡◌, List, ℕ}
use Rattle.lines.specs.Promise.{Laid, laid_once}
use Rattle.listing.specs.Listing.{listing}

-- no listing has more bytes
abbrev pub longest : ℕ
longest = 200000

-- `put`, of the log s and the buffer d: the listing from the front on, as far as the buffer reaches. The answer is r, and the buffer ends as d'.
abbrev pub Written : List ℕ → List ℕ → ℕ → List ℕ → Type 0
Written s d r d' = Laid d 0 (listing s) r d'

pub written_once : (s : List ℕ) {d : List ℕ} {r r' : ℕ} {d₁ d₂ : List ℕ} → Written s d r d₁ → Written s d r' d₂ → (r ≡ r') × (d₁ ≡ d₂)
written_once s p q = laid_once p q
