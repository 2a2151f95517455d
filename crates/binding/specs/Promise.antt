-- What each call promises; and that equal inputs give equal outcomes. Assumes nothing.
use Rattle.std.specs.Prelude.{◌≡◌, Option, Some, None, List, ℕ}
use Rattle.std.proofs.Common.{refl, sym, ap, true≢false}
use Rattle.lines.specs.Promise.{Laid, laid_once}
use Rattle.binding.specs.Ids.{Id, id_seen, id_of}

-- no text has more bytes beside the name in it
abbrev pub longest : ℕ
longest = 64

-- the calls that put a text w, of the buffer d: w from the front on, as far as the buffer reaches. The answer is r, and the buffer ends as d'.
abbrev pub Said : List ℕ → List ℕ → ℕ → List ℕ → Type 0
Said w d r d' = Laid d 0 w r d'

pub said_once : (w : List ℕ) {d : List ℕ} {r r' : ℕ} {d₁ d₂ : List ℕ} → Said w d r d₁ → Said w d r' d₂ → (r ≡ r') × (d₁ ≡ d₂)
said_once w p q = laid_once p q

pub id_once : (w : List ℕ) {r r' : Id} → r ≡ id_of w → r' ≡ id_of w → r ≡ r'
id_once w p q = cc

-- the reading tells the outcome of the code whole, so equal texts have equal outcomes
id_same : (r r' : Option ℕ) → id_seen r ≡ id_seen r' → r ≡ r'
id_same (Some v) (Some v') e = ap (λ (i : Id). Some i.value) e
id_same (Some v) None e = absurd (true≢false (ap (λ (i : Id). i.good) e))
id_same None (Some v') e = absurd (true≢false (sym (ap (λ (i : Id). i.good) e)))
id_same None None e = refl

pub id_outcome : (w : List ℕ) {r r' : Option ℕ} → id_seen r ≡ id_of w → id_seen r' ≡ id_of w → r ≡ r'
id_outcome w {r} {r'} p q = id_same r r' (id_once w p q)
