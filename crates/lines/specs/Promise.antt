-- What each call promises of its answer and of every byte of the buffer; and that equal inputs give equal outcomes. Assumes nothing.
use Rattle.std.specs.Prelude.{◌≡◌, List, ℕ}
use Rattle.lines.specs.declared.Text.{Text}
use Rattle.lines.specs.Put.{put, after}

-- The text w from place p on in the buffer d. The place after it is r, and the buffer ends as d'.
pub record Laid (d : List ℕ) (p : ℕ) (w : List ℕ) (r : ℕ) (d' : List ℕ) : Type 0 where
  pub answer : r ≡ after p w
  pub buffer : d' ≡ put d p w

pub laid_once : {d : List ℕ} {p : ℕ} {w : List ℕ} {r r' : ℕ} {d₁ d₂ : List ℕ} → Laid d p w r d₁ → Laid d p w r' d₂ → (r ≡ r') × (d₁ ≡ d₂)
laid_once p q = (cc, cc)

-- `byte`, `word`, `number`, `figure` and `numbers_line`: the call puts w. The text t ends as t', which holds the same buffer.
pub record Puts (t : Text) (w : List ℕ) (t' : Text) : Type 0 where
  pub same : t'.room.ghost_name ≡ t.room.ghost_name
  pub laid : Laid t.room.now t.place w t'.place t'.room.now

pub puts_once : {t : Text} {w : List ℕ} {t₁ t₂ : Text} → Puts t w t₁ → Puts t w t₂ → (t₁.room.ghost_name ≡ t₂.room.ghost_name) × (t₁.place ≡ t₂.place) × (t₁.room.now ≡ t₂.room.now)
puts_once p q = let o = laid_once p.laid q.laid in (cc, o.0, o.1)
