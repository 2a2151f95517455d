-- Laws of calls one after another, and of what the last of them leaves. Assumes nothing.
use Rattle.std.specs.Prelude.{◌≡◌, refl, List, [], ◌++◌, ℕ, ◌≤◌, length, take, drop}
use Rattle.std.proofs.Common.{ap, subst, ◌∙◌, zero-add, arith}
use Rattle.lines.specs.declared.Text.{Text}
use Rattle.lines.specs.Put.{put, last_place, after}
use Rattle.lines.specs.Promise.{Laid, Puts}
use Rattle.lines.specs.laws.Put.{put-length, put_then, put_whole, after_is, after-append}

-- no text
pub laid_none : (d : List ℕ) (p : ℕ) → p ≤ last_place → Laid d p [] p d
unfolding put after
laid_none d p h = record { answer = omega arith; buffer = refl }

-- a call at the place that the last one answered: one text after another
pub laid_then : {d : List ℕ} {p : ℕ} {v w : List ℕ} {r r' : ℕ} {d₁ d₂ : List ℕ} → length d ≤ last_place → Laid d p v r d₁ → Laid d₁ r w r' d₂ → Laid d p (v ++ w) r' d₂
laid_then {d} {p} {v} {w} h a b =
    record {
      answer = b.answer ∙ ap (λ (r : ℕ). after r w) a.answer ∙ after-append p v w;
      buffer = b.buffer ∙ rw (a.buffer, a.answer) (put_then d p v w h);
    }

pub laid_length : {d : List ℕ} {p : ℕ} {w : List ℕ} {r : ℕ} {d' : List ℕ} → Laid d p w r d' → length d' ≡ length d
laid_length {d} {p} {w} a = ap length a.buffer ∙ put-length d p w

-- a whole text, from the front on: the answer is its length, and the buffer has as much of it as it holds
pub laid_whole : {d w : List ℕ} {r : ℕ} {d' : List ℕ} → Laid d 0 w r d' → length w ≤ last_place → (r ≡ length w) × (d' ≡ take (length d) w ++ drop (length w) d)
laid_whole {d} {w} a h = (a.answer ∙ after_is 0 w (omega arith) ∙ zero-add (length w), a.buffer ∙ put_whole d w)

-- THE SAME OF TEXTS, whose buffer and place a usize can name
pub puts_none : (t : Text) → Puts t [] t
puts_none t = record { same = refl; laid = laid_none t.room.now t.place t.within }

pub puts_then : {t t₁ t₂ : Text} {v w : List ℕ} → Puts t v t₁ → Puts t₁ w t₂ → Puts t (v ++ w) t₂
puts_then {t} a b = record { same = b.same ∙ a.same; laid = laid_then t.reach a.laid b.laid }

-- the same text by another name
pub puts_as : {t t' : Text} {v w : List ℕ} → v ≡ w → Puts t v t' → Puts t w t'
puts_as {t} {t'} e a = subst (λ (u : List ℕ). Puts t u t') e a

-- a text from place p on, as `at` and for 0 `new` begin it: the answer is the place, and the buffer is as the text left it
pub puts_said : {d : List ℕ} {p : ℕ} {w : List ℕ} {t t' : Text} {r : ℕ} {d' : List ℕ} → t.room.now ≡ d → t.place ≡ p → Puts t w t' → r ≡ t'.place → d' ≡ t'.room.now
    → Laid d p w r d'
puts_said {w = w} b z a e f = record { answer = e ∙ a.laid.answer ∙ ap (λ (q : ℕ). after q w) z; buffer = f ∙ a.laid.buffer ∙ rw (b, z) }
