-- Laws of a text put into a buffer. Assumes nothing.
use Rattle.std.specs.Prelude.{◌≡◌, refl, List, [], ◌∷◌, ◌++◌, ℕ, zero, suc, ◌+◌, ◌≤◌, ◌<◌, length, take, drop, set}
use Rattle.std.proofs.Common.{sym, ap, ◌∙◌, ⊎_elim, add-suc, suc-add, add-zero, arith, length-append, length-set, take_all, get_or-set_same, get_or-set_other}
use Rattle.std.proofs.Math.Seq.{set_out, drop-nil}
use Rattle.basics.specs.Lists.{at}
use Rattle.basics.specs.Rooms.{front}
use Rattle.basics.specs.laws.Tests.{le_or_lt}
use Rattle.lines.specs.Put.{put, last_place, after}

-- PUT: the buffer keeps its length
pub put-length : (d : List ℕ) (p : ℕ) (w : List ℕ) → length (put d p w) ≡ length d
unfolding put
put-length d p [] = refl
put-length d p (b ∷ w) = put-length (set d p b) (suc p) w ∙ length-set d p b

-- one text after another is the two as one
pub put-append : (d : List ℕ) (p : ℕ) (v w : List ℕ) → put (put d p v) (p + length v) w ≡ put d p (v ++ w)
unfolding put
put-append d p [] w = rw add-zero
put-append d p (b ∷ v) w = rw (add-suc, ← suc-add p (length v)) (put-append (set d p b) (suc p) v w)

-- past the end nothing changes
pub put_past : (d : List ℕ) (p : ℕ) (w : List ℕ) → length d ≤ p → put d p w ≡ d
unfolding put
put_past d p [] h = refl
put_past d p (b ∷ w) h = rw (set_out d p b h) (put_past d (suc p) w (omega arith))

-- what stands where: before the text and behind it what stood there, between them the text
pub put_before : (d : List ℕ) (p : ℕ) (w : List ℕ) (k : ℕ) → k < p → at (put d p w) k ≡ at d k
unfolding put
put_before d p [] k h = refl
put_before d p (b ∷ w) k h = put_before (set d p b) (suc p) w k (omega arith) ∙ get_or-set_other d p k b 0 (λ e. omega arith)

pub put-behind : (d : List ℕ) (p : ℕ) (w : List ℕ) (k : ℕ) → p + length w ≤ k → at (put d p w) k ≡ at d k
unfolding put
put-behind d p [] k h = refl
put-behind d p (b ∷ w) k h = put-behind (set d p b) (suc p) w k (omega arith) ∙ get_or-set_other d p k b 0 (λ e. omega arith)

pub put_inside : (d : List ℕ) (p : ℕ) (w : List ℕ) (k : ℕ) → k < length w → p + k < length d → at (put d p w) (p + k) ≡ at w k
unfolding put
put_inside d p [] k h l = absurd (omega arith)
put_inside d p (b ∷ w) zero h l = rw add-zero (put_before (set d p b) (suc p) w p (omega arith) ∙ get_or-set_same d p b 0 (omega arith))
put_inside d p (b ∷ w) (suc k) h l =
    rw (add-suc, ← suc-add p k) (put_inside (set d p b) (suc p) w k (omega arith) (omega (arith, length-set d p b)))

-- a text from the front on: as much of it as the buffer holds, and then the rest of the buffer
behind_first : (b : ℕ) (d : List ℕ) (p : ℕ) (w : List ℕ) → put (b ∷ d) (suc p) w ≡ b ∷ put d p w
unfolding put
behind_first b d p [] = refl
behind_first b d p (c ∷ w) = behind_first b (set d p c) (suc p) w

pub put_whole : (d w : List ℕ) → put d 0 w ≡ take (length d) w ++ drop (length w) d
unfolding put
put_whole [] w = put_past [] 0 w (omega arith) ∙ sym (drop-nil (length w))
put_whole (a ∷ d) [] = refl
put_whole (a ∷ d) (b ∷ w) = behind_first b d 0 w ∙ ap (λ (l : List ℕ). b ∷ l) (put_whole d w)

-- a text that the buffer holds
pub put_front : (d w : List ℕ) → length w ≤ length d → put d 0 w ≡ front w d
put_front d w h = put_whole d w ∙ ap (λ (l : List ℕ). l ++ drop (length w) d) (take_all (length d) w h)

-- AFTER
pub after_is : (p : ℕ) (w : List ℕ) → p + length w ≤ last_place → after p w ≡ p + length w
unfolding after
after_is p w h = omega arith

pub after_le : (p : ℕ) (w : List ℕ) → after p w ≤ last_place
unfolding after
after_le p w = omega arith

pub after_short : (p : ℕ) (w : List ℕ) → after p w ≤ p + length w
unfolding after
after_short p w = omega arith

-- it stops at the last place
pub after_some : (p : ℕ) (w : List ℕ) → 0 < length w → 0 < after p w
unfolding after
after_some p w h = omega arith

pub after_last : (p : ℕ) (w : List ℕ) → last_place ≤ p + length w → after p w ≡ last_place
unfolding after
after_last p w h = omega arith

pub after-append : (p : ℕ) (v w : List ℕ) → after (after p v) w ≡ after p (v ++ w)
unfolding after
after-append p v w = omega (arith, length-append v w)

-- one text put at the place after another; no buffer is longer than `last_place`
pub put_then : (d : List ℕ) (p : ℕ) (v w : List ℕ) → length d ≤ last_place → put (put d p v) (after p v) w ≡ put d p (v ++ w)
put_then d p v w h =
    ⊎_elim
    (λ (l : p + length v ≤ last_place). rw (after_is p v l) (put-append d p v w))
    (λ (l : last_place < p + length v).
    let n = put-length d p v in
    put_past (put d p v) (after p v) w (omega (arith, after_last p v (omega arith)))
    ∙ sym (put_past (put d p v) (p + length v) w (omega arith))
    ∙ put-append d p v w)
    (le_or_lt (p + length v) last_place)
