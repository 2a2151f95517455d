-- Lists laid into a room, one after another. Assumes nothing.
use Rattle.std.specs.Prelude.{◌≡◌, refl, List, [], ◌∷◌, ◌++◌, ℕ, zero, suc, ◌+◌, ◌≤◌, ◌<◌, length, take, drop, set}
use Rattle.std.proofs.Common.{sym, ap, ◌∙◌, append_assoc, add-zero, add-one, arith, length-append, length-take, length-drop, length-set, take_at, take-suc, drop_at, drop-drop}
use Rattle.std.proofs.lemmas.List.{set_split}
use Rattle.std.proofs.Math.Seq.{take-length}
use Rattle.basics.specs.Lists.{at}
use Rattle.basics.specs.Rooms.{front}

-- the room d' is the room d with the list w from place p on
pub record Inlaid (d : List ℕ) (p : ℕ) (w d' : List ℕ) : Type 0 where
  pub room : p + length w ≤ length d
  pub is : d' ≡ take p d ++ (w ++ drop (p + length w) d)

pub inlaid_length : {d w d' : List ℕ} {p : ℕ} → Inlaid d p w d' → length d' ≡ length d
inlaid_length l = ap length l.is ∙ simp (length-append, length-take, length-drop) (omega (arith, l.room))

-- nothing
pub inlaid_none : (d : List ℕ) (p : ℕ) → p ≤ length d → Inlaid d p [] d
inlaid_none d p h = record { room = omega arith; is = sym (rw add-zero (whole p d)) }
  where
    whole : (n : ℕ) (l : List ℕ) → take n l ++ drop n l ≡ l
    whole zero l = refl
    whole (suc n) [] = refl
    whole (suc n) (x ∷ l) = ap (λ (t : List ℕ). x ∷ t) (whole n l)

-- one number
inlaid_one : (d : List ℕ) (p v : ℕ) → p < length d → Inlaid d p (v ∷ []) (set d p v)
inlaid_one d p v h = record { room = omega arith; is = set_split d p v h ∙ rw add-one }

-- what lies before the end of what was laid, and behind it
module _ (d w d₁ : List ℕ) (p : ℕ) (l : Inlaid d p w d₁) where
  whole : d₁ ≡ (take p d ++ w) ++ drop (p + length w) d
  whole = l.is ∙ sym (append_assoc (take p d) w (drop (p + length w) d))

  sized : length (take p d ++ w) ≡ p + length w
  sized = simp (length-append, length-take) (omega (arith, l.room))

  before_end : take (p + length w) d₁ ≡ take p d ++ w
  before_end = ap (take (p + length w)) whole ∙ take_at (take p d ++ w) (drop (p + length w) d) (p + length w) sized

  behind : (n : ℕ) → drop (p + length w + n) d₁ ≡ drop (p + length w + n) d
  behind n =
      sym (drop-drop n (p + length w) d₁)
      ∙ ap (drop n) (ap (drop (p + length w)) whole ∙ drop_at (take p d ++ w) (drop (p + length w) d) (p + length w) sized)
      ∙ drop-drop n (p + length w) d

-- one list after another
pub inlaid_then : {d w d₁ v d₂ : List ℕ} {p a : ℕ} → Inlaid d p w d₁ → a ≡ p + length w → Inlaid d₁ a v d₂ → Inlaid d p (w ++ v) d₂
inlaid_then {d} {w} {d₁} {v} {d₂} {p} {a} l e m =
    let q : p + length (w ++ v) ≡ p + length w + length v = rw (length-append w v) (omega arith) in
    record {
      room = rw (length-append w v) (omega (arith, l.room, m.room, inlaid_length l));
      is = m.is ∙ rw (e, before_end d w d₁ p l, behind d w d₁ p l (length v), q) (simp append_assoc);
    }

-- a list w, one entry after another: the first i entries lie there, and the next is stored
pub inlaid_next : (w : List ℕ) (i : ℕ) {d d' : List ℕ} {p : ℕ} → Inlaid d p (take i w) d' → i < length w → p + length w ≤ length d
    → Inlaid d p (take (i + 1) w) (set d' (p + i) (at w i))
inlaid_next w i {d} {d'} {p} l h room =
    let e : p + i ≡ p + length (take i w) = rw (length-take i w) (omega arith) in
    rw (add-one, take-suc w i 0 h) (inlaid_then l e (inlaid_one d' (p + i) (at w i) (omega (arith, inlaid_length l))))

pub inlaid_all : (w : List ℕ) (i : ℕ) {d d' : List ℕ} {p : ℕ} → Inlaid d p (take i w) d' → i ≡ length w → Inlaid d p w d'
inlaid_all w i l e = rw (e, take-length) at l

-- four numbers
pub inlaid_four : (d : List ℕ) (p u v w x : ℕ) → p + 4 ≤ length d → Inlaid d p (u ∷ v ∷ w ∷ x ∷ []) (set (set (set (set d p u) (p + 1) v) (p + 2) w) (p + 3) x)
inlaid_four d p u v w x h =
    inlaid_then
    (inlaid_then
    (inlaid_then (inlaid_one d p u (omega arith)) refl (inlaid_one (set d p u) (p + 1) v (simp length-set (omega arith))))
    refl (inlaid_one (set (set d p u) (p + 1) v) (p + 2) w (simp length-set (omega arith))))
    refl (inlaid_one (set (set (set d p u) (p + 1) v) (p + 2) w) (p + 3) x (simp length-set (omega arith)))

-- at the front of a room
pub inlaid_front : {d w d' : List ℕ} → Inlaid d 0 w d' → d' ≡ front w d
inlaid_front {d} {w} {d'} l = let e : 0 + length w ≡ length w = omega arith in l.is ∙ rw e
