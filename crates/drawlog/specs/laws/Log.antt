-- Laws of the log's bytes, as the code reads them. Assumes nothing.
use Rattle.std.specs.Prelude.{◌≡◌, true, false, List, ℕ, ◌+◌, ◌*◌, ◌≤◌, ◌<◌, length, drop}
use Rattle.std.proofs.Math.Path.{refl}
use Rattle.std.proofs.Common.{sym, ap, ◌∙◌, arith, length-drop, ext_get_or, get_or-drop}
use Rattle.basics.specs.Lists.{at}
use Rattle.basics.specs.laws.Tests.{is_false}
use Rattle.basics.specs.laws.Lists.{Bytes, same_refl, same_true}
use Rattle.drawlog.specs.declared.layout.Log.{Log}
use Rattle.drawlog.specs.Number.{number}
use Rattle.drawlog.specs.Log.{entry_size, trailer_size, mark, trailer, directory, count, marked, log_of, place, id_at, start_at, length_at}
use Rattle.drawlog.specs.laws.Number.{number_below}

-- t is what the trailer of s says, and the first n entries of the directory lie within s
pub record Reaches (s : List ℕ) (t : Log) (n : ℕ) : Type 0 where
  pub says : t ≡ log_of s
  pub within : t.directory + entry_size * n ≤ length s

-- fewer entries are reached too
pub reaches_less : {s : List ℕ} {t : Log} {n : ℕ} → Reaches s t n → (k : ℕ) → k ≤ n → Reaches s t k
reaches_less r k h = record { says = r.says; within = omega (arith, r.within) }

-- THE MARK, as a list
pub is_marked : (s : List ℕ) → drop (trailer s + 8) s ≡ mark → marked s ≡ true
unfolding marked
is_marked s e = rw e (same_refl mark)

pub marked_is : (s : List ℕ) → marked s ≡ true → drop (trailer s + 8) s ≡ mark
unfolding marked
marked_is s = same_true (drop (trailer s + 8) s) mark

-- and byte by byte
module _ (s : List ℕ) (h : trailer_size ≤ length s) where
  pub marked_yes : ((j : ℕ) → j < 4 → at s (trailer s + 8 + j) ≡ at mark j) → marked s ≡ true
  marked_yes each =
      let size : length (drop (trailer s + 8) s) ≡ 4 = simp length-drop (omega arith) in
      is_marked s (ext_get_or 0 _ _ size (λ t u. get_or-drop (trailer s + 8) s t 0 ∙ each t (omega arith)))

  pub marked_no : (j : ℕ) → (at s (trailer s + 8 + j) ≡ at mark j → ⊥) → marked s ≡ false
  marked_no j differ = is_false _ (λ q. differ (sym (get_or-drop (trailer s + 8) s j 0) ∙ ap (λ (l : List ℕ). at l j) (marked_is s q)))

-- THE FIELDS, where they stand
module _ (s : List ℕ) where
  pub directory-at : directory s ≡ number s (trailer s)
  unfolding directory
  directory-at = refl

  pub count_at : count s ≡ number s (trailer s + 4)
  unfolding count
  count_at = refl

  pub id_at_lem : (k : ℕ) → id_at s k ≡ number s (place s k)
  unfolding id_at
  id_at_lem k = refl

  pub start_at_lem : (k : ℕ) → start_at s k ≡ number s (place s k + 4)
  unfolding start_at
  start_at_lem k = refl

  pub length-at : (k : ℕ) → length_at s k ≡ number s (place s k + 8)
  unfolding length_at
  length-at k = refl

-- entry k as the code reads it, at the place p that it computes
module _ {s : List ℕ} {t : Log} {n : ℕ} (r : Reaches s t n) (k p : ℕ) (e : p ≡ t.directory + entry_size * k) where
  stands : p ≡ place s k
  stands = e ∙ ap (λ (u : Log). u.directory + entry_size * k) r.says

  pub id_read : number s p ≡ id_at s k
  id_read = ap (number s) stands ∙ sym (id_at_lem s k)

  pub start_read : number s (p + 4) ≡ start_at s k
  start_read = rw stands (sym (start_at_lem s k))

  pub length_read : number s (p + 8) ≡ length_at s k
  length_read = rw stands (sym (length-at s k))

-- an id has 32 bits
pub id_below : (s : List ℕ) → Bytes s → (k : ℕ) → id_at s k < 4294967296
id_below s b k = rw (id_at_lem s k) (number_below s b (place s k))
