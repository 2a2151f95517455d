-- The text, pair after pair and owner after owner. Assumes nothing.
use Rattle.std.specs.Prelude.{◌≡◌, true, Option, Some, None, IsSome, Result, Ok, Err, IsOk, List, [], ◌∷◌, ◌++◌, ℕ, suc, ◌+◌, ◌-◌, ◌*◌, ◌≤◌, ◌<◌, length}
use Rattle.std.proofs.Math.Path.{refl}
use Rattle.std.proofs.Common.{sym, ap, subst, ◌∙◌, true≢false, arith, rules, eq-eqb, ne_eqb, le-leb, length-append}
use Rattle.std.proofs.lemmas.Bool.{lt-leb}
use Rattle.basics.specs.Lists.{at}
use Rattle.lines.specs.Put.{last_place}
use Rattle.lines.specs.Promise.{Laid}
use Rattle.lines.specs.laws.Promise.{laid_none, laid_then, laid_length}
use Rattle.drawlog.specs.Log.{count, id_at, length_at}
use Rattle.drawlog.specs.Refusal.{cause_of}
use Rattle.drawlog.specs.declared.layout.Entry.{Entry}
use Rattle.basics.specs.declared.refusal.Fault.{Fault}
use Rattle.drawlog.specs.Promise.{tested_of, Listed, listed_of, listed_seen}
use Rattle.drawlog.specs.laws.Promise.{listed_at}
use Rattle.pairs.specs.Check.{probe_size, pairs_of, pairs, unprobed}
use Rattle.pairs.specs.Promise.{step}
use Rattle.pairs.specs.laws.Check.{id_is, of_unprobed, pairs_next}
use Rattle.listing.specs.Listing.{draws, head_line, pair_line, pair_lines, unprobed_line, total_line, refused_line, owner_text, owners_text, accepted_text, listing}
use Rattle.listing.specs.Inside.{pair_in, owned_from, Holds}
use Rattle.listing.specs.laws.Room.{owned_more, owned_of}

-- THE LINES OF ONE OWNER'S PAIRS, while a loop puts them: what is still to be put, put at this place, makes all that was asked for
pub record Going (id : ℕ) (d : List ℕ) (t k₀ p₀ : ℕ) (o₀ : List ℕ) (k p : ℕ) (o : List ℕ) : Type 0 where
  pub then : (r : ℕ) (o' : List ℕ) → Laid o p (pair_lines (owned_from id d (t - k) k)) r o' → Laid o₀ p₀ (pair_lines (owned_from id d (t - k₀) k₀)) r o'
  pub number : k₀ + length (owned_from id d (t - k₀) k₀) ≡ k + length (owned_from id d (t - k) k)
  pub size : length o ≡ length o₀

pub going_none : {id : ℕ} {d : List ℕ} {t k p : ℕ} {o : List ℕ} → Going id d t k p o k p o
going_none = record { then = λ r o' l. l; number = refl; size = refl }

next_owned : (id : ℕ) (d : List ℕ) (t k : ℕ) → k < t → at d (4 * k) ≡ id → owned_from id d (t - k) k ≡ pair_in d k ∷ owned_from id d (t - (k + 1)) (k + 1)
next_owned id d t k h e =
    let q : t - k ≡ suc (t - (k + 1)) = omega arith in
    let u : suc k ≡ k + 1 = omega arith in
    rw q (owned_more id d (t - (k + 1)) k e ∙ ap (λ (j : ℕ). pair_in d k ∷ owned_from id d (t - (k + 1)) j) u)

pub going_more : {id : ℕ} {d : List ℕ} {t k₀ p₀ : ℕ} {o₀ : List ℕ} {k p : ℕ} {o : List ℕ} {p' : ℕ} {o' : List ℕ} → Going id d t k₀ p₀ o₀ k p o → k < t → at d (4 * k) ≡ id
    → length o ≤ last_place → Laid o p (pair_line (pair_in d k)) p' o' → Going id d t k₀ p₀ o₀ (k + 1) p' o'
unfolding pair_lines
going_more {id} {d} {t} {k₀} {p₀} {o₀} {k} {p} {o} {p'} {o'} g h e fit line =
    let q : owned_from id d (t - k) k ≡ pair_in d k ∷ owned_from id d (t - (k + 1)) (k + 1) = next_owned id d t k h e in
    record {
      then = λ r o'' rest. g.then r o'' (rw q (laid_then fit line rest));
      number = omega (arith, g.number, ap length q);
      size = laid_length line ∙ g.size;
    }

-- none is left, or the next pair is another owner's
pub going_stop : {id : ℕ} {d : List ℕ} {t k₀ p₀ : ℕ} {o₀ : List ℕ} {k p : ℕ} {o : List ℕ} → Going id d t k₀ p₀ o₀ k p o → owned_from id d (t - k) k ≡ [] → p ≤ last_place
    → Laid o₀ p₀ (pair_lines (owned_from id d (t - k₀) k₀)) p o × (k ≡ k₀ + length (owned_from id d (t - k₀) k₀))
unfolding pair_lines
going_stop {id} {d} {t} {k₀} {p₀} {o₀} {k} {p} {o} g z fit =
    (g.then p o (rw z (laid_none o p fit)), omega (arith, g.number, ap length z))

-- OWNER AFTER OWNER
module _ (s : List ℕ) where
  pub owner_probed : (a : ℕ) → probe_size draws ≤ length_at s a → owner_text s a ≡ pair_lines (pairs_of step draws s a)
  unfolding owner_text
  owner_probed a h = rw (le-leb (probe_size draws) (length_at s a) h)

  pub owner_unprobed : (a : ℕ) → length_at s a < probe_size draws → owner_text s a ≡ unprobed_line (id_at s a)
  unfolding owner_text
  owner_unprobed a h = rw (lt-leb (probe_size draws) (length_at s a) h)

  pub owners_first : owners_text s 0 ≡ []
  unfolding owners_text
  owners_first = refl

-- the same text by another name
pub laid_as : {d : List ℕ} {p : ℕ} {w v : List ℕ} {r : ℕ} {d' : List ℕ} → w ≡ v → Laid d p w r d' → Laid d p v r d'
laid_as {d} {p} {w} {v} {r} {d'} e l = subst (λ (t : List ℕ). Laid d p t r d') e l

-- THE ENTRY OF OWNER a is there
module _ {s : List ℕ} {c n : ℕ} {d : List ℕ} (held : Holds s c d n) {a : ℕ} (h : a < c) where
  there-is : (listed_of s a).there ≡ true
  there-is = ap (λ (l : Listed). l.there) (listed_at s a (omega (arith, h, held.count)))

  pub entry_ok : (r : Result (Option Entry) Fault) → listed_seen r ≡ listed_of s a → IsOk r
  entry_ok (Ok o) e = search rules
  entry_ok (Err f) e = absurd (true≢false (sym there-is ∙ ap (λ (l : Listed). l.there) (sym e)))

  pub entry_some : (o : Option Entry) → listed_seen (Ok o) ≡ listed_of s a → IsSome o
  entry_some (Some v) e = search rules
  entry_some None e = absurd (true≢false (sym there-is ∙ ap (λ (l : Listed). l.there) (sym e)))

-- OWNER a AT ITS TURN, as the code sees it: l is its entry
module _ {s : List ℕ} {c n : ℕ} {d : List ℕ} (held : Holds s c d n) {a k : ℕ} (h : a < c) (e : k ≡ length (pairs step draws s a)) {l : Listed} (is : l ≡ listed_of s a) where
  there : a < (tested_of s).count
  there = omega (arith, h, held.count)

  size_is : l.length ≡ length_at s a
  size_is = ap (λ (l : Listed). l.length) (is ∙ listed_at s a there)

  all_of : length (pairs step draws s (a + 1)) ≡ k + length (pairs_of step draws s a)
  all_of = ap length (sym (pairs_next step draws s a)) ∙ omega (arith, e, length-append (pairs step draws s a) (pairs_of step draws s a))

  pub unprobed_turn : l.length < 256 → unprobed_line l.id ≡ owner_text s a
  unprobed_turn u = ap unprobed_line (id_is s a there is) ∙ sym (owner_unprobed s a (omega (arith, u, size_is)))

  pub unprobed-told : l.length < 256 → k ≡ length (pairs step draws s (a + 1))
  unprobed-told u = omega (arith, all_of, ap length (of_unprobed step draws s a (omega (arith, u, size_is))))

  owned_here : owned_from l.id d (n - k) k ≡ pairs_of step draws s a
  owned_here = rw (id_is s a there is) (owned_of a held h e)

  pub probed_turn : 256 ≤ l.length → pair_lines (owned_from l.id d (n - k) k) ≡ owner_text s a
  probed_turn u = ap pair_lines owned_here ∙ sym (owner_probed s a (omega (arith, u, size_is)))

  pub probed-told : {r : ℕ} → r ≡ k + length (owned_from l.id d (n - k) k) → r ≡ length (pairs step draws s (a + 1))
  probed-told q = omega (arith, q, all_of, ap length owned_here)

-- THE WHOLE
pub accepted_whole : {s : List ℕ} {c n u : ℕ} {d : List ℕ} → Holds s c d n → c ≡ count s → u ≡ unprobed draws s c
    → (head_line c ++ owners_text s c) ++ total_line n u ≡ accepted_text s
unfolding accepted_text
accepted_whole {s} {c} {n} {u} held e q = rw (held.number, q, e)

pub listing-accepted : (s : List ℕ) → (cause_of s).refusal ≡ 0 → accepted_text s ≡ listing s
unfolding listing
listing-accepted s z = rw (eq-eqb (cause_of s).refusal 0 z)

pub listing_refused : (s : List ℕ) → ((cause_of s).refusal ≡ 0 → ⊥) → refused_line (cause_of s).refusal (cause_of s).entry ≡ listing s
unfolding listing
listing_refused s z = rw (ne_eqb (cause_of s).refusal 0 z)
