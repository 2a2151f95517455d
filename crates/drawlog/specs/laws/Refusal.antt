-- Laws of the causes: how each is tested, and what a log without any of them is. Assumes nothing.
use Rattle.std.specs.Prelude.{◌≡◌, refl, ◌⊎◌, Bool, true, false, cond, not, ◌&&◌, List, ℕ, ◌+◌, ◌*◌, ◌%◌, ◌≤◌, ◌<◌, leb, ltb, eqb, length}
use Rattle.std.proofs.Common.{sym, ap, ◌∙◌, inl, inr, ⊎_elim, zero-le, arith, lit<}
use borrow.Author.Tests.{eq-eqb, ne_eqb, lt-ltb, le-ltb, eqb-true, ltb-false, leb-true, le-leb, not-false}
use Rattle.basics.specs.laws.Tests.{and_true_both, equal_or_not, le_or_lt}
use Rattle.basics.specs.laws.Causes.{passed, first_caused_is, first_caused_has, none_caused}
use Rattle.drawlog.specs.declared.layout.Log.{Log}
use Rattle.basics.specs.Refusal.{Cause}
use Rattle.drawlog.specs.Log.{entry_size, trailer_size, longest, most, draw_size, directory, count, marked, log_of, start_at, length_at}
use Rattle.drawlog.specs.Refusal.{log_cause, rises, due, entry_cause, first_bad, cause_of}
use Rattle.drawlog.specs.laws.Log.{Reaches}

-- ENTRY 0
pub due_first : (s : List ℕ) → due s 0 ≡ 0
unfolding due
due_first s = refl

-- THE FIRST ENTRY that has a cause is what a search upward from entry 0 finds
pub first_bad_is : {s : List ℕ} {t : Log} {n : ℕ} → Reaches s t n → (k : ℕ) → k ≤ t.count → ((j : ℕ) → j < k → entry_cause s j ≡ 0)
    → (k ≡ t.count) ⊎ (entry_cause s k ≡ 0 → ⊥) → first_bad s ≡ k
unfolding first_bad
first_bad_is {s} {t} r k h none stop =
    let e : t.count ≡ count s = ap (λ (u : Log). u.count) r.says in
    first_caused_is (entry_cause s) (count s) k (omega arith) none
    (⊎_elim (λ (q : k ≡ t.count). inl (omega arith)) (λ (q : entry_cause s k ≡ 0 → ⊥). inr q) stop)

-- NO CAUSE: a log with none of the causes 10 to 14
pub record Framed (s : List ℕ) : Type 0 where
  pub long : trailer_size ≤ length s
  pub short : length s ≤ longest
  pub signed : marked s ≡ true
  pub some : 1 ≤ count s
  pub few : count s ≤ most
  pub size : directory s + entry_size * count s + trailer_size ≡ length s

pub framed : (s : List ℕ) → log_cause s ≡ 0 → Framed s
unfolding log_cause
framed s h =
    let no10 = passed _ 10 _ (lit< tt) h in
    let no11 = passed _ 11 _ (lit< tt) no10.1 in
    let no12 = passed _ 12 _ (lit< tt) no11.1 in
    let no13 = passed _ 13 _ (lit< tt) no12.1 in
    let no14 = passed _ 14 _ (lit< tt) no13.1 in
    let counted = and_true_both _ _ (not-false _ no13.0) in
    record {
      long = ltb-false _ _ no10.0;
      short = ltb-false _ _ no11.0;
      signed = not-false _ no12.0;
      some = leb-true _ _ counted.0;
      few = leb-true _ _ counted.1;
      size = eqb-true _ _ (not-false _ no14.0);
    }

-- then its directory lies within it
pub framed_reaches : {s : List ℕ} → Framed s → {t : Log} → t ≡ log_of s → (n : ℕ) → n ≤ t.count → Reaches s t n
framed_reaches {s} f {t} e n h =
    let counted : t.count ≡ count s = ap (λ (u : Log). u.count) e in
    let directed : t.directory ≡ directory s = ap (λ (u : Log). u.directory) e in
    record { says = e; within = omega (arith, f.size) }

-- an entry with none of the causes 15 to 17
pub record Entered (s : List ℕ) (k : ℕ) : Type 0 where
  pub up : rises s k ≡ true
  pub joined : start_at s k ≡ due s k
  pub whole : length_at s k % draw_size ≡ 0

pub entered : (s : List ℕ) (k : ℕ) → entry_cause s k ≡ 0 → Entered s k
unfolding entry_cause
entered s k h =
    let no15 = passed _ 15 _ (lit< tt) h in
    let no16 = passed _ 16 _ (lit< tt) no15.1 in
    let no17 = passed _ 17 _ (lit< tt) no16.1 in
    record {
      up = not-false _ no15.0;
      joined = eqb-true _ _ (not-false _ no16.0);
      whole = eqb-true _ _ (not-false _ no17.0);
    }

-- THE FIRST CAUSE, by its four cases
module _ (s : List ℕ) where
  pub cause_log : (log_cause s ≡ 0 → ⊥) → cause_of s ≡ record { refusal = log_cause s; entry = 0 }
  unfolding cause_of
  cause_log a = rw (ne_eqb (log_cause s) 0 a)

  module _ (a : log_cause s ≡ 0) where
    pub cause_entry : first_bad s < count s → cause_of s ≡ record { refusal = entry_cause s (first_bad s); entry = first_bad s }
    unfolding cause_of
    cause_entry b = rw (eq-eqb (log_cause s) 0 a, lt-ltb _ _ b)

    pub cause_end : count s ≤ first_bad s → (due s (count s) ≡ directory s → ⊥) → cause_of s ≡ record { refusal = 16; entry = count s }
    unfolding cause_of
    cause_end b c = rw (eq-eqb (log_cause s) 0 a, le-ltb _ _ b, ne_eqb _ _ c)

    pub cause-none : count s ≤ first_bad s → due s (count s) ≡ directory s → cause_of s ≡ record { refusal = 0; entry = 0 }
    unfolding cause_of
    cause-none b c = rw (eq-eqb (log_cause s) 0 a, le-ltb _ _ b, eq-eqb _ _ c)

-- an accepted log: its frame, each of its entries and its last end are good, and its refusal and entry number are 0
pub record Accepted (s : List ℕ) : Type 0 where
  pub frame : Framed s
  pub each : (k : ℕ) → k < count s → Entered s k
  pub ends : due s (count s) ≡ directory s
  pub cause : cause_of s ≡ record { refusal = 0; entry = 0 }

bad_one : (s : List ℕ) → first_bad s < count s → entry_cause s (first_bad s) ≡ 0 → ⊥
unfolding first_bad
bad_one s = first_caused_has (entry_cause s) (count s)

good_ones : (s : List ℕ) → count s ≤ first_bad s → (k : ℕ) → k < count s → entry_cause s k ≡ 0
unfolding first_bad
good_ones s = none_caused (entry_cause s) (count s)

pub accepted_is : (s : List ℕ) → (cause_of s).refusal ≡ 0 → Accepted s
accepted_is s h = ⊎_elim (λ (a : log_cause s ≡ 0). framed_log a) (λ (a : log_cause s ≡ 0 → ⊥). absurd (a (sym (name (cause_log s a)) ∙ h))) (equal_or_not (log_cause s) 0)
  where
    name : {x : Cause} → cause_of s ≡ x → (cause_of s).refusal ≡ x.refusal
    name e = ap (λ (c : Cause). c.refusal) e

    framed_log : log_cause s ≡ 0 → Accepted s
    framed_log a =
        ⊎_elim
        (λ (b : count s ≤ first_bad s). ⊎_elim
        (λ (c : due s (count s) ≡ directory s).
        record { frame = framed s a; each = λ k u. entered s k (good_ones s b k u); ends = c; cause = cause-none s a b c })
        (λ (c : due s (count s) ≡ directory s → ⊥). absurd (omega (arith, name (cause_end s a b c))))
        (equal_or_not (due s (count s)) (directory s)))
        (λ (b : first_bad s < count s). absurd (bad_one s b (sym (name (cause_entry s a b)) ∙ h)))
        (le_or_lt (count s) (first_bad s))

-- AND CONVERSELY: a log with such a frame, such entries and such an end is accepted
pub framed_none : (s : List ℕ) → Framed s → log_cause s ≡ 0
unfolding log_cause
framed_none s f =
    rw (le-ltb _ _ f.long, le-ltb _ _ f.short, f.signed, le-leb _ _ f.some, le-leb _ _ f.few, eq-eqb _ _ f.size)

entered_none : (s : List ℕ) (k : ℕ) → Entered s k → entry_cause s k ≡ 0
unfolding entry_cause
entered_none s k e = rw (e.up, eq-eqb _ _ e.joined, eq-eqb _ _ e.whole)

pub is_accepted : (s : List ℕ) → Framed s → ((k : ℕ) → k < count s → Entered s k) → due s (count s) ≡ directory s → Accepted s
unfolding first_bad
is_accepted s f each ends =
    let none : first_bad s ≡ count s =
    first_caused_is (entry_cause s) (count s) (count s) (omega arith) (λ k u. entered_none s k (each k u)) (inl refl) in
    record { frame = f; each = each; ends = ends; cause = cause-none s (framed_none s f) (omega arith) ends }

-- HOW LARGE a cause's number and its entry can be
named : (test : Bool) (n rest : ℕ) → n ≤ 17 → rest ≤ 17 → cond test n rest ≤ 17
named true n rest u v = u
named false n rest u v = v

log_named : (s : List ℕ) → log_cause s ≤ 17
unfolding log_cause
log_named s =
    named (ltb (length s) trailer_size) 10 _ (omega arith)
    (named (ltb longest (length s)) 11 _ (omega arith)
    (named (not (marked s)) 12 _ (omega arith)
    (named (not (leb 1 (count s) && leb (count s) most)) 13 _ (omega arith)
    (named (not (eqb (directory s + entry_size * count s + trailer_size) (length s))) 14 0 (omega arith) zero-le))))

entry_named : (s : List ℕ) (k : ℕ) → entry_cause s k ≤ 17
unfolding entry_cause
entry_named s k =
    named (not (rises s k)) 15 _ (omega arith)
    (named (not (eqb (start_at s k) (due s k))) 16 _ (omega arith)
    (named (not (eqb (length_at s k % draw_size) 0)) 17 0 (omega arith) zero-le))

pub cause_small : (s : List ℕ) → ((cause_of s).refusal ≤ 17) × ((cause_of s).entry ≤ most)
cause_small s =
    ⊎_elim (λ (a : log_cause s ≡ 0). framed_log a) (λ (a : log_cause s ≡ 0 → ⊥). told (cause_log s a) (log_named s) zero-le) (equal_or_not (log_cause s) 0)
  where
    told : {x : Cause} → cause_of s ≡ x → x.refusal ≤ 17 → x.entry ≤ most → ((cause_of s).refusal ≤ 17) × ((cause_of s).entry ≤ most)
    told e u v = rw e (u, v)

    framed_log : log_cause s ≡ 0 → ((cause_of s).refusal ≤ 17) × ((cause_of s).entry ≤ most)
    framed_log a =
        let few : count s ≤ most = (framed s a).few in
        ⊎_elim
        (λ (b : count s ≤ first_bad s). ⊎_elim
        (λ (c : due s (count s) ≡ directory s). told (cause-none s a b c) zero-le zero-le)
        (λ (c : due s (count s) ≡ directory s → ⊥). told (cause_end s a b c) (omega arith) few)
        (equal_or_not (due s (count s)) (directory s)))
        (λ (b : first_bad s < count s). told (cause_entry s a b) (entry_named s (first_bad s)) (omega arith))
        (le_or_lt (count s) (first_bad s))
