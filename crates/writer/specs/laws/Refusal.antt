-- Laws of the writer's causes: how each is tested, and that there is none exactly where the inputs fit. Assumes nothing.
use Rattle.std.specs.Prelude.{◌≡◌, refl, ◌⊎◌, true, Result, Ok, Err, List, ℕ, ◌%◌, ◌≤◌, ◌<◌, length}
use Rattle.std.specs.Result.{MatchResult, IfOk, IsErrAnd, is_ok}
use Rattle.std.proofs.Common.{sym, ap, ◌∙◌, inl, inr, ⊎_elim, arith, lit<}
use borrow.Author.Tests.{eq-eqb, ne_eqb, lt-ltb, le-ltb, eqb-true, ltb-false, leb-true, le-leb, not-false}
use Rattle.basics.specs.Lists.{at}
use Rattle.basics.specs.laws.Tests.{and_true_both, equal_or_not, le_or_lt}
use Rattle.basics.specs.laws.Causes.{passed, first_caused_is, first_caused_has, none_caused}
use Rattle.basics.specs.declared.refusal.Refusal.{Refusal}
use Rattle.basics.specs.declared.refusal.Fault.{Fault}
use Rattle.basics.specs.Refusal.{Cause, no_cause, number_of, refusal_seen, fault_seen, cause_seen}
use Rattle.basics.specs.laws.Refusal.{number_above}
use Rattle.drawlog.specs.Log.{longest, most, draw_size}
use Rattle.writer.specs.Made.{sum_to, size_of}
use Rattle.writer.specs.Refusal.{count_cause, rises, entry_cause, first_bad, size_cause, cause_of}
use Rattle.writer.specs.Inside.{entries_cause, Fit}

-- THE FIRST ENTRY that has a cause is what a search upward from entry 0 finds
pub first_bad_is : (is ns : List ℕ) (k : ℕ) → k ≤ length is → ((j : ℕ) → j < k → entry_cause is ns j ≡ 0)
    → (k ≡ length is) ⊎ (entry_cause is ns k ≡ 0 → ⊥) → first_bad is ns ≡ k
unfolding first_bad
first_bad_is is ns = first_caused_is (entry_cause is ns) (length is)

-- THE FIRST CAUSE, by its three cases
module _ (b is ns : List ℕ) (n : ℕ) where
  pub cause-count : (count_cause is ns ≡ 0 → ⊥) → cause_of b is ns n ≡ record { refusal = count_cause is ns; entry = 0 }
  unfolding cause_of
  cause-count a = rw (ne_eqb (count_cause is ns) 0 a)

  module _ (a : count_cause is ns ≡ 0) where
    pub cause_entry : first_bad is ns < length is → cause_of b is ns n ≡ record { refusal = entry_cause is ns (first_bad is ns); entry = first_bad is ns }
    unfolding cause_of
    cause_entry l = rw (eq-eqb (count_cause is ns) 0 a, lt-ltb _ _ l)

    pub cause_size : length is ≤ first_bad is ns → cause_of b is ns n ≡ record { refusal = size_cause b is ns n; entry = 0 }
    unfolding cause_of
    cause_size l = rw (eq-eqb (count_cause is ns) 0 a, le-ltb _ _ l)

-- such an entry has one
bad_entry : (is ns : List ℕ) → first_bad is ns < length is → entry_cause is ns (first_bad is ns) ≡ 0 → ⊥
unfolding first_bad
bad_entry is ns = first_caused_has (entry_cause is ns) (length is)

-- A REFUSAL'S NUMBER is never 0
pub named : (r : Refusal) {n : ℕ} → number_of r ≡ n → n ≡ 0 → ⊥
named r e z = let above = number_above r in omega arith

-- the outcome r is the outcome o, a refusal being that of the whole
abbrev pub Whole : {A : Type 0} → Result A Refusal → Result A Fault → Type 0
Whole o r = MatchResult o (λ x. r ≡ Ok x) (λ e. IsErrAnd r (λ f. f ≡ record { refusal = e; entry = 0 }))

whole_seen : {A : Type 0} (o : Result A Refusal) (r : Result A Fault) {n : ℕ} → Whole o r → refusal_seen o ≡ n → cause_seen r ≡ record { refusal = n; entry = 0 }
whole_seen (Ok x) r t e = rw (t, e)
whole_seen (Err z) (Ok x) t e = absurd t
whole_seen (Err z) (Err f) t e = rw (t, e)

pub whole_given : {A : Type 0} (o : Result A Refusal) (x : A) (P : A → Type 0) → Whole o (Ok x) → IfOk o P → P x
whole_given (Ok y) x P t h = let e : x ≡ y = cc in rw e h
whole_given (Err z) x P t h = absurd t

-- an outcome without a refusal
pub none_seen : {A : Type 0} (o : Result A Refusal) {n : ℕ} → true ≡ is_ok o → refusal_seen o ≡ n → n ≡ 0
none_seen (Ok x) t e = sym e
none_seen (Err r) t e = absurd cc

-- THE CAUSE OF THE FIRST ENTRY that has one, as a search upward from entry 0 meets it
module _ (is ns : List ℕ) where
  pub entries_refuse : (k : ℕ) → k < length is → ((j : ℕ) → j < k → entry_cause is ns j ≡ 0) → (r : Refusal) → number_of r ≡ entry_cause is ns k
      → record { refusal = number_of r; entry = k } ≡ entries_cause is ns
  unfolding entries_cause
  entries_refuse k l none r e =
      let first : first_bad is ns ≡ k = first_bad_is is ns k (omega arith) none (inr (named r e)) in
      rw (first, lt-ltb k (length is) l, e)

  pub entries_pass : (k : ℕ) → k ≡ length is → ((j : ℕ) → j < k → entry_cause is ns j ≡ 0) → no_cause ≡ entries_cause is ns
  unfolding entries_cause
  entries_pass k l none =
      let first : first_bad is ns ≡ k = first_bad_is is ns k (omega arith) none (inl l) in
      rw (first, le-ltb k (length is) (omega arith))

-- THE FIRST CAUSE of all, as the three tests of it answer one after another
module _ (b is ns : List ℕ) (n : ℕ) where
  pub counts_refuse : {A : Type 0} (o : Result A Refusal) (f : Fault) → Whole o (Err f) → refusal_seen o ≡ count_cause is ns → fault_seen f ≡ cause_of b is ns n
  counts_refuse o f t e =
      let seen = whole_seen o (Err f) t e in
      seen ∙ sym (cause-count b is ns n (named f.refusal (ap (λ (c : Cause). c.refusal) seen)))

  module _ (a : count_cause is ns ≡ 0) where
    pub entries_answer : (f : Fault) → fault_seen f ≡ entries_cause is ns → fault_seen f ≡ cause_of b is ns n
    unfolding entries_cause
    entries_answer f e =
        ⊎_elim
        (λ (l : length is ≤ first_bad is ns). absurd (named f.refusal (ap (λ (c : Cause). c.refusal) (rw (le-ltb (first_bad is ns) (length is) l) at e)) refl))
        (λ (l : first_bad is ns < length is). e ∙ rw (lt-ltb (first_bad is ns) (length is) l) (sym (cause_entry b is ns n a l)))
        (le_or_lt (length is) (first_bad is ns))

    pub sizes_answer : {A : Type 0} (o : Result A Refusal) (r : Result A Fault) → Whole o r → no_cause ≡ entries_cause is ns → refusal_seen o ≡ size_cause b is ns n
        → cause_seen r ≡ cause_of b is ns n
    unfolding entries_cause
    sizes_answer o r t e s =
        ⊎_elim
        (λ (l : length is ≤ first_bad is ns). whole_seen o r t s ∙ sym (cause_size b is ns n a l))
        (λ (l : first_bad is ns < length is). absurd (bad_entry is ns l (sym (ap (λ (c : Cause). c.refusal) (rw (lt-ltb (first_bad is ns) (length is) l) at e)))))
        (le_or_lt (length is) (first_bad is ns))

-- NO CAUSE of 31 and 13
pub record Counted (is ns : List ℕ) : Type 0 where
  pub paired : length is ≡ length ns
  pub some : 1 ≤ length is
  pub few : length is ≤ most

pub counted : (is ns : List ℕ) → count_cause is ns ≡ 0 → Counted is ns
unfolding count_cause
counted is ns h =
    let no31 = passed _ 31 _ (lit< tt) h in
    let no13 = passed _ 13 _ (lit< tt) no31.1 in
    let within = and_true_both _ _ (not-false _ no13.0) in
    record { paired = eqb-true _ _ (not-false _ no31.0); some = leb-true _ _ within.0; few = leb-true _ _ within.1 }

-- of 15 and 17
good_entry : (is ns : List ℕ) (k : ℕ) → entry_cause is ns k ≡ 0 → (rises is k ≡ true) × (at ns k % draw_size ≡ 0)
unfolding entry_cause
good_entry is ns k h =
    let no15 = passed _ 15 _ (lit< tt) h in
    let no17 = passed _ 17 _ (lit< tt) no15.1 in
    (not-false _ no15.0, eqb-true _ _ (not-false _ no17.0))

-- of 22, 11 and 23
good_size : (b is ns : List ℕ) (n : ℕ) → size_cause b is ns n ≡ 0 → (length b ≡ sum_to ns (length is)) × (size_of b is ≤ longest) × (size_of b is ≤ n)
unfolding size_cause
good_size b is ns n h =
    let no22 = passed _ 22 _ (lit< tt) h in
    let no11 = passed _ 11 _ (lit< tt) no22.1 in
    let no23 = passed _ 23 _ (lit< tt) no11.1 in
    (eqb-true _ _ (not-false _ no22.0), ltb-false _ _ no11.0, ltb-false _ _ no23.0)

good_entries : (is ns : List ℕ) → length is ≤ first_bad is ns → (k : ℕ) → k < length is → (rises is k ≡ true) × (at ns k % draw_size ≡ 0)
unfolding first_bad
good_entries is ns l k u = good_entry is ns k (none_caused (entry_cause is ns) (length is) l k u)

-- of any
pub fit_is : (b is ns : List ℕ) (n : ℕ) → (cause_of b is ns n).refusal ≡ 0 → Fit b is ns n
fit_is b is ns n h =
    ⊎_elim (λ (a : count_cause is ns ≡ 0). entries a) (λ (a : count_cause is ns ≡ 0 → ⊥). absurd (a (sym (name (cause-count b is ns n a)) ∙ h))) (equal_or_not (count_cause is ns) 0)
  where
    name : {x : Cause} → cause_of b is ns n ≡ x → (cause_of b is ns n).refusal ≡ x.refusal
    name e = ap (λ (c : Cause). c.refusal) e

    entries : count_cause is ns ≡ 0 → Fit b is ns n
    entries a =
        ⊎_elim
        (λ (l : length is ≤ first_bad is ns).
        let sized = good_size b is ns n (sym (name (cause_size b is ns n a l)) ∙ h) in
        let c = counted is ns a in
        record {
          paired = c.paired;
          some = c.some;
          few = c.few;
          up = λ k u. (good_entries is ns l k u).0;
          whole = λ k u. (good_entries is ns l k u).1;
          sums = sized.0;
          short = sized.1;
          held = sized.2;
        })
        (λ (l : first_bad is ns < length is). absurd (bad_entry is ns l (sym (name (cause_entry b is ns n a l)) ∙ h)))
        (le_or_lt (length is) (first_bad is ns))

-- AND CONVERSELY: inputs that fit have no cause
module _ {b is ns : List ℕ} {n : ℕ} (f : Fit b is ns n) where
  no_count : count_cause is ns ≡ 0
  unfolding count_cause
  no_count = rw (eq-eqb (length is) (length ns) f.paired, le-leb _ _ f.some, le-leb _ _ f.few)

  no_entry : (k : ℕ) → k < length is → entry_cause is ns k ≡ 0
  unfolding entry_cause
  no_entry k u = rw (f.up k u, eq-eqb _ _ (f.whole k u))

  no_size : size_cause b is ns n ≡ 0
  unfolding size_cause
  no_size = rw (eq-eqb (length b) _ f.sums, le-ltb _ _ f.short, le-ltb _ _ f.held)

  pub is_fit : cause_of b is ns n ≡ record { refusal = 0; entry = 0 }
  is_fit =
      let none : first_bad is ns ≡ length is = first_bad_is is ns (length is) (omega arith) no_entry (inl refl) in
      cause_size b is ns n no_count (omega arith) ∙ rw no_size
