-- The causes of an entry, by their cases, for `refusal::Directory::entry_cause` and what it calls. Assumes nothing.
use Rattle.std.proofs.Common.{◌≡◌, true, false, List, ℕ, ◌+◌, ◌-◌, ◌%◌, ◌*◌, sym, ap, ◌∙◌, ltb, eq-eqb, ne_eqb}
use Rattle.basics.specs.laws.Lists.{rising_first, rising-later}
use Rattle.drawlog.specs.Log.{draw_size, entry_size, log_of, id_at, start_at, length_at}
use Rattle.drawlog.specs.declared.layout.Log.{Log}
use Rattle.drawlog.specs.Number.{number}
use Rattle.drawlog.specs.laws.Log.{id_at_lem, start_at_lem, length-at}
use Rattle.drawlog.specs.Refusal.{rises, due, entry_cause}
use Rattle.drawlog.specs.laws.Refusal.{due_first}
use Rattle.drawlog.proofs.Due.{due-later}

module _ (s : List ℕ) (k : ℕ) where
  pub not_rising : rises s k ≡ false → entry_cause s k ≡ 15
  unfolding entry_cause
  not_rising u = rw u

  pub not_joined : rises s k ≡ true → (start_at s k ≡ due s k → ⊥) → entry_cause s k ≡ 16
  unfolding entry_cause
  not_joined u j = rw (u, ne_eqb _ _ j)

  pub not_whole : rises s k ≡ true → start_at s k ≡ due s k → (length_at s k % draw_size ≡ 0 → ⊥) → entry_cause s k ≡ 17
  unfolding entry_cause
  not_whole u j w = rw (u, eq-eqb _ _ j, ne_eqb _ _ w)

  pub no_cause : rises s k ≡ true → start_at s k ≡ due s k → length_at s k % draw_size ≡ 0 → entry_cause s k ≡ 0
  unfolding entry_cause
  no_cause u j w = rw (u, eq-eqb _ _ j, eq-eqb _ _ w)

  -- its id against the one before, and where its block is due, as the code sees them
  pub rises_first : k ≡ 0 → rises s k ≡ true
  rises_first e = rw e (rising_first (id_at s))

  pub rises_later : (k ≡ 0 → ⊥) → rises s k ≡ ltb (id_at s (k - 1)) (id_at s k)
  rises_later h = rising-later (id_at s) k h

  pub due_none : k ≡ 0 → due s k ≡ 0
  due_none e = rw e (due_first s)

  pub due_after : (k ≡ 0 → ⊥) → due s k ≡ start_at s (k - 1) + length_at s (k - 1)
  due_after h = due-later s k h

-- ITS NUMBERS, where the code reads them
module _ (s : List ℕ) (k : ℕ) (t : Log) (e : t ≡ log_of s) where
  pub id_stands : id_at s k ≡ number s (t.directory + entry_size * k)
  id_stands = id_at_lem s k ∙ ap (λ (u : Log). number s (u.directory + entry_size * k)) (sym e)

  pub start_stands : start_at s k ≡ number s (t.directory + entry_size * k + 4)
  start_stands = start_at_lem s k ∙ ap (λ (u : Log). number s (u.directory + entry_size * k + 4)) (sym e)

  pub length_stands : length_at s k ≡ number s (t.directory + entry_size * k + 8)
  length_stands = length-at s k ∙ ap (λ (u : Log). number s (u.directory + entry_size * k + 8)) (sym e)

pub ruleset stands = (id_stands, start_stands, length_stands)

pub ruleset causes = (not_rising, not_joined, not_whole, no_cause)

pub ruleset rising = (rises_first, rises_later)

pub ruleset dues = (due_none, due_after)
