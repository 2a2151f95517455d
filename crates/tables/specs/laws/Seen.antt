-- The occurrence table, byte after byte: what the filling loop keeps. Assumes nothing.
use Rattle.std.specs.Prelude.{◌≡◌, refl, List, ℕ, suc, ◌+◌, ◌-◌, ◌<◌, length, set, replicate}
use Rattle.std.proofs.Common.{sym, ap, ◌∙◌, add-one, arith}
use borrow.Author.Tests.{eq-eqb, ne_eqb}
use Rattle.std.proofs.lemmas.List.{length-replicate, get_or-replicate}
use Rattle.basics.specs.Search.{least}
use Rattle.basics.specs.Lists.{at, table}
use Rattle.basics.specs.laws.Lists.{table_is, table_ext, set-table}
use Rattle.tables.specs.Occurrence.{stands_at, occurrence_at, occurrence_table}

-- the entry of byte a when the first j bytes of x are seen: the smallest k from m − j to m − 1 with x[m−1−k] = a, or m
unfoldable pub seen : List ℕ → ℕ → ℕ → ℕ
seen x j a = least (stands_at x a) j (length x - j)

pub seen_none : (x : List ℕ) → replicate 256 (length x) ≡ table 256 (seen x 0)
unfolding seen least
seen_none x = table_is 256 (seen x 0) (replicate 256 (length x)) (length-replicate 256 (length x)) (λ a u. get_or-replicate 256 a (length x) 0 u ∙ omega arith)

module _ (x : List ℕ) (j : ℕ) (h : suc j < length x) where
  place : length x - 1 - (length x - suc j) ≡ j
  place = omega arith

  -- byte j is seen: it stands m − 1 − j before the last place, nearer than what was seen before
  pub seen_more : at x j < 256 → set (table 256 (seen x j)) (at x j) (length x - 1 - j) ≡ table 256 (seen x (j + 1))
  unfolding seen least stands_at
  seen_more b =
      set-table 256 (seen x j) (seen x (j + 1)) (at x j) (length x - 1 - j) b
      (rw (add-one, place, eq-eqb (at x j) (at x j) refl) (omega arith))
      (λ a u q. rw (add-one, place, ne_eqb (at x j) a (λ e. q (sym e))) (ap (λ (n : ℕ). least (stands_at x a) j n) (omega arith)))

-- all bytes but the last are seen
pub seen_all : (x : List ℕ) (j : ℕ) → j + 1 ≡ length x → table 256 (seen x j) ≡ occurrence_table x
unfolding seen occurrence_table occurrence_at
seen_all x j e =
    table_ext 256 (seen x j) (occurrence_at x)
    (λ a u. let p : j ≡ length x - 1 = omega arith in let q : length x - j ≡ 1 = omega arith in λ k. least (stands_at x a) (p k) (q k))
