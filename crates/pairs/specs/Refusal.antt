-- The refusals that the check can meet: those of the log test, then 20, 4 and 5. Assumes nothing.
use Rattle.std.specs.Prelude.{Bool, cond, not, ◌&&◌, ◌||◌, ℕ, ◌*◌, ◌-◌, eqb, leb, ltb}
use Rattle.basics.specs.Refusal.{Cause}
use Rattle.drawlog.specs.Promise.{Tested}
use Rattle.pairs.specs.Check.{probe_size}

-- the most draws of a probe
abbrev pub longest : ℕ
longest = 512

-- the most numbers that the pairs of c replicates take: four for each owner and each other block
abbrev pub needed : ℕ → ℕ
needed c = 4 * (c * (c - 1))

-- the numbers that both tables of a probe of p draws take: 16p
abbrev pub table_size : ℕ → ℕ
table_size p = 2 * probe_size p

-- a work room is too short for it: that of t numbers for both tables, or the memory room of e entries
abbrev pub too_short : ℕ → ℕ → ℕ → Bool
too_short p t e = ltb t (table_size p) || ltb e (probe_size p)

-- the first of 20, 4 and 5 that holds, of probes of p draws, these work rooms, a result room of n numbers, and c replicates; 0 where there is none
unfoldable pub own_cause : ℕ → ℕ → ℕ → ℕ → ℕ → ℕ
own_cause p t e n c =
    cond (not (leb 1 p && leb p longest)) 20
    (cond (too_short p t e) 4
    (cond (ltb n (needed c)) 5
    0))

-- the first cause to hold, with its entry number: that of the log test, or one of these, which carry 0
unfoldable pub cause_of : Tested → ℕ → ℕ → ℕ → ℕ → Cause
cause_of r p t e n =
    cond (not (eqb r.refusal 0)) (record { refusal = r.refusal; entry = r.entry }) (record { refusal = own_cause p t e n r.count; entry = 0 })
