-- The remembering scan of stream y for probe x, by document 01's four rules (source 001, figure 18, with the document's changes). Assumes nothing.
-- The memory R gives each text position e its remembered length R(e).
use Rattle.std.specs.Prelude.{true, false, List, [], ◌∷◌, ℕ, zero, suc, ◌+◌, ◌-◌, eqb, leb, length}
use Rattle.basics.specs.Lists.{at}
use Rattle.tables.specs.Suffix.{suffix_at}
use Rattle.scans.specs.Trace.{matched, stopped, Pass, more, Window, window}
use Rattle.scans.specs.Move.{move}

-- which rule holds at index i, with r = R(h) remembered and s = S the suffix entry
pub data Rule : Type 0 where
  compares skips matches stops : Rule

unfoldable pub rule : ℕ → ℕ → ℕ → Rule
rule r s i =
    elim (eqb r 0) [
      | true ↦ compares
      | false ↦ elim (leb r s) [ true ↦ skips | false ↦ elim (eqb s (i + 1)) [ true ↦ matches | false ↦ stops ] ]
    ]

-- Window j with the bytes from index k on matched or passed: the rules at i = k − 1, h = j + i, until i falls below 0. The first number is fuel, at least k.
unfoldable pub mem_from : List ℕ → List ℕ → (ℕ → ℕ) → ℕ → ℕ → ℕ → Pass
mem_from x y R j zero k = record { end = matched; comps = 0; kept = length x }
mem_from x y R j (suc f) zero = record { end = matched; comps = 0; kept = length x }
mem_from x y R j (suc f) (suc i) =
    elim (rule (R (j + i)) (suffix_at x i) i) [
      -- R(h) = 0: compare. Equal: i falls by one. Unequal: the window stops at i
      | compares ↦
          elim (eqb (at y (j + i)) (at x i)) [
            | true ↦ more (mem_from x y R j f i)
            | false ↦ record { end = stopped i; comps = 1; kept = length x - 1 - i }
          ]
      -- 0 < R(h) ≤ S: i falls by R(h), no comparison
      | skips ↦ mem_from x y R j f (suc i - R (j + i))
      -- R(h) > S and S = i + 1: the window matches
      | matches ↦ record { end = matched; comps = 0; kept = length x }
      -- R(h) > S and S ≤ i: the window stops at i − S, no comparison; i is the index before S is taken off
      | stops ↦ record { end = stopped (i - suffix_at x i); comps = 0; kept = length x - 1 - i }
    ]

-- the whole window
abbrev pub mem_pass : List ℕ → List ℕ → (ℕ → ℕ) → ℕ → Pass
mem_pass x y R j = mem_from x y R j (length x) (length x)

-- the memory R with v at e
unfoldable pub remember : (ℕ → ℕ) → ℕ → ℕ → ℕ → ℕ
remember R e v p = elim (eqb p e) [ true ↦ v | false ↦ R p ]

-- After window j, R(j + m − 1) becomes what the pass kept.
abbrev pub after : List ℕ → List ℕ → (ℕ → ℕ) → ℕ → ℕ → ℕ
after x y R j = remember R (j + length x - 1) (mem_pass x y R j).kept

-- While j ≤ n − m: visit window j, remember, and move. The first number is fuel: more than the windows there can be.
unfoldable pub mem_scan : List ℕ → List ℕ → (ℕ → ℕ) → ℕ → ℕ → List Window
mem_scan x y R zero j = []
mem_scan x y R (suc f) j =
    elim (leb (j + length x) (length y)) [
      | true ↦ window (length x) j (mem_pass x y R j) ∷ mem_scan x y (after x y R j) f (j + move x y j (mem_pass x y R j).end)
      | false ↦ []
    ]

-- start at window j = 0, with R(e) = 0 everywhere
unfoldable pub remembering : List ℕ → List ℕ → List Window
remembering x y = mem_scan x y (λ e. 0) (suc (length y)) 0
