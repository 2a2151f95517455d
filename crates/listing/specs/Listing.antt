-- The listing of the draw log s, in the order of document 01: the head, each owner at its turn, the end; or one line where the log is refused. Assumes nothing.
use Rattle.std.specs.Prelude.{cond, List, [], ◌∷◌, ◌++◌, ℕ, zero, suc, length}
use Rattle.lines.specs.Digits.{digits}
use Rattle.lines.specs.Line.{blank, line_end, numbers_line}
use Rattle.drawlog.specs.Log.{count, id_at}
use Rattle.drawlog.specs.Refusal.{cause_of, accepted}
use Rattle.pairs.specs.Check.{probed, Pair, pairs_of, pairs, unprobed}
use Rattle.pairs.specs.Promise.{step}

-- p, the draws of a probe
abbrev pub draws : ℕ
draws = 32

-- WORDS
-- "replicates "
abbrev pub replicates_word : List ℕ
replicates_word = 114 ∷ 101 ∷ 112 ∷ 108 ∷ 105 ∷ 99 ∷ 97 ∷ 116 ∷ 101 ∷ 115 ∷ 32 ∷ []

-- " probe "
abbrev pub probe_word : List ℕ
probe_word = 32 ∷ 112 ∷ 114 ∷ 111 ∷ 98 ∷ 101 ∷ 32 ∷ []

-- "unprobed "
abbrev pub unprobed_word : List ℕ
unprobed_word = 117 ∷ 110 ∷ 112 ∷ 114 ∷ 111 ∷ 98 ∷ 101 ∷ 100 ∷ 32 ∷ []

-- "total "
abbrev pub total_word : List ℕ
total_word = 116 ∷ 111 ∷ 116 ∷ 97 ∷ 108 ∷ 32 ∷ []

-- "refused "
abbrev pub refused_word : List ℕ
refused_word = 114 ∷ 101 ∷ 102 ∷ 117 ∷ 115 ∷ 101 ∷ 100 ∷ 32 ∷ []

-- THE LINES
-- the head gives replicates and p
unfoldable pub head_line : ℕ → List ℕ
head_line c = (((replicates_word ++ digits c) ++ probe_word) ++ digits draws) ++ line_end

-- a pair line gives owner, searched id, first byte offset, occurrences
unfoldable pub pair_line : Pair → List ℕ
pair_line q = ((((((digits q.owner ++ blank) ++ digits q.other) ++ blank) ++ digits q.first) ++ blank) ++ digits q.number) ++ line_end

-- an unprobed line gives its owner
unfoldable pub unprobed_line : ℕ → List ℕ
unprobed_line id = (unprobed_word ++ digits id) ++ line_end

-- the end gives pairs and unprobed owners
unfoldable pub total_line : ℕ → ℕ → List ℕ
total_line k u = numbers_line total_word k u

-- a refused log: number and entry
unfoldable pub refused_line : ℕ → ℕ → List ℕ
refused_line r k = numbers_line refused_word r k

-- THE LISTING
unfoldable pub pair_lines : List Pair → List ℕ
pair_lines [] = []
pair_lines (q ∷ qs) = pair_line q ++ pair_lines qs

-- owner a at its turn: its pairs, or that it is unprobed
unfoldable pub owner_text : List ℕ → ℕ → List ℕ
owner_text s a = cond (probed draws s a) (pair_lines (pairs_of step draws s a)) (unprobed_line (id_at s a))

-- the first n owners, ascending
unfoldable pub owners_text : List ℕ → ℕ → List ℕ
owners_text s zero = []
owners_text s (suc a) = owners_text s a ++ owner_text s a

-- an accepted log: head, owners, end
unfoldable pub accepted_text : List ℕ → List ℕ
accepted_text s =
    (head_line (count s) ++ owners_text s (count s))
    ++ total_line (length (pairs step draws s (count s))) (unprobed draws s (count s))

unfoldable pub listing : List ℕ → List ℕ
listing s = cond (accepted s) (accepted_text s) (refused_line (cause_of s).refusal (cause_of s).entry)
