-- The lines that `bind` prints. Assumes nothing.
use Rattle.std.specs.Prelude.{List, [], ◌∷◌, ◌++◌, ℕ}
use Rattle.lines.specs.Line.{line_end, numbers_line}
use Rattle.binding.specs.declared.Message.{Message}
use Rattle.binding.specs.declared.Message.TheVariants.{Bound, Refused, Unread, Unwritten, BadId, Usage}

-- WORDS
-- "bound "
abbrev pub bound_word : List ℕ
bound_word = 98 ∷ 111 ∷ 117 ∷ 110 ∷ 100 ∷ 32 ∷ []

-- "refused "
abbrev pub refused_word : List ℕ
refused_word = 114 ∷ 101 ∷ 102 ∷ 117 ∷ 115 ∷ 101 ∷ 100 ∷ 32 ∷ []

-- "cannot read "
abbrev pub unread_word : List ℕ
unread_word = 99 ∷ 97 ∷ 110 ∷ 110 ∷ 111 ∷ 116 ∷ 32 ∷ 114 ∷ 101 ∷ 97 ∷ 100 ∷ 32 ∷ []

-- "cannot write "
abbrev pub unwritten_word : List ℕ
unwritten_word = 99 ∷ 97 ∷ 110 ∷ 110 ∷ 111 ∷ 116 ∷ 32 ∷ 119 ∷ 114 ∷ 105 ∷ 116 ∷ 101 ∷ 32 ∷ []

-- "bad id "
abbrev pub bad_id_word : List ℕ
bad_id_word = 98 ∷ 97 ∷ 100 ∷ 32 ∷ 105 ∷ 100 ∷ 32 ∷ []

-- "usage: bind LOG ID FILE ID FILE .."
abbrev pub usage_word : List ℕ
usage_word =
    117 ∷ 115 ∷ 97 ∷ 103 ∷ 101 ∷ 58 ∷ 32 ∷ 98 ∷ 105 ∷ 110 ∷ 100 ∷ 32 ∷ 76 ∷ 79 ∷ 71 ∷ 32 ∷ 73 ∷ 68 ∷ 32
    ∷ 70 ∷ 73 ∷ 76 ∷ 69 ∷ 32 ∷ 73 ∷ 68 ∷ 32 ∷ 70 ∷ 73 ∷ 76 ∷ 69 ∷ 32 ∷ 46 ∷ 46 ∷ []

-- LINES beside those of two numbers (`numbers_line` of the lines): a word and a name, which stands as it was given
unfoldable pub name_line : List ℕ → List ℕ → List ℕ
name_line w name = (w ++ name) ++ line_end

-- how the program is called
unfoldable pub usage_line : List ℕ
usage_line = usage_word ++ line_end

-- WHAT IS SAID
abbrev pub text_of : Message → List ℕ
text_of (Bound replicates bytes) = numbers_line bound_word replicates bytes
text_of (Refused refusal entry) = numbers_line refused_word refusal entry
text_of (Unread file) = name_line unread_word file.now
text_of (Unwritten log) = name_line unwritten_word log.now
text_of (BadId text) = name_line bad_id_word text.now
text_of Usage = usage_line

-- the name in it; none where there is none
abbrev pub name_of : Message → List ℕ
name_of (Bound replicates bytes) = []
name_of (Refused refusal entry) = []
name_of (Unread file) = file.now
name_of (Unwritten log) = log.now
name_of (BadId text) = text.now
name_of Usage = []
