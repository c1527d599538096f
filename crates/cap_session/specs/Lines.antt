-- The lines of a text, cut at LF.
use Rattle.std.specs.Prelude.{ℕ, ◌==◌, nat_lt, List, [], ◌∷◌, ◌++◌, length, if◌then◌else◌}
use Rattle.cap_session.specs.Limits.{longest_line}

-- The lines that end with LF, where `held` begins the first. (`whole_lines []` cuts a text.)
unfoldable pub whole_lines : List ℕ → List ℕ → List (List ℕ)
whole_lines held [] = []
whole_lines held (b ∷ bytes) = if b == 10 then held ∷ whole_lines [] bytes else whole_lines (held ++ b ∷ []) bytes

-- what follows the last LF
unfoldable pub last_piece : List ℕ → List ℕ → List ℕ
last_piece held [] = held
last_piece held (b ∷ bytes) = if b == 10 then last_piece [] bytes else last_piece (held ++ b ∷ []) bytes

-- a last piece is a line too, unless it is empty
abbrev pub line_if_any : List ℕ → List (List ℕ)
line_if_any [] = []
line_if_any (b ∷ bytes) = (b ∷ bytes) ∷ []

-- all lines of a text
abbrev pub lines : List ℕ → List (List ℕ)
lines text = whole_lines [] text ++ line_if_any (last_piece [] text)

-- a last piece whose LF hasn't come is a line already, where it is too long for one
abbrev pub line_if_long : List ℕ → List (List ℕ)
line_if_long piece = if nat_lt longest_line (length piece) then piece ∷ [] else []

-- the lines of a text whose end isn't reached
abbrev pub lines_so_far : List ℕ → List (List ℕ)
lines_so_far text = whole_lines [] text ++ line_if_long (last_piece [] text)
