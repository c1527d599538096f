-- The words of a line of a start text.
use Rattle.std.specs.Prelude.{ℕ, ◌==◌, List, [], Option, None, Some}
use Rattle.std.specs.List.{slice_split}
use denote.Ref.{Bor}

-- the words of a line, with one space between
abbrev pub words : List ℕ → List (List ℕ)
words line = slice_split (λ c. c == 32) line

-- the words of what is left of a line
abbrev pub left : Option (Bor (List ℕ)) → List (List ℕ)
left None = []
left (Some line) = words line.now
