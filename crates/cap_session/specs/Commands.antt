-- What a line of a script asks for. Words are separated by one space, and nothing follows the last.
use Rattle.std.specs.Prelude.{ℕ, ◌==◌, List, [], ◌∷◌, codes, if◌then◌else◌, Option, None, Some}
use Rattle.std.specs.Str.{bytes_eq}
use Rattle.cap_trace.specs.Number.{num_at}
use Rattle.cap_session.specs.declared.edit.Edit.{Edit}
use Rattle.cap_session.specs.declared.edit.Edit.TheVariants.{Insert, Delete, Replace}

pub data Asked : Type 0 where
  -- `insert K LINE`, `replace K LINE` and `delete K`
  insert_line : ℕ → List ℕ → Asked
  replace_line : ℕ → List ℕ → Asked
  delete_line : ℕ → Asked
  -- `show K`
  show_line : ℕ → Asked
  -- `count`
  count_lines : Asked
  -- `report`, and `report A B`
  report_all : Asked
  report_lines : ℕ → ℕ → Asked
  -- `changes`
  tell_changes : Asked
  -- `explain K`
  explain_line : ℕ → Asked
  -- `denials`
  tell_denials : Asked
  -- `limits`, and `limits K`
  tell_limits : Option ℕ → Asked
  -- any other line
  unknown : Asked

-- the bytes before the first space
unfoldable pub first_word : List ℕ → List ℕ
first_word [] = []
first_word (b ∷ line) = if b == 32 then [] else b ∷ first_word line

-- the bytes after the first space, where there is one
unfoldable pub after_word : List ℕ → Option (List ℕ)
after_word [] = None
after_word (b ∷ line) = if b == 32 then Some line else after_word line

-- a number of 1 to 19 digits, without a leading zero
abbrev pub position : List ℕ → Option ℕ
position = num_at 9999999999999999999

-- ---- the words after the first

-- a number alone
abbrev pub with_number : Option ℕ → (ℕ → Asked) → Asked
with_number (Some k) ask = ask k
with_number None ask = unknown

-- a number, and what follows the space after it, whatever that is
abbrev pub with_line : Option ℕ → Option (List ℕ) → (ℕ → List ℕ → Asked) → Asked
with_line (Some k) (Some line) ask = ask k line
with_line (Some k) None ask = unknown
with_line None line ask = unknown

-- two numbers
abbrev pub with_numbers : Option ℕ → Option ℕ → Asked
with_numbers (Some a) (Some b) = report_lines a b
with_numbers (Some a) None = unknown
with_numbers None b = unknown

abbrev pub with_range : Option ℕ → Option (List ℕ) → Asked
with_range a (Some rest) = with_numbers a (position rest)
with_range a None = unknown

-- ---- the line

-- a line of one word
abbrev pub asked_alone : List ℕ → Asked
asked_alone word =
    if bytes_eq word (codes "count") then count_lines
    else if bytes_eq word (codes "report") then report_all
    else if bytes_eq word (codes "changes") then tell_changes
    else if bytes_eq word (codes "denials") then tell_denials
    else if bytes_eq word (codes "limits") then tell_limits None
    else unknown

-- a word with a number alone
abbrev pub asked_at : List ℕ → ℕ → Asked
asked_at word k =
    if bytes_eq word (codes "delete") then delete_line k
    else if bytes_eq word (codes "show") then show_line k
    else if bytes_eq word (codes "explain") then explain_line k
    else if bytes_eq word (codes "limits") then tell_limits (Some k)
    else unknown

-- a word, and what follows the space after it
abbrev pub asked_with : List ℕ → List ℕ → Asked
asked_with word rest =
    if bytes_eq word (codes "insert") then with_line (position (first_word rest)) (after_word rest) insert_line
    else if bytes_eq word (codes "replace") then with_line (position (first_word rest)) (after_word rest) replace_line
    else if bytes_eq word (codes "report") then with_range (position (first_word rest)) (after_word rest)
    else with_number (position rest) (asked_at word)

abbrev pub asked_of : List ℕ → Option (List ℕ) → Asked
asked_of word None = asked_alone word
asked_of word (Some rest) = asked_with word rest

abbrev pub asked : List ℕ → Asked
asked line = asked_of (first_word line) (after_word line)

abbrev pub edit_asked : Edit → Asked
edit_asked (Insert position line) = insert_line position line.now
edit_asked (Delete position) = delete_line position
edit_asked (Replace position line) = replace_line position line.now
