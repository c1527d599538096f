-- Flags as they are spelled: `0`, or names with a bar between them.
use Rattle.std.specs.Prelude.{ℕ, ◌==◌, Bool, List}
use Rattle.std.specs.List.{slice_split, list_any, list_all}
use Rattle.std.specs.Str.{bytes_eq}

abbrev pub flag_words : List ℕ → List (List ℕ)
flag_words flags = slice_split (λ c. c == 124) flags

-- whether a name is in the flags
abbrev pub has_flag : List ℕ → List ℕ → Bool
has_flag flags name = list_any (λ word. bytes_eq word name) (flag_words flags)

-- whether no other names than these stand there
abbrev pub is_one_of : List (List ℕ) → List ℕ → Bool
is_one_of known word = list_any (λ name. bytes_eq word name) known

abbrev pub all_known : List (List ℕ) → List ℕ → Bool
all_known known flags = list_all (is_one_of known) (flag_words flags)
