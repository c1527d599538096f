-- How a line is spelled: the grammar as a relation between bytes and what a line says, and the one canonical text.
use Rattle.std.specs.Prelude.{◌≡◌, ℕ, ◌≤◌, ◌&&◌, ◌||◌, not, Bool, List, [], ◌∷◌, ◌++◌, length, Some, None, IsTrue}
use Rattle.std.specs.Prelude.{codes, map}
use Rattle.std.specs.Str.{bytes_eq}
use Rattle.std.specs.List.{join_with_byte, list_all}
use Rattle.std.specs.Fmt.{decimal}
use Rattle.cap_rights.specs.Text.{names, text}
use Rattle.cap_trace.specs.Item.{Item}
use Rattle.cap_trace.specs.Item as items
use Rattle.cap_trace.specs.declared.line.Answer.{Answer}
use Rattle.cap_trace.specs.declared.line.Answer.TheVariants as answers
use Rattle.cap_trace.specs.declared.line.Dir.TheVariants as dirs
use Rattle.cap_trace.specs.Limits.{longest_line}
use Rattle.cap_trace.specs.Names.{Head, listed, unlisted, name_of, is_name, form_named, dup_command_name}
use Rattle.cap_trace.specs.Fields.{is_flags, is_word, are_items, quoted, is_free}
use Rattle.cap_trace.specs.Entry.{Entry, Arg, an_fd, a_dir, some_flags, some_rights, a_path, a_command, a_word}
use Rattle.cap_trace.specs.Entry.{free_text, Word, dest, set_fd, dup_to, args_of, head_of, IsPid, IsFd, IsWhole}

-- a name of the table, or one that could be a name and isn't in the table
abbrev pub IsHead : Head → Type 0
IsHead (listed f) = Unit {0}
IsHead (unlisted n) = IsTrue (is_name n) × (form_named n ≡ None)

abbrev pub word_text : Word → List ℕ
word_text dest = codes "DEST"
word_text set_fd = codes "F_SETFD"
word_text (dup_to c) = dup_command_name c

-- a command of fcntl that has no form of its own
abbrev pub is_command : List ℕ → Bool
is_command w = is_word w
    && not (bytes_eq w (codes "F_SETFD") || bytes_eq w (codes "F_DUP2FD") || bytes_eq w (codes "F_DUP2FD_CLOEXEC"))

-- a text that spells an argument: only rights have several
abbrev pub SpellsArg : List ℕ → Arg → Type 0
SpellsArg t (an_fd f) = (t ≡ decimal f) × IsFd f
SpellsArg t (a_dir (dirs.Fd f)) = (t ≡ decimal f) × IsFd f
SpellsArg t (a_dir dirs.Cwd) = t ≡ codes "AT_FDCWD"
SpellsArg t (some_flags w) = (t ≡ w) × IsTrue (is_flags w)
SpellsArg t (some_rights r) = names t ≡ Some r
SpellsArg t (a_path p) = (t ≡ quoted p) × IsTrue (are_items p)
SpellsArg t (a_command w) = (t ≡ w) × IsTrue (is_command w)
SpellsArg t (a_word w) = t ≡ word_text w
SpellsArg t (free_text a) = (t ≡ a) × IsTrue (list_all is_free a)

abbrev pub SpellsArgs : List (List ℕ) → List Arg → Type 0
SpellsArgs [] [] = Unit {0}
SpellsArgs [] (a ∷ others) = ⊥
SpellsArgs (t ∷ ts) [] = ⊥
SpellsArgs (t ∷ ts) (a ∷ others) = SpellsArg t a × SpellsArgs ts others

-- the one text of an argument that is written
abbrev pub arg_text : Arg → List ℕ
arg_text (an_fd f) = decimal f
arg_text (a_dir (dirs.Fd f)) = decimal f
arg_text (a_dir dirs.Cwd) = codes "AT_FDCWD"
arg_text (some_flags w) = w
arg_text (some_rights r) = text r
arg_text (a_path p) = quoted p
arg_text (a_command w) = w
arg_text (a_word w) = word_text w
arg_text (free_text a) = a

abbrev pub answer_text : Answer → List ℕ
answer_text (answers.Made n) = decimal n
answer_text (answers.Pair n m) = decimal n ++ (44 ∷ decimal m)
answer_text (answers.Fault e) = codes "-1 errno " ++ decimal e

-- what follows the arguments
abbrev pub tail_text : Item → List ℕ
tail_text (items.Call c a) = codes " RET " ++ answer_text a
tail_text (items.Start fs) = []
tail_text items.Exit = []
tail_text (items.Foreign f) = []
tail_text (items.Needs m f r) = []
tail_text items.Global = []

-- a line with these texts for its arguments: pid, space, name, the arguments in brackets with commas between them, and
-- the answer
abbrev pub joined : Entry → List (List ℕ) → List ℕ
joined e texts =
    decimal e.pid ++ (32 ∷ (name_of (head_of e.item) ++ (40 ∷ (join_with_byte 44 texts ++ (41 ∷ tail_text e.item)))))

-- the bytes spell the line, with these texts for its arguments
pub record SpellsBy (bytes : List ℕ) (e : Entry) (texts : List (List ℕ)) : Type 0 where
  pub short : length bytes ≤ longest_line
  pub pid : IsPid e.pid
  pub head : IsHead (head_of e.item)
  pub args : SpellsArgs texts (args_of e.item)
  pub whole : IsWhole e.item
  pub parts : bytes ≡ joined e texts

abbrev pub Spells : List ℕ → Entry → Type 0
Spells bytes e = (texts : List (List ℕ)) × SpellsBy bytes e texts

-- the one spelling that is written
abbrev pub canon : Entry → List ℕ
canon e = joined e (map arg_text (args_of e.item))

-- some bytes spell the line
abbrev pub IsProper : Entry → Type 0
IsProper e = (bytes : List ℕ) × Spells bytes e
