-- Start texts: what was known of each process before the first line of a trace.
--
-- A line is about one process, in words with one space between: its pid, its mode, the cell of each descriptor that
-- isn't listed, and the listed descriptors, each with its cell: `100 out closed 0=ALL 3=CAP_READ|CAP_SEEK 5=unknown`.
-- Pids rise from line to line, and descriptors within a line. Empty lines and lines that begin with `#` are skipped.
use Rattle.std.specs.Prelude.{ℕ, ◌+◌, nat_le, List, [], ◌∷◌, ◌++◌, drop, codes, if◌then◌else◌, Result, Ok, Err, Option, None}
use Rattle.std.specs.Prelude.{Some, option_map, option_and_then}
use Rattle.std.specs.Str.{bytes_eq}
use Rattle.std.specs.List.{slice_get}
use Rattle.cap_rights.specs.Text.{names}
use Rattle.cap_trace.specs.Number.{num_at}
use Rattle.cap_trace.specs.Quotes.{cut_at_byte}
use Rattle.cap_machine.specs.State.{State, Added, start_state}
use Rattle.cap_machine.specs.declared.cell.Cell.{Cell}
use Rattle.cap_machine.specs.declared.cell.Cell.TheVariants.{Unknown, Closed, Held}
use Rattle.cap_machine.specs.declared.cell.Mode.{Mode}
use Rattle.cap_machine.specs.declared.cell.OnExec.TheVariants as on_exec
use Rattle.cap_machine.specs.declared.cell.Mode.TheVariants.{Inside, Outside, Unsure}
use Rattle.cap_session.specs.Trace.{is_skipped}
use Rattle.cap_session.specs.StartWords.{words}
use Rattle.cap_session.specs.Texts.{whole_text, refused_so_far}
use Rattle.cap_session.specs.declared.refused.Refusal.{Refusal}
use Rattle.cap_session.specs.declared.refused.Refused.{Refused}
use Rattle.cap_session.specs.declared.refused.Refused.TheVariants as bad

-- ---- cells, modes and numbers

-- a descriptor that is open and holds these rights (rights(4)); whether an exec closes it isn't known
abbrev pub held : ℕ → Cell
held rights = Held rights on_exec.Unsure

-- `unknown`, `closed`, or the rights that are held
unfoldable pub cell_spelled : List ℕ → Option Cell
cell_spelled word =
    if bytes_eq word (codes "unknown") then Some Unknown
    else if bytes_eq word (codes "closed") then Some Closed
    else option_map held (names word)

-- `in`, `out` or `unsure`: whether the process is in capability mode (capsicum(4))
unfoldable pub mode_spelled : List ℕ → Option Mode
mode_spelled word =
    if bytes_eq word (codes "in") then Some Inside
    else if bytes_eq word (codes "out") then Some Outside
    else if bytes_eq word (codes "unsure") then Some Unsure
    else None

abbrev pub at_least : ℕ → Option ℕ → Option ℕ
at_least low None = None
at_least low (Some n) = if nat_le low n then Some n else None

-- a number from low to high
unfoldable pub number_spelled : ℕ → ℕ → List ℕ → Option ℕ
number_spelled low high word = at_least low (num_at high word)

-- ---- the fields of a line, from the left

infixl 10 ◌>>=◌
abbrev pub ◌>>=◌ : {A B : Type 0} → Result A Refused → (A → Result B Refused) → Result B Refused
(Ok x) >>= f = f x
(Err e) >>= f = Err e

-- a value that is there, or this bad field
abbrev pub need : {A : Type 0} → Refused → Option A → Result A Refused
need e None = Err e
need e (Some x) = Ok x

-- `FD=CELL`, cut at the first `=`; the descriptor is `low` at least
unfoldable pub listed_at : ℕ → List ℕ → Result (ℕ × Cell) Refused
listed_at low word = do
  cut ← need bad.Argument (cut_at_byte 61 word)
  fd ← need bad.Argument (number_spelled low 1048575 cut.0)
  cell ← need bad.Right (cell_spelled cut.1)
  Ok (fd, cell)

-- the cell of the descriptors that aren't listed
abbrev pub rest_at : Option (List ℕ) → Result Cell Refused
rest_at None = Err bad.Argument
rest_at (Some word) = need bad.Right (cell_spelled word)

-- descriptors that rise
unfoldable pub cells_from : ℕ → List (List ℕ) → Result (List (ℕ × Cell)) Refused
cells_from low [] = Ok []
cells_from low (word ∷ words) = do
  first ← listed_at low word
  others ← cells_from (first.0 + 1) words
  Ok (first ∷ others)

-- What a line says of a process, whose pid is `low` at least. A mode or a cell that is missing is a bad argument.
unfoldable pub described : ℕ → List (List ℕ) → Result Added Refused
described low words = do
  pid ← need bad.Pid (option_and_then (number_spelled low 99999) (slice_get words 0))
  mode ← need bad.Argument (option_and_then mode_spelled (slice_get words 1))
  rest ← rest_at (slice_get words 2)
  cells ← cells_from 0 (drop 3 words)
  Ok (record { pid = pid; mode = mode; rest = rest; cells = cells })

-- ---- the text

-- what the lines so far say, and the least pid that may come next
pub record Listed : Type 0 where
  pub added : List Added
  pub low : ℕ

abbrev pub none_listed : Listed
none_listed = record { added = []; low = 1 }

abbrev pub with_described : Listed → Result Added Refused → Result Listed Refused
with_described listed (Ok d) = Ok (record { added = listed.added ++ d ∷ []; low = d.pid + 1 })
with_described listed (Err field) = Err field

-- A line is skipped, or adds a process, or is refused for its first bad field.
unfoldable pub next_process : Listed → List ℕ → Result Listed Refused
next_process listed line = if is_skipped line then Ok listed
    else with_described listed (described listed.low (words line))

abbrev pub good_as : {A B : Type 0} → (A → B) → Result A Refusal → Result B Refusal
good_as f (Ok x) = Ok (f x)
good_as f (Err e) = Err e

-- what a whole text says of each process, or its first refused line
abbrev pub described_by : List ℕ → Result (List Added) Refusal
described_by text = good_as (λ (listed : Listed). listed.added) (whole_text next_process none_listed text)

-- the start that it says
abbrev pub start : List ℕ → Result State Refusal
start text = good_as start_state (described_by text)

-- the first refused line of a text whose end isn't reached: one with its LF, or a last piece that is too long
abbrev pub start_so_far : List ℕ → Option Refusal
start_so_far = refused_so_far next_process none_listed
