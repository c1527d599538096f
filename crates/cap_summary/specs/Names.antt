-- Which processes and which descriptors lines and an effect name.
use Rattle.std.specs.Prelude.{Bool, ◌&&◌, ◌==◌, ◌||◌, ◌≡◌}
use Rattle.cap_summary.specs.{Keys.reads_within, LineEffect, Sorted.found, declared.effect.Effect.Effect, option_map_or}
use Rattle.cap_summary.specs.{Check, IfSome, Requirement, ResultKind, args_name, is_child, kind_of, list_any, names_pid}
use Rattle.cap_summary.specs.declared.{base.DefaultCells.DefaultCells, effect.Row.Row, key.Key.Key, value.Value.Value}
use Rattle.cap_summary.specs.{All, Answer, Checks, Entry, Item, List, Option, Step, false, fds_of, listed, true, ℕ}

-- ---- lines: a descriptor of an answer, by the kind of answer that the call has; a count, as of read(2), is none
abbrev pub answers_fd : ℕ → ResultKind → Answer → Bool
answers_fd f ResultKind.Fd (Answer.Made n) = f == n
answers_fd f (ResultKind.Same g) (Answer.Made n) = f == n
answers_fd f ResultKind.FdPair (Answer.Pair n m) = f == n || f == m
answers_fd f ResultKind.ChildAndFd (Answer.Pair n m) = f == m
answers_fd f kind answer = false

abbrev pub item_answers_fd : ℕ → Item → Bool
item_answers_fd f (Item.Call call answer) = answers_fd f (kind_of call) answer
item_answers_fd f _ = false

-- a descriptor is in an argument of the line, or in its answer
abbrev pub line_names_fd : ℕ → Entry → Bool
line_names_fd f line = args_name f line || item_answers_fd f line.item

-- some processes and some descriptors
pub record Names : Type 0 where
  pub pids : ℕ → Bool
  pub fds : ℕ → Bool

-- those that the lines of steps name: each one's process and the child that it made, and descriptors that stand in it
abbrev pub names_in : List Step → Names
names_in t = record {
  pids = λ p. list_any (λ (step : Step). names_pid p step.line) t;
  fds = λ f. list_any (λ (step : Step). line_names_fd f step.line) t;
}

-- all of some names are among others
pub record AreAmong (some names : Names) : Type 0 where
  pub pids : (p : ℕ) → some.pids p ≡ true → names.pids p ≡ true
  pub fds : (f : ℕ) → some.fds f ≡ true → names.fds f ≡ true

-- one process, with all its descriptors
abbrev pub only : ℕ → Names
only p = record { pids = λ q. q == p; fds = λ f. true }

-- each process has a mode, which needs no naming
abbrev pub has_key : Names → Key → Bool
has_key names Key.Mode = true
has_key names (Key.Fd f) = names.fds f

abbrev pub has_cell : Names → ℕ → Key → Bool
has_cell names p k = names.pids p && has_key names k

-- ---- effects: a value that is listed for a descriptor
pub record IsListedWithin (names : Names) (f : ℕ) (v : Value) : Type 0 where
  pub key : names.fds f ≡ true
  pub source : reads_within (has_cell names) v ≡ true

abbrev pub ListWithin : Names → List (ℕ × Value) → Type 0
ListWithin names cells = (f : ℕ) → IfSome (found cells f) (IsListedWithin names f)

-- the process whose cells are handed on
abbrev pub others_within : Names → DefaultCells → Bool
others_within names (DefaultCells.Of q passing) = names.pids q
others_within names _ = true

-- the cell that a mode follows, if a line turns it
abbrev pub mode_within : Names → Option Value → Bool
mode_within names mode = option_map_or (reads_within (has_cell names)) mode true

-- all that is said of a process
pub record RowWithin (names : Names) (row : Row) : Type 0 where
  pub cells : ListWithin names row.cells
  pub others : others_within names row.base.others ≡ true
  pub mode : mode_within names row.mode ≡ true

-- a row of a process
pub record IsRowWithin (names : Names) (p : ℕ) (r : Row) : Type 0 where
  pub pid : names.pids p ≡ true
  pub row : RowWithin names r

abbrev pub EffectWithin : Names → Effect → Type 0
EffectWithin names effect = (p : ℕ) → IfSome (found effect.rows p) (IsRowWithin names p)

-- the rows of some processes: those that a later segment reads
abbrev pub ReadWithin : Names → Names → Effect → Type 0
ReadWithin names of effect = (q : ℕ) → of.pids q ≡ true → IfSome (found effect.rows q) (IsRowWithin names q)

-- the process of a line, its child, and the descriptors that it has one by one
pub record LineWithin (names : Names) (me : ℕ) (effect : LineEffect) : Type 0 where
  pub own : names.pids me ≡ true
  pub child : (p : ℕ) → is_child effect p ≡ true → names.pids p ≡ true
  pub fds : All (λ f. names.fds f ≡ true) (fds_of effect)

-- the descriptors of the checks of a line
abbrev pub ChecksWithin : Names → Checks → Type 0
ChecksWithin names checks = All (λ (check : Check). names.fds check.fd ≡ true) (listed checks)

-- the process of a line, and those descriptors
pub record RequirementWithin (names : Names) (me : ℕ) (requirement : Requirement) : Type 0 where
  pub own : names.pids me ≡ true
  pub checks : ChecksWithin names requirement.checks
