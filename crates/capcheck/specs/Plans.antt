-- What the words of the command line ask for, said by `clap`'s own functions: which words ask for which run, which
-- for help, and which are a mistake. `Fits` is the contract of `plan_of`.
use Rattle.std.specs.Prelude.{◌≡◌, ◌⊎◌, ℕ, List, [], Option, Some, None, codes, option_map}
use Rattle.std.specs.Prelude.{option_and_then, if◌then◌else◌, Bool, false, not, ◌&&◌, ◌||◌, is_some}
use Rattle.std.specs.Str.{bytes_eq}
use Rattle.std.specs.Borrow.{Bor}
use Rattle.clap.specs.Words.{HasKind, IsAmong, Kinds, Row, Text, fault_of, first_of, kind_of, subcommand_of}
use Rattle.clap.specs.declared.error.Error.{Error}
use Rattle.clap.specs.declared.error.kind.ErrorKind.{ErrorKind}
use Rattle.clap.specs.declared.error.kind.ErrorKind.TheVariants as kind
use Rattle.capcheck.specs.CommandLine.{capcheck}
use Rattle.capcheck.specs.declared.plan.Plan.{Plan}
use Rattle.capcheck.specs.declared.plan.Plan.TheVariants as plans
use Rattle.capcheck.specs.declared.plan.Run.{Run}
use Rattle.capcheck.specs.declared.plan.Task.{Task}
use Rattle.capcheck.specs.declared.plan.Task.TheVariants.{Ask, Edit, Explain, Limits}
use Rattle.cap_machine.specs.declared.cell.Profile.{Profile}
use Rattle.cap_machine.specs.declared.cell.Profile.TheVariants.{One, Two}
use Rattle.cap_machine.specs.declared.question.Question.TheVariants.{Findings, Denials}
use Rattle.cap_session.specs.Commands.{position}

-- A run of the program: the start, where one is named, the trace, and the script, where there is one, each the text of this
-- name, or standard input; the profile; whether words on standard error are asked for; and what is done.
pub record NamedRun : Type 0 where
  pub start : Option (Option Text)
  pub trace : Option Text
  pub script : Option (Option Text)
  pub profile : Profile
  pub verbose : Bool
  pub task : Task

-- what a name stands for: `-` is standard input
abbrev pub text_named : Text → Option Text
text_named name = if bytes_eq name (codes "-") then None else Some name

-- the text that an argument names, and standard input where it is absent
abbrev pub text_among : Text → List Row → Option Text
text_among id rows = option_and_then text_named (first_of id rows)

-- the start, where one is named
abbrev pub start_among : List Row → Option (Option Text)
start_among rows = option_map text_named (first_of (codes "start") rows)

-- the script, which an edit alone has
abbrev pub script_among : Task → List Row → Option (Option Text)
script_among Edit rows = Some (text_among (codes "script") rows)
script_among _ rows = None

-- the profile of the value of `--profile`, and 1 where it isn't given
abbrev pub profile_named : Option Text → Option Profile
profile_named None = Some One
profile_named (Some name) = if bytes_eq name (codes "1") then Some One
    else (if bytes_eq name (codes "2") then Some Two else None)

abbrev pub profile_among : List Row → Option Profile
profile_among rows = profile_named (first_of (codes "profile") rows)

-- whether `--verbose` is given
abbrev pub is_true : Option Text → Bool
is_true None = false
is_true (Some value) = bytes_eq value (codes "true")

abbrev pub verbose_among : List Row → Bool
verbose_among rows = is_true (first_of (codes "verbose") rows)

-- the position of a line, spelled as those of a script, or that none is named
abbrev pub place_named : Option Text → Option (Option ℕ)
place_named None = Some None
place_named (Some word) = option_map Some (position word)

abbrev pub place_among : List Row → Option (Option ℕ)
place_among rows = place_named (first_of (codes "position") rows)

-- what a command is to do, by the values of its arguments; nothing, where the position is none
abbrev pub task_in : Text → List Row → Option Task
task_in name rows = if bytes_eq name (codes "check") then Some (Ask Findings)
    else (if bytes_eq name (codes "denials") then Some (Ask Denials)
    else (if bytes_eq name (codes "edit") then Some Edit
    else (if bytes_eq name (codes "explain") then option_map Explain (option_and_then (λ k. k) (place_among rows))
    else (if bytes_eq name (codes "limits") then option_map Limits (place_among rows) else None))))

-- whether a text that a run may have is standard input
abbrev pub is_input : Option (Option Text) → Bool
is_input None = false
is_input (Some name) = not (is_some name)

-- whether two of a start, a trace and a script are standard input, which can be read once
abbrev pub is_input_twice : Option (Option Text) → Option Text → Option (Option Text) → Bool
is_input_twice start trace script = not (is_some trace) && (is_input start || is_input script)
    || is_input start && is_input script

-- the run, unless it would read standard input twice
abbrev pub once : NamedRun → Option NamedRun
once run = if is_input_twice run.start run.trace run.script then None else Some run

-- the run that a task and the values of the arguments name
abbrev pub run_for : List Row → Task → Option NamedRun
run_for rows task = option_and_then (λ profile. once (record {
  start = start_among rows;
  trace = text_among (codes "trace") rows;
  script = script_among task rows;
  profile = profile;
  verbose = verbose_among rows;
  task = task;
})) (profile_among rows)

-- the run that a command and the values of its arguments name
abbrev pub run_in : Text × List Row → Option NamedRun
run_in found = option_and_then (run_for found.1) (task_in found.0 found.1)

-- the run that the words name by `clap`'s matches
abbrev pub run_asked : List Text → Option NamedRun
run_asked words = option_and_then run_in (subcommand_of capcheck words)

-- `clap` finds no fault in the words, and they name this run
abbrev pub NamesRun : List Text → NamedRun → Type 0
NamesRun words run = (fault_of capcheck words ≡ []) × (run_asked words ≡ Some run)

-- the words are to be answered by a text and are no mistake: they ask for help, or for the version
abbrev pub IsRequest : ErrorKind → Type 0
IsRequest k = (k ≡ kind.DisplayHelp) ⊎ (k ≡ kind.DisplayVersion)

abbrev pub Requests : Kinds → Type 0
Requests kinds = (k : ErrorKind) × IsAmong k kinds × IsRequest k

-- some kind is a mistake
abbrev pub Mistakes : Kinds → Type 0
Mistakes kinds = (k : ErrorKind) × IsAmong k kinds × (IsRequest k → ⊥)

-- The words are a mistake: `clap` finds one in them, or it finds no fault and they name no run,
-- as where the profile is neither 1 nor 2, the position is no number, or standard input is named twice.
abbrev pub IsMistake : List Text → Type 0
IsMistake words = Mistakes (fault_of capcheck words)
    ⊎ ((fault_of capcheck words ≡ []) × (run_asked words ≡ None))

abbrev pub seen : Option (Bor Text) → Option Text
seen = option_map (λ text. text.now)

abbrev pub run_of : Run → NamedRun
run_of r = record {
  start = option_map seen r.start;
  trace = seen r.trace;
  script = option_map seen r.script;
  profile = r.profile;
  verbose = r.verbose;
  task = r.task;
}

-- the plan is what the words ask for; of running out of memory nothing is said
abbrev pub Fits : List Text → Plan → Type 0
Fits words (plans.Run run) = NamesRun words (run_of run)
Fits words (plans.Help text) = Requests (fault_of capcheck words)
Fits words (plans.Usage text) = IsMistake words
Fits words plans.Memory = Unit {0}

-- below: what the steps of planning say

-- why the words name no run: `clap` finds a fault, or a value is wrong, or memory ran out
abbrev pub NamesNone : List Text → Error → Type 0
NamesNone words e = HasKind (fault_of capcheck words) e
    ⊎ ((fault_of capcheck words ≡ []) × (run_asked words ≡ None) × (kind_of e ≡ kind.InvalidValue))

-- the answer to such words, by the kind of the error
abbrev pub TellsKind : ErrorKind → Plan → Type 0
TellsKind k (plans.Run run) = ⊥
TellsKind k (plans.Help text) = IsRequest k
TellsKind k (plans.Usage text) = (k ≡ kind.OutOfMemory → ⊥) × (IsRequest k → ⊥)
TellsKind k plans.Memory = Unit {0}
