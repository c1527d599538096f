-- What a session holds, and what its calls answer.
use Rattle.std.specs.Prelude.{◌≡◌, ◌≢◌, ◌↔◌, ◌≤◌, ℕ, ◌+◌, ◌-◌, Bool, true, false, List, length, map, All, Result, Ok, Err, ⊤}
use Rattle.std.specs.Prelude.{Option, None, Some, IfSome, slice_get}
use Rattle.std.specs.List.{AllZip}
use Rattle.cap_trace.specs.Entry.{Entry}
use Rattle.cap_machine.specs.declared.cell.Profile.{Profile}
use Rattle.cap_machine.specs.declared.verdict.Found.{Found}
use Rattle.cap_machine.specs.Check.{check}
use Rattle.cap_machine.specs.Steps.{steps}
use Rattle.cap_machine.specs.declared.step.Step.{Step}
use Rattle.cap_session.specs.Limits.{most_lines}
use Rattle.cap_session.specs.Origins.{Base}
use Rattle.cap_session.specs.Settings.{state_before}
use Rattle.cap_session.specs.declared.last_report.LastReport.{LastReport}
use Rattle.cap_session.specs.declared.session.Setting.{Setting}
use Rattle.cap_session.specs.declared.edit.Edit.{Edit}
use Rattle.cap_session.specs.declared.edit.Edit.TheVariants.{Insert, Delete, Replace}
use Rattle.cap_session.specs.declared.refused.Refused.{Refused}
use Rattle.cap_session.specs.declared.refused.Refused.TheVariants.{LongLine, Shape, Pid, Argument, Right, Answer}
use Rattle.cap_session.specs.declared.refused.Refused.TheVariants.{Position, Full, Memory}

-- What a contract sees of a session.
pub record SessionState : Type 0 where
  -- by what its lines are checked
  pub setting : Setting
  -- its lines
  pub trace : List Entry
  -- how many it may have
  pub limit : ℕ
  -- how many summaries the last edit or load joined from two others
  pub joins : ℕ
  -- what it keeps of its last report: nothing before the first, after a load, where memory was refused, or since its lines
  -- made too many runs
  pub base : Option Base

-- What a contract sees of a trace that is read for a session.
pub record LoadingState : Type 0 where
  pub profile : Profile
  pub trace : List Entry

-- the lines of steps
abbrev pub lines_of : List Step → List Entry
lines_of shared = map (λ (step : Step). step.line) shared

-- each of the steps has the profile
abbrev pub IsIn : Profile → List Step → Type 0
IsIn profile shared = shared ≡ steps profile (lines_of shared)

-- Where a step of today stood then, the same step stood.
abbrev pub StoodThere : List Step → Option ℕ → Step → Type 0
StoodThere before None step = ⊤
StoodThere before (Some position) step = slice_get before (position - 1) ≡ Some step

-- A report that is kept tells what was found in its trace, and each step of today that stood in that is the same.
pub record IsLast (setting : Setting) (now : List Step) (last : LastReport) : Type 0 where
  pub in_profile : IsIn setting.profile last.tree
  pub few : length last.tree ≤ most_lines
  pub found : last.found.items ≡ check (state_before setting) last.tree
  pub stood : AllZip (StoodThere last.tree) last.origins now

-- what callers see of it
abbrev pub base_kept : Option LastReport → Option Base
base_kept None = None
base_kept (Some last) = Some (record { trace = lines_of last.tree; origins = last.origins })

-- What always holds of a session.
pub record IsSession (setting : Setting) (limit : ℕ) (shared : List Step) (last : Option LastReport) : Type 0 where
  pub in_profile : IsIn setting.profile shared
  pub few : length shared ≤ limit
  pub most : limit ≤ most_lines
  pub report : IfSome last (IsLast setting shared)

-- What always holds of steps that a session will take over.
pub record IsKept (profile : Profile) (limit : ℕ) (shared : List Step) : Type 0 where
  pub in_profile : IsIn profile shared
  pub few : length shared ≤ limit
  pub most : limit ≤ most_lines

-- Each finding is at one of the positions 1 to n.
abbrev pub StandWithin : ℕ → List Found → Type 0
StandWithin n found = All (λ (one : Found). (1 ≤ one.at) × (one.at ≤ n)) found

-- how many lines the trees of an edit of n lines have: an inserted line is one of them
abbrev pub lines_at : ℕ → Edit → ℕ
lines_at n (Insert position line) = n + 1
lines_at n (Delete position) = n
lines_at n (Replace position line) = n

-- A refusal other than out of memory is answered exactly where it is what was asked for.
abbrev pub RefusesExactly : Result (List Entry) Refused → Result ℕ Refused → Type 0
RefusesExactly asked result = (e : Refused) → e ≢ Memory → (result ≡ Err e) ↔ (asked ≡ Err e)

-- whether memory ran out, by the answer
abbrev pub is_out_of_memory : Result ℕ Refused → Bool
is_out_of_memory (Ok count) = false
is_out_of_memory (Err Memory) = true
is_out_of_memory (Err LongLine) = false
is_out_of_memory (Err Shape) = false
is_out_of_memory (Err Pid) = false
is_out_of_memory (Err Argument) = false
is_out_of_memory (Err Right) = false
is_out_of_memory (Err Answer) = false
is_out_of_memory (Err Position) = false
is_out_of_memory (Err Full) = false

-- for which edits memory ran out, by their answers
abbrev pub ran_out : List (Result ℕ Refused) → List Bool
ran_out = map is_out_of_memory
