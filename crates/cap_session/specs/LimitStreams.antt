-- What the limits of a trace say of it: the script of limits, which comes in the outcome Clean.
use Rattle.std.specs.Prelude.{◌≡◌, ◌⊎◌, ◌<◌, ℕ, List, [], length, map, Option, Some, None}
use Rattle.cap_trace.specs.Entry.{Entry}
use Rattle.cap_machine.specs.declared.cell.Profile.{Profile}
use Rattle.cap_limits.specs.declared.limits.Limits.{Limits}
use Rattle.cap_limits.specs.declared.limits.LimitsBefore.{LimitsBefore}
use Rattle.cap_limits.specs.declared.limits.LimitsBefore.TheVariants as there
use Rattle.cap_limits.specs.declared.makers.MakerRow.{MakerRow}
use Rattle.cap_limits.specs.Limits.{row_of}
use Rattle.cap_limits.specs.LimitsBefore.{AreLimitsBefore}
use Rattle.cap_limits.specs.Makers.{AreMakerRows}
use Rattle.cap_machine.specs.State.{Added, start_state}
use Rattle.cap_machine.specs.Steps.{steps}
use Rattle.cap_session.specs.AnswerStreams.{Says}
use Rattle.cap_session.specs.LimitScripts.{ScriptLine, script_text, makers_script, process_script, beginning_script}
use Rattle.cap_session.specs.Refusal.{refused_text}
use Rattle.cap_session.specs.declared.outcome.Outcome.TheVariants as outcomes
use Rattle.cap_session.specs.declared.outcome.ExplainOutcome.TheVariants.{Ended, OutOfRange}

-- the script of the limits of a process before line k of a trace
abbrev pub limits_script : List Entry → ℕ → Limits → List ScriptLine
limits_script t k limits = process_script t limits.pid k (map row_of limits.held.items) (map row_of limits.unknown.items)
    limits.entering

-- the script of what may be put in before line k
abbrev pub before_script : List Entry → ℕ → LimitsBefore → List ScriptLine
before_script t k (there.Limits limits) = limits_script t k limits
before_script t k (there.Begins p) = beginning_script p k
before_script t k there.NoLine = []

-- The text is the script of the least rights of each descriptor that the trace makes, from a start in a profile, with a
-- comment on each that isn't known and of which later lines need something.
pub record IsMakersText (profile : Profile) (start : List Added) (t : List Entry) (text : List ℕ) : Type 0 where
  pub rows : List MakerRow
  pub least : AreMakerRows (start_state start) 1 (steps profile t) rows
  pub is : text ≡ script_text (makers_script rows)

-- The text is the script of the least rights of the descriptors of the process of line k, before that line; where the
-- process begins there, it says so.
pub record IsProcessText (profile : Profile) (start : List Added) (t : List Entry) (k : ℕ) (text : List ℕ) : Type 0 where
  pub limits : LimitsBefore
  pub least : AreLimitsBefore profile start t k limits
  pub there_is_one : limits ≡ there.NoLine → ⊥
  pub is : text ≡ script_text (before_script t k limits)

-- after the lines that made descriptors, or before a line
abbrev pub IsLimitsText : Profile → Option ℕ → List Added → List Entry → List ℕ → Type 0
IsLimitsText profile None start t text = IsMakersText profile start t text
IsLimitsText profile (Some k) start t text = IsProcessText profile start t k text

-- a position was asked for at which the trace has no line
abbrev pub IsOutside : Option ℕ → List Entry → Type 0
IsOutside None t = ⊥
IsOutside (Some k) t = (k ≡ 0) ⊎ (length t < k)

-- `refused E7` where the trace has no such line, and else the script
abbrev pub limits_say : Profile → Option ℕ → List Added → Says
limits_say profile at start t (Ended outcomes.Clean) text = IsLimitsText profile at start t text
limits_say profile at start t OutOfRange text = IsOutside at t × (text ≡ refused_text 7)
limits_say profile at start t _ text = ⊥
