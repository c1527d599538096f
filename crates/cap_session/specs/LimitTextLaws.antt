-- What `edit` makes of the script that `limits` answers: each line of it is accepted; no line has a finding that it didn't
-- have before; and with any right less, some line has one.
use Rattle.std.specs.Prelude.{◌≡◌, ℕ, ◌+◌, ◌<◌, ◌≤◌, nat_lt, if◌then◌else◌, List, [], ◌∷◌, ◌++◌, length, map}
use Rattle.std.specs.Prelude.{Ok, true, false}
use Rattle.std.specs.List.{All, IsAmong}
use Rattle.cap_rights.specs.Rights.{holds}
use Rattle.cap_trace.specs.Entry.{Entry, IsFd}
use Rattle.cap_trace.specs.Spelling.{IsProper}
use Rattle.cap_machine.specs.declared.cell.Cell.{Cell}
use Rattle.cap_machine.specs.declared.cell.Cell.TheVariants.{Unknown, Closed, Held}
use Rattle.cap_machine.specs.declared.cell.Profile.{Profile}
use Rattle.cap_limits.specs.declared.limits.Limits.{Limits}
use Rattle.cap_limits.specs.declared.limits.LimitsBefore.{LimitsBefore}
use Rattle.cap_limits.specs.declared.limits.LimitsBefore.TheVariants as there
use Rattle.cap_limits.specs.declared.limits.Entering.TheVariants.{Blocked}
use Rattle.cap_limits.specs.declared.makers.MakerLimit.{MakerLimit}
use Rattle.cap_limits.specs.declared.makers.MakerRow.{MakerRow}
use Rattle.cap_limits.specs.declared.makers.MakerRow.TheVariants as made
use Rattle.cap_machine.specs.declared.verdict.Finding.TheVariants.{Forbidden}
use Rattle.cap_machine.specs.declared.verdict.Found.{Found}
use Rattle.cap_machine.specs.Check.{check, found_at}
use Rattle.cap_limits.specs.LimitLaws.{NewlyLacks}
use Rattle.cap_limits.specs.Limits.{Row, row_of}
use Rattle.cap_limits.specs.LimitsBefore.{AreLimitsBefore}
use Rattle.cap_limits.specs.Makers.{AreMakerRows, place_of}
use Rattle.cap_machine.specs.State.{Added, start_state}
use Rattle.cap_machine.specs.Steps.{steps}
use Rattle.cap_session.specs.Limits.{most_lines}
use Rattle.cap_session.specs.Lines.{lines}
use Rattle.cap_session.specs.LimitScriptLaws.{Accepts, IsNamed, all_ok, with_script}
use Rattle.cap_session.specs.LimitScripts.{ScriptLine, insertion, limit_line, enter_line, script_text}
use Rattle.cap_session.specs.LimitScripts.{makers_script, insertions, entering_line}
use Rattle.cap_session.specs.LimitStreams.{limits_script, before_script}
use Rattle.cap_session.specs.Replies.{ScriptState, begun}
use Rattle.cap_session.specs.Scripts.{Run}
use Rattle.cap_session.specs.StartTexts.{described_by}
use Rattle.cap_session.specs.Trace.{trace}
use Rattle.cap_session.specs.declared.session.Setting.{Setting}

-- ---- what was read

-- a trace whose lines can be spelled, and which isn't too long
abbrev pub IsTrace : List Entry → Type 0
IsTrace t = All IsProper t × (length t ≤ most_lines)

-- the rights of a held descriptor are a set that some text names
abbrev pub IsNamedCell : Cell → Type 0
IsNamedCell Unknown = Unit {0}
IsNamedCell Closed = Unit {0}
IsNamedCell (Held rights flag) = IsNamed rights

abbrev pub IsListedCell : ℕ × Cell → Type 0
IsListedCell entry = IsFd entry.0 × IsNamedCell entry.1

-- a start whose descriptors and rights can be spelled
abbrev pub IsSpelledStart : List Added → Type 0
IsSpelledStart start = All (λ (added : Added). IsNamedCell added.rest × All IsListedCell added.cells) start

-- what is read of a text is so
abbrev pub TracesAreSpelled : Type 0
TracesAreSpelled = (text : List ℕ) (t : List Entry) → trace text ≡ Ok t → IsTrace t

abbrev pub StartsAreSpelled : Type 0
StartsAreSpelled = (text : List ℕ) (start : List Added) → described_by text ≡ Ok start → IsSpelledStart start

-- ---- the script is accepted

-- Each line of the script is accepted, up to the first for which the trace is full or memory ran out. Where none is
-- refused, the trace that is left is the old one with the lines of the script in it.
abbrev pub EditAccepts : List Entry → List ScriptLine → Type 0
EditAccepts t script = (setting : Setting) (left : ScriptState) (replies : List ℕ)
    → Run setting (begun t) (lines (script_text script)) replies left
    → Accepts t script replies left.trace × (replies ≡ all_ok t script → left.trace ≡ with_script t script)

abbrev pub LimitsBeforeAreAccepted : Type 0
LimitsBeforeAreAccepted = (profile : Profile) (start : List Added) (t : List Entry) (k : ℕ) (limits : LimitsBefore)
    → IsSpelledStart start → IsTrace t → AreLimitsBefore profile start t k limits
    → EditAccepts t (before_script t k limits)

abbrev pub MakerLimitsAreAccepted : Type 0
MakerLimitsAreAccepted = (profile : Profile) (start : List Added) (t : List Entry) (rows : List MakerRow)
    → IsSpelledStart start → IsTrace t → AreMakerRows (start_state start) 1 (steps profile t) rows
    → EditAccepts t (makers_script rows)

-- ---- before a line

abbrev pub is_insertion : ScriptLine → ℕ
is_insertion (insertion at line) = 1
is_insertion _ = 0

-- how many lines a script puts in
abbrev pub lines_put : List ScriptLine → ℕ
lines_put [] = 0
lines_put (line ∷ more) = is_insertion line + lines_put more

-- where a finding is after so many lines were put in before line k
abbrev pub moved : ℕ → ℕ → Found → Found
moved k n found = record { at = if nat_lt found.at k then found.at else found.at + n; finding = found.finding }

-- a check of the trace from the start
abbrev pub checked : Profile → List Added → List Entry → List Found
checked profile start t = check (start_state start) (steps profile t)

-- Enough: with the script in it, the trace has only findings that it had before, at the lines where they were.
abbrev pub LimitsBeforeAreEnough : Type 0
LimitsBeforeAreEnough = (profile : Profile) (start : List Added) (t : List Entry) (k : ℕ) (limits : Limits)
    → IsSpelledStart start → IsTrace t → AreLimitsBefore profile start t k (there.Limits limits)
    → let script = limits_script t k limits in
    All (IsAmong (map (moved k (lines_put script)) (checked profile start t)))
    (checked profile start (with_script t script))

-- the lines that the script puts in, with these rows
abbrev pub lines_before : List Entry → ℕ → Limits → List Row → List ScriptLine
lines_before t k limits rows = insertions k (map (limit_line limits.pid) rows)
    ++ entering_line t limits.pid (k + length rows) limits.entering ∷ []

-- Least: with any right less in any row, and all else unchanged, some line has a finding that names the right and that it
-- hadn't before.
abbrev pub LimitsBeforeAreLeast : Type 0
LimitsBeforeAreLeast = (profile : Profile) (start : List Added) (t : List Entry) (k : ℕ) (limits : Limits)
    (some more : List Row) (f rights fewer right : ℕ)
    → IsSpelledStart start → IsTrace t → AreLimitsBefore profile start t k (there.Limits limits)
    → map row_of limits.held.items ≡ some ++ (f, rights) ∷ more
    → right < 63 → holds rights right ≡ true → holds fewer right ≡ false
    → NewlyLacks (checked profile start (with_script t (lines_before t k limits (some ++ (f, fewer) ∷ more))))
    (map (moved k (lines_put (limits_script t k limits))) (checked profile start t)) right

-- Entering: where a line is in the way, that line is forbidden once the process has entered, and wasn't before.
abbrev pub EnteringBeforeIsForbidden : Type 0
EnteringBeforeIsForbidden = (profile : Profile) (start : List Added) (t : List Entry) (k n : ℕ) (limits : Limits)
    → IsSpelledStart start → IsTrace t → AreLimitsBefore profile start t k (there.Limits limits)
    → limits.entering ≡ Blocked n
    → IsAmong (checked profile start (with_script t (insertion k (enter_line limits.pid) ∷ []))) (found_at (n + 1) Forbidden)
    × (IsAmong (checked profile start t) (found_at n Forbidden) → ⊥)

-- ---- after each line that made a descriptor

-- where a finding is after the limits were put in, each after its line; a comment puts nothing in
abbrev pub lines_above : List MakerRow → ℕ → ℕ
lines_above [] at = 0
lines_above (made.Held limit ∷ more) at = (if nat_lt limit.at at then 1 else 0) + lines_above more at
lines_above (made.Unknown limit ∷ more) at = lines_above more at

abbrev pub moved_down : List MakerRow → Found → Found
moved_down rows found = record { at = found.at + lines_above rows found.at; finding = found.finding }

abbrev pub MakerLimitsAreEnough : Type 0
MakerLimitsAreEnough = (profile : Profile) (start : List Added) (t : List Entry) (rows : List MakerRow)
    → IsSpelledStart start → IsTrace t → AreMakerRows (start_state start) 1 (steps profile t) rows
    → All (IsAmong (map (moved_down rows) (checked profile start t)))
    (checked profile start (with_script t (makers_script rows)))

-- Least: with any right less in any of the limits, and all others as they are, some line, or a later limit, newly lacks it.
abbrev pub MakerLimitsAreLeast : Type 0
MakerLimitsAreLeast = (profile : Profile) (start : List Added) (t : List Entry) (some more : List MakerRow)
    (limit less : MakerLimit) (right : ℕ)
    → IsSpelledStart start → IsTrace t
    → AreMakerRows (start_state start) 1 (steps profile t) (some ++ made.Held limit ∷ more)
    → place_of less ≡ place_of limit
    → right < 63 → holds limit.rights right ≡ true → holds less.rights right ≡ false
    → NewlyLacks (checked profile start (with_script t (makers_script (some ++ made.Held less ∷ more))))
    (checked profile start (with_script t (makers_script (some ++ made.Held limit ∷ more)))) right
