-- Limits to the live rights, put in at one place of a trace: they are enough, and no less would do.
use Rattle.std.specs.Prelude.{◌≡◌, ℕ, suc, ◌<◌, ◌≤◌, true, false, Bool, if◌then◌else◌, List, [], ◌∷◌, ◌++◌}
use Rattle.std.specs.Prelude.{map}
use Rattle.std.specs.List.{All, IsAmong}
use Rattle.cap_rights.specs.Rights.{all, holds}
use Rattle.cap_trace.specs.Item as items
use Rattle.cap_trace.specs.Call as calls
use Rattle.cap_trace.specs.declared.line.Answer.TheVariants as answers
use Rattle.cap_trace.specs.declared.calls.BareCall.TheVariants.{CapEnter}
use Rattle.cap_machine.specs.declared.cell.Profile.{Profile}
use Rattle.cap_machine.specs.declared.cell.OnExec.{OnExec}
use Rattle.cap_machine.specs.declared.cell.Cell.TheVariants.{Held}
use Rattle.cap_machine.specs.declared.cell.Mode.TheVariants.{Inside}
use Rattle.cap_machine.specs.declared.step.Step.{Step}
use Rattle.cap_machine.specs.declared.verdict.Finding.{Finding}
use Rattle.cap_machine.specs.declared.verdict.Finding.TheVariants as say
use Rattle.cap_machine.specs.declared.verdict.Found.{Found}
use Rattle.cap_machine.specs.State.{State}
use Rattle.cap_machine.specs.Steps.{step}
use Rattle.cap_machine.specs.History.{ended}
use Rattle.cap_machine.specs.Check.{check, said, found_at}
use Rattle.cap_limits.specs.Live.{Live, Blocks}
use Rattle.cap_limits.specs.Limits.{Row, IsLimit}

-- process p limits a descriptor, and enters capability mode
abbrev pub limit_step : Profile → ℕ → Row → Step
limit_step profile p row = step profile
    (record { pid = p; item = items.Call (calls.RightsLimit row.0 row.1) (answers.Made 0) })

abbrev pub enter_step : Profile → ℕ → Step
enter_step profile p = step profile (record { pid = p; item = items.Call (calls.Bare CapEnter) (answers.Made 0) })

abbrev pub script : Profile → ℕ → List Row → Bool → List Step
script profile p rows enters =
    map (limit_step profile p) rows ++ (if enters then enter_step profile p ∷ [] else [])

abbrev pub MayEnter : State → List Step → ℕ → Type 0
MayEnter s later p = (n : ℕ) → Blocks later p n → ⊥

-- each held cell of the state holds a set of rights
abbrev pub HoldsSets : State → Type 0
HoldsSets s = (p f rights : ℕ) (flag : OnExec) → s.cell p f ≡ Held rights flag → rights ≤ all

-- Enough: the lines of the script have no finding, and each later finding was there without it.
abbrev pub LimitsAreEnough : Type 0
LimitsAreEnough = (profile : Profile) (s : State) (later : List Step) (p : ℕ) (rows : List Row) (enters : Bool)
    → HoldsSets s → All (IsLimit s later p) rows → (enters ≡ true → MayEnter s later p)
    → (check s (script profile p rows enters) ≡ [])
    × All (IsAmong (check s later)) (check (ended s (script profile p rows enters)) later)

-- a finding that lacks right k of a descriptor
abbrev pub Lacks : Finding → ℕ → ℕ → Type 0
Lacks (say.Missing f rights) g k = (f ≡ g) × (holds rights k ≡ true)
Lacks (say.Expanded f rights) g k = (f ≡ g) × (holds rights k ≡ true)
Lacks _ g k = ⊥

-- Some finding of the first list lacks right k of a descriptor, and at its position none of the second list does.
abbrev pub NewlyLacks : List Found → List Found → ℕ → Type 0
NewlyLacks new old k = (found : Found) × (g : ℕ) × IsAmong new found × Lacks found.finding g k
    × ((other : Found) → IsAmong old other → other.at ≡ found.at → Lacks other.finding g k → ⊥)

-- Least: in a state that lacks one live right of one held descriptor and is else arbitrary in what it holds, a later
-- line lacks that right, and didn't before. So no right can be left out of a row, whatever the other rows are.
abbrev pub LimitsAreLeast : Type 0
LimitsAreLeast = (s less : State) (later : List Step) (p f rights fewer k : ℕ) (flag : OnExec)
    → HoldsSets s → HoldsSets less → k < 63 → s.cell p f ≡ Held rights flag → holds rights k ≡ true
    → Live later p f flag k
    → less.cell p f ≡ Held fewer flag → holds fewer k ≡ false
    → NewlyLacks (check less later) (check s later) k

-- So of one row of a script, among all others: with right k less in it, a later line lacks that right, and didn't
-- before.
abbrev pub ScriptsAreLeast : Type 0
ScriptsAreLeast = (profile : Profile) (s : State) (later : List Step) (p : ℕ) (some more : List Row) (enters : Bool)
    (f rights fewer k : ℕ) → HoldsSets s → k < 63 → All (IsLimit s later p) (some ++ (f, rights) ∷ more)
    → holds rights k ≡ true → holds fewer k ≡ false
    → NewlyLacks (check (ended s (script profile p (some ++ (f, fewer) ∷ more) enters)) later) (check s later) k

-- Entering: where a later line is in the way, that line is forbidden with the process inside, and wasn't before.
abbrev pub BlockedIsForbidden : Type 0
BlockedIsForbidden = (s inside : State) (later : List Step) (p n : ℕ)
    → Blocks later p n → (s.mode p ≡ Inside → ⊥) → inside.mode p ≡ Inside
    → IsAmong (check inside later) (found_at (suc n) say.Forbidden)
    × (IsAmong (check s later) (found_at (suc n) say.Forbidden) → ⊥)

-- so after a script that enters
abbrev pub EnteringIsForbidden : Type 0
EnteringIsForbidden = (profile : Profile) (s : State) (later : List Step) (p : ℕ) (rows : List Row) (n : ℕ)
    → Blocks later p n → (s.mode p ≡ Inside → ⊥)
    → IsAmong (check (ended s (script profile p rows true)) later) (found_at (suc n) say.Forbidden)
    × (IsAmong (check s later) (found_at (suc n) say.Forbidden) → ⊥)

-- ---- limits at many places: each step of a trace with the rows that are put in right after it, for its own process

abbrev pub Limited : Type 0
Limited = Step × List Row

abbrev pub limits_after : Profile → Limited → List Step
limits_after profile place = map (limit_step profile place.0.line.pid) place.1

abbrev pub without_limits : List Limited → List Step
without_limits places = map (λ (place : Limited). place.0) places

abbrev pub with_limits : Profile → List Limited → List Step
with_limits profile [] = []
with_limits profile (place ∷ places) = place.0 ∷ limits_after profile place ++ with_limits profile places

-- each row limits a descriptor, which is held after the step in the trace without limits, to its live rights there
abbrev pub AreLimits : State → List Limited → Type 0
AreLimits s [] = Unit {0}
AreLimits s (place ∷ places) =
    let next = ended s (place.0 ∷ []) in
    All (IsLimit next (without_limits places) place.0.line.pid) place.1 × AreLimits next places

-- Both traces side by side, from a state without and one with limits: each step has only findings that it has without
-- limits, and the limits after it have none.
abbrev pub NoneNew : Profile → State → State → List Limited → Type 0
NoneNew profile old new [] = Unit {0}
NoneNew profile old new (place ∷ places) =
    All (IsAmong (said place.0 old)) (said place.0 new)
    × (check (ended new (place.0 ∷ [])) (limits_after profile place) ≡ [])
    × NoneNew profile (ended old (place.0 ∷ [])) (ended new (place.0 ∷ limits_after profile place)) places

abbrev pub AllLimitsAreEnough : Type 0
AllLimitsAreEnough = (profile : Profile) (s : State) (places : List Limited) → HoldsSets s → AreLimits s places
    → NoneNew profile s s places

-- Least, of one row among all others: with right k less in it, a line of the trace with limits, or a later limit, newly
-- lacks that right.
abbrev pub AllLimitsAreLeast : Type 0
AllLimitsAreLeast = (profile : Profile) (s : State) (before after : List Limited) (step : Step) (some more : List Row)
    (f rights fewer k : ℕ) → HoldsSets s → k < 63
    → AreLimits s (before ++ (step, some ++ (f, rights) ∷ more) ∷ after)
    → holds rights k ≡ true → holds fewer k ≡ false
    → NewlyLacks (check s (with_limits profile (before ++ (step, some ++ (f, fewer) ∷ more) ∷ after)))
    (check s (with_limits profile (before ++ (step, some ++ (f, rights) ∷ more) ∷ after))) k
