-- Laws of denials: how they stand to the findings of the same trace, what to add for them, where they stand, and those
-- of a trace that follows another.
use Rattle.std.specs.Prelude.{◌≡◌, ◌≢◌, ◌↔◌, ℕ, ◌+◌, ◌≤◌, ◌⊎◌, Bool, true, false, List, [], ◌∷◌, ◌++◌, length, map}
use Rattle.std.specs.List.{All, Contains}
use Rattle.cap_rights.specs.Rights.{none, join, minus, IsRightSet}
use Rattle.cap_trace.specs.Entry.{Entry}
use Rattle.cap_machine.specs.declared.cell.Cell.TheVariants.{Held}
use Rattle.cap_machine.specs.declared.cell.OnExec.{OnExec}
use Rattle.cap_machine.specs.declared.rule.Reply.{Reply}
use Rattle.cap_machine.specs.declared.rule.Reply.TheVariants.{NotCapable, NotPermitted}
use Rattle.cap_machine.specs.declared.rule.Check.{Check}
use Rattle.cap_machine.specs.declared.step.Step.{Step}
use Rattle.cap_machine.specs.declared.verdict.Finding.TheVariants.{Refusal, ModeRefusal}
use Rattle.cap_machine.specs.declared.denial.Denial.TheVariants.{Lacks, Inside, Unexplained}
use Rattle.cap_machine.specs.declared.denial.Denied.{Denied}
use Rattle.cap_machine.specs.State.{State}
use Rattle.cap_machine.specs.History.{ended}
use Rattle.cap_machine.specs.Rule.{requirement}
use Rattle.cap_machine.specs.Judge.{listed}
use Rattle.cap_machine.specs.Check.{said}
use Rattle.cap_machine.specs.Denials.{lack, denied, denials, denied_at}

-- nothing explains a refusal that a report calls wrong
abbrev pub WrongIsUnexplained : Type 0
WrongIsUnexplained = (s : State) (step : Step)
    → Contains (said step s) Refusal ⊎ Contains (said step s) ModeRefusal → denied step s ≡ Unexplained ∷ []

-- a report has nothing of a step that lacks rights, and of one that was denied inside capability mode
abbrev pub LackingIsRight : Type 0
LackingIsRight = (s : State) (step : Step) (f lacking : ℕ) → Contains (denied step s) (Lacks f lacking)
    → said step s ≡ []

abbrev pub InsideIsRight : Type 0
InsideIsRight = (s : State) (step : Step) → Contains (denied step s) Inside → said step s ≡ []

-- a step has a denial exactly where errno 93 or 94 refused it
abbrev pub is_refused : Reply → Bool
is_refused NotCapable = true
is_refused NotPermitted = true
is_refused _ = false

abbrev pub RefusedIsDenied : Type 0
RefusedIsDenied = (s : State) (step : Step) → (denied step s ≡ []) ↔ (is_refused (requirement step.line).reply ≡ false)

-- each cell that is held has a set of rights
abbrev pub HoldsRightSets : State → Type 0
HoldsRightSets s = (p f rights : ℕ) (flag : OnExec) → s.cell p f ≡ Held rights flag → IsRightSet rights

-- a descriptor that lacks rights lacks some
abbrev pub LackingIsSome : Type 0
LackingIsSome = (s : State) (step : Step) (f lacking : ℕ) → HoldsRightSets s
    → Contains (denied step s) (Lacks f lacking) → lacking ≢ none

-- and lacks none any more once it holds them
abbrev pub LackingIsEnough : Type 0
LackingIsEnough = (line : Entry) → All (λ (check : Check). (rights : ℕ) (flag : OnExec) → IsRightSet rights
    → lack check (Held (join rights (minus check.needs rights)) flag) ≡ []) (listed (requirement line).checks)

-- each denial is at a position of the trace, from 1
abbrev pub DenialsWithin : Type 0
DenialsWithin = (s : State) (trace : List Step)
    → All (λ (denied : Denied). (1 ≤ denied.at) × (denied.at ≤ length trace)) (denials s trace)

-- a denial n positions later
abbrev pub denied_later : ℕ → Denied → Denied
denied_later n denied = record { at = n + denied.at; denial = denied.denial }

-- the denials of t followed by u are those of t, and those of u from the state after t
abbrev pub DenialsInTurn : Type 0
DenialsInTurn = (s : State) (t u : List Step)
    → denials s (t ++ u) ≡ denials s t ++ map (denied_later (length t)) (denials (ended s t) u)

-- the denials of t followed by one step are those of t, and what was lacking for the step in the state after t
abbrev pub DenialsOneMore : Type 0
DenialsOneMore = (s : State) (t : List Step) (step : Step)
    → denials s (t ++ step ∷ []) ≡ denials s t ++ map (denied_at (length t + 1)) (denied step (ended s t))
