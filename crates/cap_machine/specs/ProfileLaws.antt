-- The two profiles side by side: when they report the same, and when profile 1 finds nothing where profile 2 doesn't.
use Rattle.std.specs.Prelude.{◌≡◌, Bool, true, false, ◌&&◌, List, []}
use Rattle.std.specs.List.{list_any}
use Rattle.cap_trace.specs.Item.{Item}
use Rattle.cap_trace.specs.Item as items
use Rattle.cap_trace.specs.Call.{Call}
use Rattle.cap_trace.specs.Call as calls
use Rattle.cap_trace.specs.declared.calls.FdCall.TheVariants.{Fexecve, Closefrom}
use Rattle.cap_trace.specs.declared.calls.PathCall.TheVariants.{Execve}
use Rattle.cap_trace.specs.Entry.{Entry}
use Rattle.cap_machine.specs.declared.cell.Profile.TheVariants.{One, Two}
use Rattle.cap_machine.specs.State.{State}
use Rattle.cap_machine.specs.Steps.{steps}
use Rattle.cap_machine.specs.Touch.{succeeded}
use Rattle.cap_machine.specs.Check.{check}
use Rattle.cap_machine.specs.Report.{report}

-- execve(2), fexecve(2)
abbrev pub is_exec : Call → Bool
is_exec (calls.OnFd Fexecve g) = true
is_exec (calls.OnPath Execve path) = true
is_exec _ = false

-- closefrom(2)
abbrev pub is_closefrom : Call → Bool
is_closefrom (calls.OnFd Closefrom g) = true
is_closefrom _ = false

-- the line records that such a call succeeded
abbrev pub item_did : (Call → Bool) → Item → Bool
item_did such (items.Call call answer) = such call && succeeded answer
item_did such _ = false

abbrev pub did : (Call → Bool) → Entry → Bool
did such line = item_did such line.item

-- no line of the trace does
abbrev pub Never : (Call → Bool) → List Entry → Type 0
Never such trace = list_any (did such) trace ≡ false

-- a trace without a successful execve, fexecve or closefrom has the same report in both profiles, from every state
abbrev pub ProfilesAgree : Type 0
ProfilesAgree = (s : State) (trace : List Entry) → Never is_exec trace → Never is_closefrom trace
    → report s (steps One trace) ≡ report s (steps Two trace)

-- where a trace without a successful closefrom has no finding in profile 2, it has none in profile 1, from every state
abbrev pub NoAlarmLost : Type 0
NoAlarmLost = (s : State) (trace : List Entry) → Never is_closefrom trace → check s (steps Two trace) ≡ []
    → check s (steps One trace) ≡ []
