-- What the cells hold: in each state of a trace from a start, which can both be spelled, sets of rights that are
-- closed.
use Rattle.std.proofs.Common.{◌≡◌, ℕ, ◌≤◌, ◌==◌, Bool, true, false, if◌then◌else◌, List, [], ◌∷◌, ◌++◌, sym, subst}
use Rattle.std.proofs.Common.{arith, reverse, Option, Some, None}
use Rattle.std.specs.List.{All}
use Rattle.std.proofs.lemmas.List.{reverse-append}
use Rattle.std.proofs.lemmas.List.Elements.{All-head, All-tail}
use Rattle.cap_rights.specs.Rights.{all}
use Rattle.cap_rights.proofs.Again.{reads_sets}
use Rattle.cap_rights.proofs.Members.{set_lt}
use Rattle.cap_trace.specs.Entry.{Entry}
use Rattle.cap_trace.specs.Spelling.{IsProper}
use Rattle.cap_machine.specs.declared.cell.Cell.{Cell}
use Rattle.cap_machine.specs.declared.cell.Cell.TheVariants.{Unknown, Closed, Held}
use Rattle.cap_machine.specs.declared.cell.OnExec.{OnExec}
use Rattle.cap_machine.specs.declared.cell.OnExec.TheVariants as flags
use Rattle.cap_machine.specs.declared.cell.HeldOp.{HeldOp}
use Rattle.cap_machine.specs.declared.cell.HeldOp.TheVariants.{Becomes, Keeps}
use Rattle.cap_machine.specs.declared.cell.Op.{Op}
use Rattle.cap_machine.specs.declared.cell.Profile.{Profile}
use Rattle.cap_machine.specs.declared.step.Step.{Step}
use Rattle.cap_machine.specs.History.{touched, after, ended, step_after}
use Rattle.cap_limits.specs.LimitLaws.{HoldsSets}
use Rattle.cap_machine.specs.Op.{applied, held, masked}
use Rattle.cap_machine.specs.State.{State, Added, usual, listed_cell, with_listed, with_all, start_state}
use Rattle.cap_machine.specs.Steps.{steps}
use Rattle.cap_machine.specs.Touch.{Touch, kept, given, taken, touch}
use Rattle.cap_limits.proofs.LimitSets.{holds_sets_after}
use Rattle.cap_session.specs.LimitTextLaws.{IsNamedCell, IsListedCell, IsSpelledStart}
use Rattle.cap_session.proofs.ClosedSets.{IsClosed, named_closed, meet_closed}
use Rattle.cap_session.proofs.FineLines.{FineLine, line_fine}
use Rattle.cap_session.proofs.FineTouches.{ClosedCell, ClosedMask, ClosedHeld, ClosedOp, FineTouch, KeepsNone}
use Rattle.cap_session.proofs.FineTouches.{touch_fine}

-- ---- the lines of a trace

abbrev pub AllFine : List Step → Type 0
AllFine [] = Unit {0}
AllFine (step ∷ more) = FineLine step.line × AllFine more

pub all_fine : (profile : Profile) (t : List Entry) → All IsProper t → AllFine (steps profile t)
all_fine profile [] are = tt
all_fine profile (line ∷ more) are =
    (line_fine line (All-head IsProper line more are), all_fine profile more (All-tail IsProper line more are))

fine_both : (a b : List Step) → AllFine a → AllFine b → AllFine (a ++ b)
fine_both [] b first second = second
fine_both (step ∷ a) b first second = (first.0, fine_both a b first.1 second)

pub fine_back : (t : List Step) → AllFine t → AllFine (reverse t)
fine_back [] are = tt
fine_back (step ∷ more) are =
    subst AllFine (sym (reverse-append (step ∷ []) more)) (fine_both (reverse more) (step ∷ []) (fine_back more are.1)
    (are.0, tt))

-- ---- closed sets

masked_closed : (mask : Option ℕ) (rights : ℕ) → ClosedMask mask → IsClosed rights → IsClosed (masked mask rights)
masked_closed None rights is closed = closed
masked_closed (Some mask) rights is closed = meet_closed rights mask closed is

held_closed : (op : HeldOp) (rights : ℕ) → ClosedHeld op → IsClosed rights → ClosedCell (held op rights)
held_closed (Becomes c) rights is closed = is
held_closed (Keeps mask flag) rights is closed = masked_closed mask rights is closed

applied_closed : (op : Op) (c : Cell) → ClosedOp op → ClosedCell c → ClosedCell (applied op c)
applied_closed op Unknown is closed = is.0
applied_closed op Closed is closed = is.1
applied_closed op (Held rights flags.Set) is closed = held_closed op.set rights is.2 closed
applied_closed op (Held rights flags.Clear) is closed = held_closed op.clear rights is.3 closed
applied_closed op (Held rights flags.Unsure) is closed = held_closed op.unsure rights is.4 closed

abbrev pub ClosedState : State → Type 0
ClosedState s = (p f : ℕ) → ClosedCell (s.cell p f)

touched_closed : (Every : Type 0) (t : Touch) (s : State) (p f : ℕ) → FineTouch Every f t → ClosedState s
    → ClosedCell (touched t s.cell p f)
touched_closed Every kept s p f fine closed = closed p f
touched_closed Every (given c) s p f fine closed = fine.0
touched_closed Every (taken op q g) s p f fine closed = applied_closed op (s.cell q g) fine.0 (closed q g)

pub closed_after : (step : Step) (s : State) → FineLine step.line → ClosedState s → ClosedState (step_after step s)
closed_after step s fine closed p f =
    touched_closed (KeepsNone step p) (touch step p f) s p f (touch_fine step p f fine) closed

closed_back : (s : State) (history : List Step) → AllFine history → ClosedState s → ClosedState (after s history)
closed_back s [] are closed = closed
closed_back s (step ∷ history) are closed =
    closed_after step (after s history) are.0 (closed_back s history are.1 closed)

pub closed_along : (s : State) (t : List Step) → AllFine t → ClosedState s → ClosedState (ended s t)
closed_along s t are closed = closed_back s (reverse t) (fine_back t are) closed

-- ---- sets

holds_sets_back : (s : State) (history : List Step) → HoldsSets s → HoldsSets (after s history)
holds_sets_back s [] sets = sets
holds_sets_back s (step ∷ history) sets = holds_sets_after step (after s history) (holds_sets_back s history sets)

-- in each state of a trace held cells hold sets of rights, where they do at its start
pub holds_sets_along : (s : State) (trace : List Step) → HoldsSets s → HoldsSets (ended s trace)
holds_sets_along s trace sets = holds_sets_back s (reverse trace) sets

-- ---- a start

-- what it says of a process
abbrev pub IsSpelledAdded : Added → Type 0
IsSpelledAdded added = IsNamedCell added.rest × All IsListedCell added.cells

module _ (Is : Cell → Type 0) (named : (c : Cell) → IsNamedCell c → Is c) where
  listed_is : (rest : Cell) (cells : List (ℕ × Cell)) (f : ℕ) → Is rest → All IsListedCell cells
      → Is (listed_cell rest cells f)
  listed_is rest [] f is are = is
  listed_is rest (entry ∷ more) f is are =
      listed_is (if f == entry.0 then entry.1 else rest) more f
      (by (f == entry.0) (named entry.1 (All-head IsListedCell entry more are).1))
      (All-tail IsListedCell entry more are)
    where
      by : (b : Bool) → Is entry.1 → Is (if b then entry.1 else rest)
      by true this = this
      by false this = is

  all_are : (s : State) (start : List Added) → IsSpelledStart start → ((p f : ℕ) → Is (s.cell p f)) → (p f : ℕ)
      → Is ((with_all s start).cell p f)
  all_are s [] are is p f = is p f
  all_are s (next ∷ more) are is p f =
      let spelled = All-head IsSpelledAdded next more are in
      all_are (with_listed s next.pid next.mode next.rest next.cells) more
      (All-tail IsSpelledAdded next more are)
      (λ q g. by (q == next.pid) (listed_is next.rest next.cells g (named next.rest spelled.0) spelled.1) (is q g)) p f
    where
      by : (b : Bool) {c d : Cell} → Is c → Is d → Is (if b then c else d)
      by true one other = one
      by false one other = other

  start_is : (start : List Added) → IsSpelledStart start → Is Unknown → (p f : ℕ) → Is ((start_state start).cell p f)
  unfolding start_state
  start_is start are is p f = all_are usual start are (λ q g. is) p f

cell_closed : (c : Cell) → IsNamedCell c → ClosedCell c
cell_closed Unknown is = tt
cell_closed Closed is = tt
cell_closed (Held rights flag) is = named_closed is.0 rights is.1

pub start_closed : (start : List Added) → IsSpelledStart start → ClosedState (start_state start)
start_closed start are p f = start_is ClosedCell cell_closed start are tt p f

abbrev HoldsSet : Cell → Type 0
HoldsSet c = (rights : ℕ) (flag : OnExec) → c ≡ Held rights flag → rights ≤ all

cell_set : (c : Cell) → IsNamedCell c → HoldsSet c
cell_set Unknown is rights flag e = absurd (cc)
cell_set Closed is rights flag e = absurd (cc)
cell_set (Held held flag) is rights other e =
    let same : held ≡ rights = cc in
    let set = set_lt held (reads_sets is.0 held is.1) in
    omega (arith, set, same)

pub start_holds_sets : (start : List Added) → IsSpelledStart start → HoldsSets (start_state start)
start_holds_sets start are p f = start_is HoldsSet cell_set start are (λ rights flag e. absurd (cc)) p f
