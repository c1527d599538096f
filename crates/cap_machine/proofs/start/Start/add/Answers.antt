use Rattle.std.proofs.Common.{◌≡◌, ℕ, List, map, ap, sym, ◌∙◌, subst}
use Rattle.cap_machine.specs.declared.cell.Cell.{Cell}
use Rattle.cap_machine.specs.declared.start.Entry.{Entry}
use Rattle.cap_machine.specs.State.{State, Added, with_listed}
use Rattle.cap_machine.specs.Code.Table.{state_of, Keeps}
use Rattle.cap_machine.specs.State.{start_state}
use Rattle.cap_machine.specs.Code.Starts.{added_by}
use Rattle.cap_machine.proofs.OneMore.{state_kept, kept_state}
use Rattle.cap_machine.proofs.Starts.{state_added}
use Rattle.cap_machine.proofs.start.Start.add.Goals as goal

pub invariant_of-self-2 : goal.invariant_of-self-2
invariant_of-self-2 c =
    let entry : Entry = record { pid = c.args.pid; mode = c.args.mode; rest = c.args.rest; cells = c.args.cells } in
    let before : List Entry = c.self.inside.added.items in
    let now : List Entry = c.push_reserved.new.self.items in
    let put : State → List (ℕ × Cell) → State = λ s cells. with_listed s c.args.pid c.args.mode c.args.rest cells in
    let was : state_of c.self.inside.table ≡ start_state (map added_by before) =
    state_kept c.self.inside.table (start_state (map added_by before)) c.self.invariant in
    let kept : Keeps c.add.new.self (put (state_of c.self.inside.table) c.args.cells.items) =
    subst (λ (r : List (ℕ × Cell)). Keeps c.add.new.self (put (state_of c.self.inside.table) r)) c.deref.ensures.value
    c.in_ok-add.ensures.ok in
    kept_state c.add.new.self (start_state (map added_by now))
    (state_kept c.add.new.self (put (state_of c.self.inside.table) c.args.cells.items) kept
    ∙ ap (λ (s : State). put s c.args.cells.items) was
    ∙ sym (state_added before c.reserve.new.self.items now entry c.in_ok-reserve.ensures.items
    c.push_reserved.ensures.items))

pub returns-clause-ok : goal.returns-clause-ok
returns-clause-ok c =
    let entry : Entry = record { pid = c.args.pid; mode = c.args.mode; rest = c.args.rest; cells = c.args.cells } in
    state_added c.self.inside.added.items c.reserve.new.self.items c.push_reserved.new.self.items entry
    c.in_ok-reserve.ensures.items c.push_reserved.ensures.items
    ∙ ap (λ (r : List Added). with_listed (start_state r) c.args.pid c.args.mode c.args.rest c.args.cells.items)
    c.self.view_is
