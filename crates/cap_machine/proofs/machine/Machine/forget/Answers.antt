use Rattle.std.specs.Prelude.{[]}
use Rattle.std.proofs.Common.{◌≡◌, ap, sym, ◌∙◌}
use Rattle.std.proofs.lemmas.Result.{on_ok_weaker}
use Rattle.cap_machine.specs.declared.cell.Cell.TheVariants.{Unknown}
use Rattle.cap_machine.specs.declared.cell.Mode.TheVariants.{Unsure}
use Rattle.cap_machine.specs.Code.Table.{state_of}
use Rattle.cap_machine.specs.declared.table.Table.{Table}
use Rattle.cap_machine.proofs.Unknowns.{keeps}
use Rattle.cap_machine.specs.State.{State, start_state, with_listed}
use Rattle.cap_machine.proofs.KnownTables.{state_known}
use Rattle.cap_machine.proofs.OneMore.{state_kept}
use Rattle.cap_machine.proofs.machine.Machine.forget.Goals as goal

pub returns-then-not-knows : goal.returns-then-not-knows
returns-then-not-knows c =
    let table : Table = c.self.inside.table in
    let before : state_of table ≡ start_state c.args.self.now = sym (state_known table) ∙ ap start_state c.self.view_is in
    sym before
    ∙ state_kept table (with_listed (state_of table) c.args.pid Unsure Unknown [])
    (keeps table c.args.pid (c.knows.ensures c.if-not-knows.true))
    ∙ ap (λ (s : State). with_listed s c.args.pid Unsure Unknown []) before

pub returns : goal.returns
returns c =
    let before : state_of c.self.inside.table ≡ start_state c.args.self.now =
    sym (state_known c.self.inside.table) ∙ ap start_state c.self.view_is in
    let now = c.forget.new.self in
    on_ok_weaker c.forget.result
    (λ keeps. state_known now
    ∙ state_kept now (with_listed (state_of c.self.inside.table) c.args.pid Unsure Unknown []) keeps
    ∙ ap (λ (s : State). with_listed s c.args.pid Unsure Unknown []) before)
    c.forget.ensures
