use Rattle.std.proofs.Common.{◌≡◌, ℕ, ◌+◌, List, refl, ap, sym, ◌∙◌, subst, length, map}
use Rattle.cap_machine.specs.declared.cell.OnExec.TheVariants.{Unsure}
use Rattle.cap_machine.specs.declared.cell.Cell.{Cell}
use Rattle.cap_machine.specs.declared.step.Step.{Step}
use Rattle.cap_machine.specs.State.{State}
use Rattle.cap_machine.specs.Steps.{steps}
use Rattle.cap_machine.specs.History.{ended}
use Rattle.cap_machine.specs.State.{start_state}
use Rattle.cap_limits.specs.Limits.{Row, IsLimit}
use Rattle.cap_limits.specs.Limits.{row_of, IsEntering}
use Rattle.cap_limits.specs.LimitsBefore.{rows_name, IsUnknownLimit}
use Rattle.cap_limits.specs.Standing.{IsHeld}
use Rattle.cap_limits.specs.Code.Wanted.{rights_of, wanted}
use Rattle.cap_limits.specs.Code.Unknown.{unknown_rows, AreUnknownRows}
use Rattle.cap_limits.proofs.RowOrder.{in_order}
use Rattle.cap_limits.proofs.UnknownRows.{rows_are, rows_in_order, unknown_are}
use Rattle.std.specs.List.{All}
use Rattle.cap_limits.proofs.StandingRows.{rows_named}
use Rattle.cap_limits.proofs.limits.limits_of.Goals as goal

pub returns : goal.returns
returns c =
    let s : State = ended (start_state c.args.start.now) (steps c.args.profile c.args.before.now) in
    let later : List Step = steps c.args.profile c.args.later.now in
    let is : start_state c.in_ok-machine.machine ≡ s = c.in_ok-machine.ensures in
    let rows : List Row = map row_of c.in_ok-held.held.items in
    let cells : ℕ → Cell = (start_state c.in_ok-machine.machine).cell c.args.pid in
    let needed : ℕ → ℕ = λ f. rights_of c.into_until_exec.result f Unsure in
    let are : AreUnknownRows cells needed (map row_of c.in_ok-unknown.unknown.items) =
    subst (AreUnknownRows cells needed) (sym c.in_ok-unknown.ensures.rows)
    (rows_are cells c.into_until_exec.result c.in_ok-unknown.ensures.sorted) in
    let unknown = unknown_are (start_state c.in_ok-machine.machine) later c.args.pid (wanted c.in_ok-live.live c.args.pid)
    needed (map row_of c.in_ok-unknown.unknown.items) c.into_until_exec.ensures
    (c.in_ok-live.ensures.rights c.args.pid) are in
    record {
      pid = refl;
      least = subst (λ (u : State). All (IsLimit u later c.args.pid) rows) is
          (c.in_ok-held.ensures.limits later c.in_ok-live.ensures.rights);
      held_in_order = c.in_ok-held.ensures.in_order;
      standing = λ f held.
          let named = ap (λ (r : List Row). rows_name r f) c.in_ok-held.ensures.rows
          ∙ rows_named (start_state c.in_ok-machine.machine) (wanted c.in_ok-live.live) c.args.pid
          c.in_ok-fds.fds.keys f (subst (λ (u : State). IsHeld (u.cell c.args.pid f)) (sym is) held) in
          let stands = c.in_ok-fds.ensures f held in
          (λ h. stands.0 (sym named ∙ h), λ h. named ∙ stands.1 h);
      unknown = subst (λ (u : State). All (IsUnknownLimit u later c.args.pid) (map row_of c.in_ok-unknown.unknown.items)) is
          unknown.0;
      unknown_in_order = in_order c.in_ok-unknown.unknown.items
          (unknown_rows cells c.into_until_exec.result.map.entries)
          c.in_ok-unknown.ensures.rows c.in_ok-unknown.ensures.fds
          (rows_in_order cells c.into_until_exec.result.map.entries c.in_ok-unknown.ensures.sorted);
      unknown_live = λ f k lt none live. unknown.1 f k lt (ap (λ (u : State). u.cell c.args.pid f) is ∙ none) live;
      entering = subst (λ (u : State). IsEntering u (length c.args.before.now + 1) later c.args.pid c.of-entering.result) is
          (c.of-entering.ensures (length c.args.before.now + 1) later c.in_ok-live.ensures.blocked);
    }
