use Rattle.std.proofs.Common.{◌≡◌, ◌+◌, List, [], ◌∷◌, ◌++◌, arith, sym, ap, ◌∙◌, take}
use Rattle.cap_trace.specs.Entry.{Entry}
use Rattle.cap_machine.specs.declared.step.Step.{Step}
use Rattle.cap_machine.specs.declared.cell.Cell.{Cell}
use Rattle.cap_machine.specs.Steps.{step, steps}
use Rattle.cap_machine.specs.State.{State}
use Rattle.cap_machine.specs.History.{ended}
use Rattle.cap_machine.specs.State.{start_state}
use Rattle.cap_limits.specs.Makers.{made_fds}
use Rattle.cap_limits.specs.Code.Made.{cells_along, cells_made}
use Rattle.cap_machine.proofs.Turns.{ends_more}
use Rattle.cap_machine.proofs.OneMore.{steps_taken}
use Rattle.cap_limits.proofs.MakerLimits.{cells_more}
use Rattle.cap_limits.proofs.makers.made_along.Goals as goal

pub loop-line-preserved : goal.loop-line-preserved
loop-line-preserved c =
    let s : State = start_state c.args.start.now in
    let line : Entry = c.line-item.result in
    let before : List Entry = take c.loop-line.line-index c.args.lines.now in
    let t : List Step = steps c.args.profile before in
    let l : Step = step c.args.profile line in
    let more : steps c.args.profile (take (c.loop-line.line-index + 1) c.args.lines.now) ≡ t ++ l ∷ [] =
    steps_taken c.args.profile c.args.lines.now c.loop-line.line-index line (omega arith) c.line-item.is in
    let now : start_state c.apply_maker_line.new.machine ≡ ended s (t ++ l ∷ []) =
    c.in_ok-apply_maker_line.ensures.moves ∙ ap (λ (u : State). ended u (l ∷ [])) c.loop-line.invariant.state
    ∙ sym (ends_more s t l) in
    record {
      state = now ∙ ap (ended s) (sym more);
      cells = c.in_ok-apply_maker_line.ensures.cells
          ∙ ap (λ (r : List Cell). r ++ cells_made (start_state c.apply_maker_line.new.machine) line.pid
          (made_fds line.item))
          c.loop-line.invariant.cells
          ∙ ap (λ (u : State). cells_along s t ++ cells_made u line.pid (made_fds line.item)) now
          ∙ sym (cells_more s t l) ∙ ap (cells_along s) (sym more);
    }
