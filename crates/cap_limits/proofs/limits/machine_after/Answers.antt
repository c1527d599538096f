use Rattle.std.proofs.Common.{◌≡◌, ◌+◌, List, [], ◌∷◌, ◌++◌, arith, sym, ap, ◌∙◌, take}
use Rattle.cap_trace.specs.Entry.{Entry}
use Rattle.cap_machine.specs.declared.step.Step.{Step}
use Rattle.cap_machine.specs.Steps.{step, steps}
use Rattle.cap_machine.specs.State.{State}
use Rattle.cap_machine.specs.History.{ended}
use Rattle.cap_machine.specs.State.{start_state}
use Rattle.cap_machine.proofs.Turns.{ends_more}
use Rattle.cap_machine.proofs.OneMore.{steps_taken}
use Rattle.cap_limits.proofs.limits.machine_after.Goals as goal

pub loop-line-preserved : goal.loop-line-preserved
loop-line-preserved c =
    let s : State = start_state c.args.start.now in
    let line : Entry = c.line-item.result in
    let before : List Entry = take c.loop-line.line-index c.args.lines.now in
    let t : List Step = steps c.args.profile before in
    let l : Step = step c.args.profile line in
    let more : steps c.args.profile (take (c.loop-line.line-index + 1) c.args.lines.now) ≡ t ++ l ∷ [] =
    steps_taken c.args.profile c.args.lines.now c.loop-line.line-index line (omega arith) c.line-item.is in
    c.in_ok-apply_line.ensures ∙ ap (λ (u : State). ended u (l ∷ [])) c.loop-line.invariant
    ∙ sym (ends_more s t l) ∙ ap (ended s) (sym more)
