use Rattle.cap_summary.specs.{Positions.AgreeAfter, Positions.AreNoted, Positions.last_of, slice_range, start_state, ◌+◌}
use Rattle.cap_summary.specs.{[], ended, length, List, Rc, Step, values, ◌<◌, ◌∷◌, ◌≡◌}
use Rattle.cap_summary.proofs.{Agreeing.agree_next, Agreeing.agree_run, Runs.head_tail, arith, on_ok_weaker, rules}
use Rattle.cap_summary.proofs.judging.+pass_in_order.Goals as goal

pub pass_in_order-requires : goal.pass_in_order-requires
pass_in_order-requires t c =
    let rest : List (Rc Step _) = slice_range c.args.run.now 1 (length c.args.run.now) in
    let run : values c.args.run.now ≡ c.index-run-0.result.value ∷ values rest =
    head_tail c.args.run.now c.index-run-0.result (omega arith) c.index-run-0.is in
    let noted : AreNoted c.args.last.now (c.args.at + 1) (values rest) = (rw run at c.requires.noted).1 in
    (search rules, (search rules, noted))

pub returns : goal.returns
returns t c = λ s agree.
    let step : Step = c.index-run-0.result.value in
    let rest : List (Rc Step _) = slice_range c.args.run.now 1 (length c.args.run.now) in
    let run : values c.args.run.now ≡ step ∷ values rest =
    head_tail c.args.run.now c.index-run-0.result (omega arith) c.index-run-0.is in
    let here : c.args.at < last_of c.args.last.now step.line.pid = (rw run at c.requires.noted).0 in
    let next : AgreeAfter c.args.last.now (c.args.at + 1) (ended s (step ∷ [])) (start_state c.forget_done.new.machine) =
    c.in_ok-forget_done.ensures (ended s (step ∷ [])) (rw (c.in_ok-passed.ensures, c.deref.ensures)
    (agree_next c.args.last.now c.args.at s (start_state c.args.machine.now) step here agree)) in
    on_ok_weaker c.pass_in_order.result
    (agree_run c.args.last.now c.args.at s step c.args.run.now rest (start_state c.pass_in_order.new.machine) run)
    (c.pass_in_order.ensures (ended s (step ∷ [])) next)
