use Rattle.cap_summary.specs.{Positions.AreJudged, Positions.AreNoted, Positions.last_of, slice_range, start_state, ◌+◌}
use Rattle.cap_summary.specs.{[], ended, length, List, Rc, refl, State, Step, values, ◌<◌, ◌∷◌, ◌≡◌}
use Rattle.cap_summary.proofs.{Resolving.one_found, Runs.head_tail, arith, rules}
use Rattle.cap_summary.proofs.Agreeing.{agree_next, judged_both, same_said}
use Rattle.cap_summary.proofs.judging.+judge_in_order.Goals as goal

pub judge_in_order-requires : goal.judge_in_order-requires
judge_in_order-requires t c =
    let rest : List (Rc Step _) = slice_range c.args.run.now 1 (length c.args.run.now) in
    let run : values c.args.run.now ≡ c.index-run-0.result.value ∷ values rest =
    head_tail c.args.run.now c.index-run-0.result (omega arith) c.index-run-0.is in
    let noted : AreNoted c.args.last.now (c.args.at + 1) (values rest) = (rw run at c.requires.noted).1 in
    (search rules, (search rules, noted))

pub returns : goal.returns
returns t c = λ s agree.
    let before : State = start_state c.args.machine.now in
    let step : Step = c.index-run-0.result.value in
    let rest : List (Rc Step _) = slice_range c.args.run.now 1 (length c.args.run.now) in
    let run : values c.args.run.now ≡ step ∷ values rest =
    head_tail c.args.run.now c.index-run-0.result (omega arith) c.index-run-0.is in
    let here : c.args.at < last_of c.args.last.now step.line.pid = (rw run at c.requires.noted).0 in
    let first : AreJudged c.args.last.now c.args.asked.now c.args.at (step ∷ []) s
    (start_state c.forget_done.new.machine) c.args.found.now.items c.note_asked.new.found.items = record {
      found = rw (
        c.in_ok-verdict.ensures.says,
        c.deref.ensures,
        ← same_said c.args.last.now c.args.at s before step here agree,
        one_found c.args.asked.now c.args.at s step,
      ) at c.in_ok-note_asked.ensures;
      agree = λ ends. c.in_ok-forget_done.ensures (ended s (step ∷ []))
          (rw (c.in_ok-verdict.ensures.moves, c.deref.ensures)
          (agree_next c.args.last.now c.args.at s before step here agree));
    } in
    rw run (judged_both c.judge_in_order.result c.args.last.now c.args.asked.now c.args.at 1 (step ∷ []) (values rest) s
    _ _ _ _ _ refl first c.judge_in_order.ensures)
