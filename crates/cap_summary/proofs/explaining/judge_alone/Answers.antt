use Rattle.std.specs.Prelude.{List, take, ℕ, ◌+◌, ◌≡◌, ◌≤◌}
use Rattle.cap_summary.proofs.{Judged.one_more, ap, arith, explaining.judge_alone.Goals.In_ok-note_asked, sym, ◌∙◌}
use Rattle.cap_summary.proofs.Resolving.{found_in_first, found_next, from_first, none_before_first}
use Rattle.cap_summary.specs.{Explained, Found, Positions.found_in, Positions.positions, State, Step, start_state}
use Rattle.cap_summary.proofs.explaining.judge_alone.Goals as goal

pub loop-count-init : goal.loop-count-init
loop-count-init c =
    let s : State = start_state c.args.start.now in
    let t : List Step = c.args.node.now.steps in
    record {
      found = c.requires.nothing ∙ none_before_first c.args.asked.now s t
          ∙ ap (λ (n : ℕ). found_in c.args.asked.now 0 s (take n t)) (sym c.saturating_sub-count.ensures);
      counted = omega (arith, c.requires.none_judged);
      all = omega (arith, c.requires.none_judged);
      each = rw c.requires.nothing (omega arith);
    }

-- what is found up to one more step, and at how many positions
found_more : (c : In_ok-note_asked) → (c.note_asked.new.found.items ≡ found_in c.args.asked.now 0
    (start_state c.args.start.now) (take (c.loop-count.count + 1) c.args.node.now.steps))
    × (positions c.note_asked.new.found.items ≤ c.loop-count.report.judged + 1)
found_more c =
    let old : List Found = c.loop-count.report.found.items in
    let new : List Found = c.note_asked.new.found.items in
    let said = ap (λ (e : Explained). e.findings) c.in_ok-explanation.ensures in
    let here : positions new ≤ positions old + 1 = one_more c.args.asked.now (c.loop-count.count + 1) old new
    c.in_ok-explanation.explanation.verdict c.in_ok-note_asked.ensures in (
      found_next c.args.asked.now c.loop-count.count (start_state c.args.start.now) c.args.node.now.steps
          c.step.result.now old new (omega (arith, c.loop-count-test.true)) c.step.ensures c.loop-count.invariant.found
          (rw said at c.in_ok-note_asked.ensures),
      omega (arith, c.loop-count.invariant.each, here),
    )

pub loop-count-preserved : goal.loop-count-preserved
loop-count-preserved c =
    let more = found_more (goal.at.loop-count-preserved c).In_ok-note_asked in record {
      found = more.0;
      counted = omega (arith, c.loop-count.invariant.counted);
      all = omega (arith, c.loop-count.invariant.counted, c.loop-count-test.true);
      each = more.1;
    }

pub loop-count-preserved-in_ok-note_asked : goal.loop-count-preserved-in_ok-note_asked
loop-count-preserved-in_ok-note_asked c =
    let more = found_more (goal.at.loop-count-preserved-in_ok-note_asked c).In_ok-note_asked in record {
      found = more.0;
      counted = omega (arith, c.loop-count.invariant.counted);
      all = omega (arith, c.loop-count.invariant.counted, c.loop-count-test.true);
      each = more.1;
    }

pub returns-clause-found : goal.returns-clause-found
returns-clause-found c = c.loop-count.invariant.found ∙ found_in_first c.args.asked.now 0 c.loop-count.count
    (start_state c.args.start.now) c.args.node.now.steps (λ short. omega (arith, short, c.loop-count-test.false))
    ∙ from_first c.args.asked.now (start_state c.args.start.now) c.args.node.now.steps
