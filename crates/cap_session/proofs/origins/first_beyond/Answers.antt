use Rattle.std.proofs.Common.{◌+◌, ◌-◌, ◌/◌, ◌<◌, length, arith}
use Rattle.cap_summary.specs.declared.kept_run.KeptRun.{KeptRun}
use Rattle.cap_session.proofs.RunCuts.{within, before_middle, behind_middle}
use Rattle.cap_session.proofs.origins.first_beyond.Goals as goal

none : KeptRun
none = record { was = 0; at = 0; len = 0 }

pub overflow_add-run : goal.overflow_add-run
unfolding none
overflow_add-run c =
    let middle = c.loop-low.low + (c.loop-low.high - c.loop-low.low) / 2 in
    let lies : middle < length c.args.runs.now = omega arith in
    let bounds = within 0 0 0 _ _ c.args.runs.now c.requires.order c.requires.within_then c.requires.within_now middle
    none lies in
    omega (arith, bounds.at)

pub loop-low-preserved-then-run-at : goal.loop-low-preserved-then-run-at
unfolding none
loop-low-preserved-then-run-at c =
    let middle = c.loop-low.low + (c.loop-low.high - c.loop-low.low) / 2 in
    record {
      order = omega arith;
      within = c.loop-low.invariant.within;
      before = before_middle c.args.at middle c.args.runs.now none c.requires.order (omega arith) c.if-run-at.true;
      behind = c.loop-low.invariant.behind;
    }

pub loop-low-preserved : goal.loop-low-preserved
unfolding none
loop-low-preserved c =
    let middle = c.loop-low.low + (c.loop-low.high - c.loop-low.low) / 2 in
    record {
      order = omega arith;
      within = omega arith;
      before = c.loop-low.invariant.before;
      behind = behind_middle c.args.at middle c.args.runs.now none c.requires.order c.if-run-at.false;
    }
