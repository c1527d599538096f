use Rattle.std.proofs.Common.{◌≡◌, ◌<◌, ℕ, arith, length, get_or, add-one, List}
use Rattle.std.proofs.lemmas.List.{get_or_default}
use Rattle.cap_summary.specs.declared.kept_run.KeptRun.{KeptRun}
use Rattle.cap_session.specs.Limits.{most_lines}
use Rattle.cap_session.specs.Code.RunTable.{IsTable}
use Rattle.cap_session.proofs.Rising.{rise_lower}
use Rattle.cap_session.proofs.RunCuts.{Within, within}
use Rattle.cap_session.proofs.WalkRuns.{walked_none, walked_next, walked_all, old_run, here_run}
use Rattle.cap_session.proofs.changes.changes_of.Goals as goal

abbrev none : KeptRun
none = record { was = 0; at = 0; len = 0 }

-- each run is small
small : (runs : List KeptRun) (i : ℕ) → IsTable most_lines runs → i < length runs
    → Within most_lines most_lines (get_or runs i none)
small runs i table lt =
    within 0 0 0 most_lines most_lines runs table.order table.within_then table.within_now i none lt

pub loop-run-init : goal.loop-run-init
loop-run-init c = rw (c.new.ensures.items, c.new-2.ensures.items)
    (walked_none c.args.runs.now c.args.then.now c.args.now.now c.requires.then c.requires.now)

pub split_behind-requires : goal.split_behind-requires
split_behind-requires c = rise_lower _ _ _ (omega arith) c.loop-run.invariant.then_behind

pub split_behind-requires-in-loop-run : goal.split_behind-requires-in-loop-run
split_behind-requires-in-loop-run c = rise_lower _ _ _ (omega arith) c.loop-run.invariant.behind

pub overflow_add-run : goal.overflow_add-run
overflow_add-run c =
    let bounds = small c.args.runs.now c.loop-run.run-index c.requires.table c.loop-run-test.true in
    omega (arith, bounds.was)

pub split_behind-requires-in-loop-run-2 : goal.split_behind-requires-in-loop-run-2
split_behind-requires-in-loop-run-2 c = rise_lower _ _ _ (omega arith) c.split_behind.ensures.back

pub overflow_add-run-in-loop-run : goal.overflow_add-run-in-loop-run
overflow_add-run-in-loop-run c =
    let bounds = small c.args.runs.now c.loop-run.run-index c.requires.table c.loop-run-test.true in
    omega (arith, bounds.at)

pub split_behind-requires-in-loop-run-3 : goal.split_behind-requires-in-loop-run-3
split_behind-requires-in-loop-run-3 c = rise_lower _ _ _ (omega arith) c.split_behind-in-loop-run.ensures.back

pub add_run-requires-clause-then : goal.add_run-requires-clause-then
add_run-requires-clause-then c =
    let runs = c.args.runs.now in
    let i = c.loop-run.run-index in
    old_run runs c.args.then.now c.args.now.now c.requires.table.order i (get_or runs i none) c.loop-run-test.true
    (get_or_default runs i none (get_or runs i none) c.loop-run-test.true) _ _ _ _ c.loop-run.invariant _ _ _ _ _ _ _ _
    c.split_behind.ensures.whole c.split_behind-in-loop-run-2.ensures.whole c.split_behind-in-loop-run.ensures.whole
    c.split_behind-in-loop-run-3.ensures.whole c.split_behind.ensures.front c.split_behind-in-loop-run.ensures.front
    c.split_behind.ensures.back c.split_behind-in-loop-run.ensures.back c.split_behind-in-loop-run-2.ensures.front
    c.split_behind-in-loop-run-3.ensures.front c.split_behind-in-loop-run-2.ensures.back
    c.split_behind-in-loop-run-3.ensures.back

pub add_run-requires-clause-now : goal.add_run-requires-clause-now
add_run-requires-clause-now c =
    let runs = c.args.runs.now in
    let i = c.loop-run.run-index in
    here_run runs c.args.then.now c.args.now.now c.requires.table.order i (get_or runs i none) c.loop-run-test.true
    (get_or_default runs i none (get_or runs i none) c.loop-run-test.true) _ _ _ _ c.loop-run.invariant _ _ _ _ _ _ _ _
    c.split_behind.ensures.whole c.split_behind-in-loop-run-2.ensures.whole c.split_behind-in-loop-run.ensures.whole
    c.split_behind-in-loop-run-3.ensures.whole c.split_behind.ensures.front c.split_behind-in-loop-run.ensures.front
    c.split_behind.ensures.back c.split_behind-in-loop-run.ensures.back c.split_behind-in-loop-run-2.ensures.front
    c.split_behind-in-loop-run-3.ensures.front c.split_behind-in-loop-run-2.ensures.back
    c.split_behind-in-loop-run-3.ensures.back

pub add_run-requires-clause-was_small : goal.add_run-requires-clause-was_small
add_run-requires-clause-was_small c =
    (small c.args.runs.now c.loop-run.run-index c.requires.table c.loop-run-test.true).was

pub add_run-requires-clause-at_small : goal.add_run-requires-clause-at_small
add_run-requires-clause-at_small c =
    (small c.args.runs.now c.loop-run.run-index c.requires.table c.loop-run-test.true).at

pub loop-run-preserved : goal.loop-run-preserved
loop-run-preserved c =
    let runs = c.args.runs.now in
    let i = c.loop-run.run-index in
    rw add-one (walked_next runs c.args.then.now c.args.now.now c.requires.table.order i (get_or runs i none)
    c.loop-run-test.true (get_or_default runs i none (get_or runs i none) c.loop-run-test.true) _ _ _ _
    c.loop-run.invariant _ _ _ _ _ _ _ _ c.split_behind.ensures.whole c.split_behind-in-loop-run-2.ensures.whole
    c.split_behind-in-loop-run.ensures.whole c.split_behind-in-loop-run-3.ensures.whole c.split_behind.ensures.front
    c.split_behind-in-loop-run.ensures.front c.split_behind.ensures.back c.split_behind-in-loop-run.ensures.back
    c.split_behind-in-loop-run-2.ensures.front c.split_behind-in-loop-run-3.ensures.front
    c.split_behind-in-loop-run-2.ensures.back c.split_behind-in-loop-run-3.ensures.back _ _ _ _
    c.in_ok-add.ensures.went c.in_ok-add_run.ensures.went c.in_ok-add.ensures.came c.in_ok-add_run.ensures.came)

pub returns-clause-went : goal.returns-clause-went
returns-clause-went c =
    let end : c.loop-run.run-index ≡ length c.args.runs.now = omega (arith, c.loop-run-test.false) in
    (walked_all c.args.runs.now c.args.then.now c.args.now.now c.requires.table.order _ _ _ _ _ _
    (rw end at c.loop-run.invariant) c.in_ok-add-2.ensures.went c.in_ok-add-2.ensures.came).went

pub returns-clause-came : goal.returns-clause-came
returns-clause-came c =
    let end : c.loop-run.run-index ≡ length c.args.runs.now = omega (arith, c.loop-run-test.false) in
    (walked_all c.args.runs.now c.args.then.now c.args.now.now c.requires.table.order _ _ _ _ _ _
    (rw end at c.loop-run.invariant) c.in_ok-add-2.ensures.went c.in_ok-add-2.ensures.came).came
