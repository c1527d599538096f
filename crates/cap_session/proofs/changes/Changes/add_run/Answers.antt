use Rattle.std.proofs.Common.{◌∙◌, sym, arith}
use Rattle.cap_session.proofs.Rising.{rise_lower}
use Rattle.cap_session.proofs.InRun.{compared_none, compared_same, compared_other, fewer_left, next_in, within_rise}
use Rattle.cap_session.proofs.changes.Changes.add_run.Goals as goal

pub loop-line-init : goal.loop-line-init
loop-line-init c = (0, compared_none _ _ _ _ _ c.requires.then c.requires.now)

pub first_line-requires-clause-then : goal.first_line-requires-clause-then
first_line-requires-clause-then c =
    let is = c.loop-line.invariant.1 in
    rise_lower _ _ _ (omega arith) (within_rise _ _ _ is.then_behind)

pub first_line-requires-clause-now : goal.first_line-requires-clause-now
first_line-requires-clause-now c =
    let is = c.loop-line.invariant.1 in
    rise_lower _ _ _ (omega arith) (within_rise _ _ _ is.behind)

pub overflow_add-run : goal.overflow_add-run
overflow_add-run c =
    let is = next_in _ _ _ _ _ _ _ _ _ _ _ c.loop-line.invariant.1 c.in-Some.ensures.some in
    omega (arith, is.1)

pub split_behind-requires : goal.split_behind-requires
split_behind-requires c = rise_lower _ _ _ (omega arith) c.in-Some.ensures.then

pub overflow_add-run-in-Some : goal.overflow_add-run-in-Some
overflow_add-run-in-Some c =
    let is = next_in _ _ _ _ _ _ _ _ _ _ _ c.loop-line.invariant.1 c.in-Some.ensures.some in
    omega (arith, is.1)

pub split_behind-requires-in-Some : goal.split_behind-requires-in-Some
split_behind-requires-in-Some c = rise_lower _ _ _ (omega arith) c.in-Some.ensures.now

pub loop-line-preserved-in_ok-add : goal.loop-line-preserved-in_ok-add
loop-line-preserved-in_ok-add c = (
  c.in-Some.line,
  compared_other _ _ _ _ _ _ _ _ _ _ _ c.loop-line.invariant.1 c.in-Some.ensures.then c.in-Some.ensures.now
      c.in-Some.ensures.some _ _ _ _ c.split_behind.ensures.whole c.split_behind-in-Some.ensures.whole
      c.split_behind.ensures.front c.split_behind-in-Some.ensures.front c.split_behind.ensures.back
      c.split_behind-in-Some.ensures.back (sym c.are_same.ensures ∙ c.if-not-are_same.true) _ _
      c.in_ok-add.ensures.went c.in_ok-add.ensures.came,
)

pub loop-line-smaller : goal.loop-line-smaller
loop-line-smaller c = fewer_left _ _ _ _ _ _ _ _ _ _ _ c.loop-line.invariant.1 c.in-Some.ensures.then
    c.in-Some.ensures.now c.in-Some.ensures.some _ _ _ _ c.split_behind.ensures.whole
    c.split_behind-in-Some.ensures.whole c.split_behind.ensures.front c.split_behind-in-Some.ensures.front
    c.split_behind.ensures.back c.split_behind-in-Some.ensures.back

pub loop-line-preserved : goal.loop-line-preserved
loop-line-preserved c = (
  c.in-Some.line,
  compared_same _ _ _ _ _ _ _ _ _ _ _ c.loop-line.invariant.1 c.in-Some.ensures.then c.in-Some.ensures.now
      c.in-Some.ensures.some _ _ _ _ c.split_behind.ensures.whole c.split_behind-in-Some.ensures.whole
      c.split_behind.ensures.front c.split_behind-in-Some.ensures.front c.split_behind.ensures.back
      c.split_behind-in-Some.ensures.back (sym c.are_same.ensures ∙ c.if-not-are_same.false),
)
