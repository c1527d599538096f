use Rattle.std.proofs.Common.{◌<◌, arith, length}
use Rattle.cap_session.specs.Limits.{most_lines}
use Rattle.cap_session.proofs.RunCuts.{cut_within, first_shortens}
use Rattle.cap_session.proofs.origins.drop_line.Goals as goal

pub overflow_add-run : goal.overflow_add-run
overflow_add-run c =
    let lt : c.args.index < length c.args.runs.now.items = omega arith in
    let bounds = cut_within _ _ most_lines most_lines _ _ c.requires.cut lt c.requires.within_then c.requires.within_now
    c.index-run.ensures in
    omega (arith, bounds.was, bounds.some)

pub overflow_add-run-2 : goal.overflow_add-run-2
overflow_add-run-2 c =
    let lt : c.args.index < length c.args.runs.now.items = omega arith in
    let bounds = cut_within _ _ most_lines most_lines _ _ c.requires.cut lt c.requires.within_then c.requires.within_now
    c.index-run.ensures in
    omega (arith, bounds.at, bounds.some)

pub overflow_sub-run : goal.overflow_sub-run
overflow_sub-run c =
    let lt : c.args.index < length c.args.runs.now.items = omega arith in
    let bounds = cut_within _ _ most_lines most_lines _ _ c.requires.cut lt c.requires.within_then c.requires.within_now
    c.index-run.ensures in
    bounds.some

pub returns : goal.returns
returns c =
    let lt : c.args.index < length c.args.runs.now.items = omega arith in
    let run = c.index-run.result.now in
    first_shortens c.args.at _ _ run lt c.index-run.ensures c.if-run-at.false c.if-run-eq1.false
