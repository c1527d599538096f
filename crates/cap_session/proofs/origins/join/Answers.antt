use Rattle.std.proofs.Common.{◌≡◌, ◌∙◌, arith, length, refl, sym, ◌-◌}
use Rattle.cap_session.specs.Limits.{most_lines}
use Rattle.cap_session.specs.Code.RunTable.{joined}
use Rattle.cap_session.proofs.RunCuts.{cut_within}
use Rattle.cap_session.proofs.RunJoins.{before_cut_within, joined_end, joined_apart_at, joined_both_at}
use Rattle.cap_session.proofs.origins.join.Goals as goal
use Rattle.cap_session.proofs.origins.join.Goals.{then-index-eq0-via-then-index-eq0}
use Rattle.cap_session.proofs.origins.join.Goals.{then-index-eq0-via-else-index-eq0+then-index-len}

pub do_meet-requires : goal.do_meet-requires
do_meet-requires c =
    let bounds = before_cut_within _ _ most_lines most_lines (c.args.index - 1) _ c.index-run.result.now c.requires.cut
    (omega arith) c.requires.within_then c.requires.within_now c.index-run.ensures in
    record { was = omega (arith, bounds.was); at = omega (arith, bounds.at) }

pub returns-then-index-eq0 : goal.returns-then-index-eq0
unfolding joined
returns-then-index-eq0 c = elim c.then-index-eq0.branch [
  | then-index-eq0-via-then-index-eq0 w ↦ rw w.if-index-eq0.true refl
  | then-index-eq0-via-else-index-eq0+then-index-len w ↦
      let end : c.args.index ≡ length c.args.runs.now.items = omega arith in
      rw end (sym (joined_end c.args.runs.now.items))
]

pub overflow_add-run : goal.overflow_add-run
overflow_add-run c =
    let bounds = before_cut_within _ _ most_lines most_lines (c.args.index - 1) _ c.index-run.result.now c.requires.cut
    (omega arith) c.requires.within_then c.requires.within_now c.index-run.ensures in
    let next = cut_within _ _ most_lines most_lines _ _ c.requires.cut (omega arith) c.requires.within_then
    c.requires.within_now c.index-next.ensures in
    omega (arith, bounds.was, next.was)

pub returns-then-not-do_meet : goal.returns-then-not-do_meet
returns-then-not-do_meet c =
    joined_apart_at _ _ _ _ c.if-index-eq0.false (omega arith) c.index-run.ensures c.index-next.ensures
    (sym c.do_meet.ensures ∙ c.if-not-do_meet.true)

pub returns : goal.returns
returns c = c.remove.ensures.items
    ∙ joined_both_at _ _ _ _ c.if-index-eq0.false (omega arith) c.index-run.ensures c.index-next.ensures
    (sym c.do_meet.ensures ∙ c.if-not-do_meet.false)
