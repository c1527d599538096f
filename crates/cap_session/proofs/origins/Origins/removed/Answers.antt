use Rattle.std.proofs.Common.{◌≡◌, ◌<◌, ◌-◌, ◌++◌, ◌∙◌, sym, ap, subst, length, List, map, take, drop, arith, ℕ}
use Rattle.std.specs.Prelude.{Option, remove, All}
use Rattle.cap_summary.specs.declared.kept_run.KeptRun.{KeptRun}
use Rattle.cap_session.specs.Code.RunTable.{IsCut, at_end, without_first, down}
use Rattle.cap_session.proofs.RunEdits.{Stand, removes, count_is, begin_behind, lower_cut, lower_within_then, lower_within_now}
use Rattle.cap_session.proofs.RunEdits.{rest_from, moves_down}
use Rattle.cap_session.proofs.origins.Origins.removed.Goals as goal

pub move_later_down-requires-clause-beyond : goal.move_later_down-requires-clause-beyond
move_later_down-requires-clause-beyond c =
    let cut = c.in_ok-index.ensures in
    let old = c.self.inside.runs.items in
    let runs = c.cut.new.runs.items in
    let rest = c.drop_line.ensures
    in
    subst (λ (l : List KeptRun). All (λ run. 0 < run.at) l)
    (sym (ap (drop c.in_ok-index.index) rest ∙ rest_from c.args.at c.in_ok-index.index c.self.inside.count old runs
    c.self.invariant cut.cut cut.stood cut.was cut.at))
    (begin_behind c.args.at c.in_ok-index.index c.self.inside.count old runs c.self.invariant cut.cut cut.stood cut.was
    cut.at)

-- what the later runs are once they have moved down
moved : (c : goal.After-runs-4-1) → c.move_later_down.new.runs.items
    ≡ take c.in_ok-index.index c.cut.new.runs.items
    ++ map down (without_first c.args.at (drop c.in_ok-index.index c.cut.new.runs.items))
moved c =
    let cut = c.in_ok-index.ensures in
    c.move_later_down.ensures
    ∙ ap (λ l. take c.in_ok-index.index l ++ map down (drop c.in_ok-index.index l)) c.drop_line.ensures
    ∙ moves_down c.args.at c.in_ok-index.index c.self.inside.count c.self.inside.runs.items c.cut.new.runs.items
    c.self.invariant cut.cut cut.stood cut.was cut.at

pub join-requires-clause-cut : goal.join-requires-clause-cut
join-requires-clause-cut c =
    let cut = c.in_ok-index.ensures in
    subst (λ l. IsCut (at_end 0 (take c.in_ok-index.index l)) l c.in_ok-index.index) (sym (moved c))
    (lower_cut c.args.at c.in_ok-index.index c.self.inside.count c.self.inside.runs.items c.cut.new.runs.items
    c.self.invariant cut.cut cut.stood cut.was cut.at)

pub join-requires-clause-within_then : goal.join-requires-clause-within_then
join-requires-clause-within_then c =
    let cut = c.in_ok-index.ensures in
    rw (moved c) (lower_within_then c.args.at c.in_ok-index.index c.self.inside.count c.self.inside.runs.items
    c.cut.new.runs.items c.self.invariant cut.cut cut.stood cut.was cut.at)

pub join-requires-clause-within_now : goal.join-requires-clause-within_now
join-requires-clause-within_now c =
    let cut = c.in_ok-index.ensures in
    let lt : c.args.at < c.self.inside.count = omega (
      arith,
      c.requires.in_range,
      ap length c.self.view_is,
      count_is _ _ c.self.invariant,
    ) in
    rw (moved c) (lower_within_now c.args.at c.in_ok-index.index c.self.inside.count c.self.inside.runs.items
    c.cut.new.runs.items c.self.invariant cut.cut cut.stood cut.was cut.at lt)

pub overflow_sub-result : goal.overflow_sub-result
overflow_sub-result c =
    omega (arith, c.requires.in_range, ap length c.self.view_is, count_is _ _ c.self.invariant)

stand : (c : goal.After-join) → Stand (c.self.inside.count - 1) (remove c.args.self c.args.at) c.join.new.runs.items
stand c =
    let cut = c.in_ok-index.ensures in
    let lt : c.args.at < c.self.inside.count = omega (
      arith,
      c.requires.in_range,
      ap length c.self.view_is,
      count_is _ _ c.self.invariant,
    ) in
    subst (λ (l : List (Option ℕ)). Stand (c.self.inside.count - 1) (remove l c.args.at) c.join.new.runs.items)
    c.self.view_is
    (rw (c.join.ensures, moved c.before) (removes c.args.at c.in_ok-index.index c.self.inside.count
    c.self.inside.runs.items c.cut.new.runs.items c.self.invariant cut.cut cut.stood cut.was cut.at lt))

pub invariant_of-result : goal.invariant_of-result
invariant_of-result c = (stand c).table

pub returns : goal.returns
returns c = (stand c).stands
