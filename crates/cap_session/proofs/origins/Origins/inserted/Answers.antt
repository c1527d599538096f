use Rattle.std.proofs.Common.{◌≤◌, ◌+◌, ap, subst, length, List, arith, insert}
use Rattle.std.specs.Prelude.{Option, None}
use Rattle.cap_session.specs.Limits.{most_lines}
use Rattle.cap_session.proofs.RunEdits.{Stand, inserts, count_is, small_back}
use Rattle.cap_session.proofs.origins.Origins.inserted.Goals as goal

pub move_later_up-requires : goal.move_later_up-requires
move_later_up-requires c =
    let cut = c.in_ok-index.ensures in
    let table = c.self.invariant in
    record {
      within = omega (arith, cut.cut.within);
      small = small_back c.args.at c.in_ok-index.index most_lines c.cut.new.runs.items cut.cut
          (omega (arith, cut.was, table.within_then)) (omega (arith, cut.at, table.within_now, table.few)) (omega arith);
    }

stand : (c : goal.After-move_later_up)
    → Stand (c.self.inside.count + 1) (insert c.args.self c.args.at None) c.move_later_up.new.runs.items
stand c =
    let same = count_is _ _ c.self.invariant in
    let le : c.args.at ≤ c.self.inside.count = omega (arith, c.requires.in_range, ap length c.self.view_is, same) in
    subst (λ (l : List (Option _)). Stand (c.self.inside.count + 1) (insert l c.args.at None) c.move_later_up.new.runs.items)
    c.self.view_is
    (rw c.move_later_up.ensures (inserts c.args.at c.in_ok-index.index c.self.inside.count c.self.inside.runs.items
    c.cut.new.runs.items c.self.invariant c.in_ok-index.ensures.cut c.in_ok-index.ensures.stood
    c.in_ok-index.ensures.was c.in_ok-index.ensures.at le
    (omega (arith, c.requires.few, ap length c.self.view_is, same))))

pub invariant_of-result : goal.invariant_of-result
invariant_of-result c = (stand c).table

pub returns : goal.returns
returns c = (stand c).stands
