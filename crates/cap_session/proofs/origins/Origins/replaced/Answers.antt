use Rattle.std.proofs.Common.{◌<◌, ap, subst, length, List, arith}
use Rattle.std.specs.Prelude.{Option, None, slice_set}
use Rattle.cap_session.proofs.RunEdits.{Stand, replaces, count_is}
use Rattle.cap_session.proofs.origins.Origins.replaced.Goals as goal

stand : (c : goal.After-drop_line) → Stand c.self.inside.count (slice_set c.args.self c.args.at None) c.drop_line.new.runs.items
stand c =
    let lt : c.args.at < c.self.inside.count = omega (
      arith,
      c.requires.in_range,
      ap length c.self.view_is,
      count_is _ _ c.self.invariant,
    ) in
    subst (λ (l : List (Option _)). Stand c.self.inside.count (slice_set l c.args.at None) c.drop_line.new.runs.items)
    c.self.view_is
    (rw c.drop_line.ensures (replaces c.args.at c.in_ok-index.index c.self.inside.count c.self.inside.runs.items
    c.cut.new.runs.items c.self.invariant c.in_ok-index.ensures.cut c.in_ok-index.ensures.stood
    c.in_ok-index.ensures.was c.in_ok-index.ensures.at lt))

pub invariant_of-result : goal.invariant_of-result
invariant_of-result c = (stand c).table

pub returns : goal.returns
returns c = (stand c).stands
