use Rattle.std.proofs.Common.{◌≡◌, ◌+◌, take}
use Rattle.cap_tree.specs.Run.{values}
use Rattle.cap_tree.proofs.segment.Segment.sum.Given as goal

-- the items so far are summed up, with one join fewer
abbrev pub invariant-loop-at : goal.invariant-loop-at
invariant-loop-at g l = record {
  stands : g.Self.Segment.stands l.sum (values (take l.at l.items));
  counted : g.Self.Meter.Counts.count l.meter + 1 ≡ g.Self.Meter.Counts.count l.fn.meter + l.at;
}
