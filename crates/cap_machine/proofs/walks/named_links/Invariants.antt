use Rattle.std.proofs.Common.{◌≡◌, ◌++◌, length, reverse}
use Rattle.cap_machine.specs.Code.Passages.{cell_along, links_along}
use Rattle.cap_machine.proofs.walks.named_links.Given as goal

abbrev pub invariant-loop-passage : goal.invariant-loop-passage
invariant-loop-passage l = record {
  cell : cell_along l.rest l.cell ≡ cell_along l.fn.passages l.end;
  links : links_along l.rest l.cell ++ reverse l.links.items ≡ links_along l.fn.passages l.end;
}

abbrev pub decreases-loop-passage : goal.decreases-loop-passage
decreases-loop-passage l = length l.rest
