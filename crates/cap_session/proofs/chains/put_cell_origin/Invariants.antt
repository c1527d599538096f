use Rattle.std.proofs.Common.{◌≡◌, ◌++◌, decimal, take}
use Rattle.std.specs.Prelude.{flat_map}
use Rattle.cap_machine.specs.declared.provenance.CellLink.{CellLink}
use Rattle.cap_session.specs.Explaining.{link_line}
use Rattle.cap_session.proofs.chains.put_cell_origin.Given as goal

abbrev pub invariant-loop-link : goal.invariant-loop-link
invariant-loop-link g l = l.out.items ≡ l.fn.out.items
    ++ flat_map (λ (link : CellLink). link_line (decimal l.fd) (g.T.Trace.lines l.trace) link.at)
    (take l.link-index l.provenance.links.items)
