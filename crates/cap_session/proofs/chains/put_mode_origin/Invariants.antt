use Rattle.std.proofs.Common.{◌≡◌, ◌++◌, codes, take}
use Rattle.std.specs.Prelude.{flat_map}
use Rattle.cap_machine.specs.declared.provenance.ModeLink.{ModeLink}
use Rattle.cap_session.specs.Explaining.{link_line}
use Rattle.cap_session.proofs.chains.put_mode_origin.Given as goal

abbrev pub invariant-loop-link : goal.invariant-loop-link
invariant-loop-link g l = l.out.items ≡ l.fn.out.items
    ++ flat_map (λ (link : ModeLink). link_line (codes "mode") (g.T.Trace.lines l.trace) link.at)
    (take l.link-index l.provenance.links.items)
