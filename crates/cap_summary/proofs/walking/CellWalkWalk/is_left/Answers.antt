use Rattle.cap_summary.proofs.{Walks.cell_left_out, sym, ◌∙◌}
use Rattle.cap_summary.specs.declared.key.Key.{Key}
use Rattle.cap_summary.proofs.walking.CellWalkWalk.is_left.Goals as goal

pub returns : goal.returns
returns c = λ is t knows at count. cell_left_out c.args.self.now at count t
    (rw (c.pid.ensures, c.fd.ensures) at (knows.left c.pid.result (Key.Fd c.fd.result) (sym c.leaves.ensures ∙ is)))
