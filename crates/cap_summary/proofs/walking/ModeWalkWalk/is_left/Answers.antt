use Rattle.cap_summary.proofs.{Walks.mode_left_out, sym, ◌∙◌}
use Rattle.cap_summary.specs.declared.key.Key.{Key}
use Rattle.cap_summary.proofs.walking.ModeWalkWalk.is_left.Goals as goal

pub returns : goal.returns
returns c = λ is t knows at count. mode_left_out c.args.self.now at count t
    (rw c.pid.ensures at (knows.left c.pid.result Key.Mode (sym c.leaves.ensures ∙ is)))
