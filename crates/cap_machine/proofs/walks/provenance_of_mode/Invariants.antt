use Rattle.std.proofs.Common.{◌≡◌, length}
use Rattle.cap_machine.specs.History.{mode_after}
use Rattle.cap_machine.specs.State.{start_state}
use Rattle.cap_machine.specs.Provenance.{mode_chain}
use Rattle.cap_machine.specs.Code.Walks.{mode_known, mode_found}
use Rattle.cap_machine.proofs.Provenances.{back}
use Rattle.cap_machine.proofs.walks.provenance_of_mode.Given as goal

abbrev pub invariant-loop-line : goal.invariant-loop-line
invariant-loop-line l = record {
  mode : mode_known l.walk (start_state l.start) (back l.profile l.earlier)
      ≡ mode_after (start_state l.start) (back l.profile l.fn.lines) l.pid;
  chain : mode_found l.walk (start_state l.start) (back l.profile l.earlier)
      ≡ mode_chain (start_state l.start) (back l.profile l.fn.lines) l.pid;
}

abbrev pub decreases-loop-line : goal.decreases-loop-line
decreases-loop-line l = length l.earlier
