use Rattle.std.proofs.Common.{◌≡◌, length}
use Rattle.cap_machine.specs.History.{cell_after}
use Rattle.cap_machine.specs.State.{start_state}
use Rattle.cap_machine.specs.Provenance.{cell_chain}
use Rattle.cap_machine.specs.Code.Walks.{cell_known, cell_found}
use Rattle.cap_machine.proofs.Provenances.{back}
use Rattle.cap_machine.proofs.walks.provenance_of_cell.Given as goal

abbrev pub invariant-loop-line : goal.invariant-loop-line
invariant-loop-line l = record {
  cell : cell_known l.walk (start_state l.start) (back l.profile l.rest)
      ≡ cell_after (start_state l.start) (back l.profile l.fn.lines) l.pid l.fd;
  chain : cell_found l.walk (start_state l.start) (back l.profile l.rest)
      ≡ cell_chain (start_state l.start) (back l.profile l.fn.lines) l.pid l.fd;
}

abbrev pub decreases-loop-line : goal.decreases-loop-line
decreases-loop-line l = length l.rest
