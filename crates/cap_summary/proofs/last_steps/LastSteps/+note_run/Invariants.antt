use Rattle.cap_summary.specs.{length}
use Rattle.cap_summary.proofs.last_steps.LastSteps.+note_run.Given as goal

abbrev pub decreases-note_run : goal.decreases-note_run
decreases-note_run l = length l.pids.now
