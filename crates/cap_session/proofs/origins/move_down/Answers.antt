use Rattle.std.proofs.Common.{◌<◌, length, get_or, arith}
use Rattle.std.proofs.lemmas.List.{get_or_default}
use Rattle.std.proofs.lemmas.List.Edits.{map_over_more}
use Rattle.cap_summary.specs.declared.kept_run.KeptRun.{KeptRun}
use Rattle.cap_session.specs.Code.RunTable.{down}
use Rattle.cap_session.proofs.origins.move_down.Goals as goal

pub loop-run-preserved : goal.loop-run-preserved
loop-run-preserved c =
    let ys = c.loop-run.runs in
    let i = c.loop-run.run-index in
    let none : KeptRun = record { was = 0; at = 0; len = 0 } in
    let within : i < length ys = omega arith in
    map_over_more down c.args.runs.now ys i (get_or ys i none) (omega arith) c.loop-run.invariant
    (get_or_default ys i none (get_or ys i none) within)
