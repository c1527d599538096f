use Rattle.std.proofs.Common.{map, Bor}
use Rattle.clap.specs.Words.{Text}
use Rattle.capcheck.proofs.Fitting.{told_fits}
use Rattle.capcheck.proofs.plan.plan_of.Goals as goal

pub returns-in-Err : goal.returns-in-Err
returns-in-Err c =
    let words = map (λ (w : Bor Text). w.now) c.args.words.now in
    told_fits words c.plan_for_error.result c.in-Err.error c.in-Err.ensures.none c.plan_for_error.ensures
