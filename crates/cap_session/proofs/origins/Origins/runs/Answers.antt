use Rattle.std.proofs.Common.{List, arith, subst, sym, ℕ}
use Rattle.std.specs.Prelude.{Option}
use Rattle.std.specs.List.{AllZip}
use Rattle.cap_summary.specs.KeptRuns.{AreKeptRuns}
use Rattle.cap_summary.specs.declared.kept_run.KeptRun.{KeptRun}
use Rattle.cap_session.specs.Session.{StoodThere}
use Rattle.cap_session.proofs.KeptRunsOf.{runs_are_kept}
use Rattle.cap_session.proofs.RunEdits.{count_is}
use Rattle.cap_session.proofs.StoodThere.{zip_long}
use Rattle.cap_session.proofs.origins.Origins.runs.Goals as goal

pub returns : goal.returns
returns c before now all =
    let inside = subst (λ (l : List (Option ℕ)). AllZip (StoodThere before) l now) (sym c.self.view_is) all in
    let long = zip_long (StoodThere before) _ now inside in
    subst (λ (l : List KeptRun). AreKeptRuns before now l) (sym c.as_slice.ensures.value)
    (runs_are_kept before now c.self.inside.count c.self.inside.runs.items c.self.invariant.order
    c.self.invariant.within_now (omega (arith, long, count_is _ _ c.self.invariant)) inside)
