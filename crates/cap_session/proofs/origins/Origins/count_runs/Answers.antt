use Rattle.std.proofs.Common.{◌∙◌, sym, ap, refl, inl}
use Rattle.cap_session.specs.Origins.{runs_in}
use Rattle.cap_session.proofs.RunSpread.{count_of_runs}
use Rattle.cap_session.proofs.origins.Origins.count_runs.Goals as goal

pub returns : goal.returns
returns c = c.len.ensures ∙ c.self.inside.runs.ok.0
    ∙ sym (count_of_runs 0 0 0 c.self.inside.count _ c.self.inside.runs.items c.self.invariant.order
    c.self.invariant.within_now (inl refl))
    ∙ ap runs_in c.self.view_is
