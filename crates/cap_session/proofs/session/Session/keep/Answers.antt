use Rattle.std.proofs.Common.{◌∙◌, arith, refl, sym}
use Rattle.cap_session.proofs.LastReports.{found_there, of_now}
use Rattle.cap_session.proofs.session.Session.keep.Goals as goal

pub invariant_of-self : goal.invariant_of-self
invariant_of-self c =
    let is = c.self.invariant in
    let here = found_there _ c.args.self.now c.self.inside.tree c.self.view_is is.in_profile refl in
    record {
      in_profile = is.in_profile;
      few = is.few;
      most = is.most;
      report = of_now c.self.inside.setting c.self.inside.tree c.args.found.items c.of.result is.in_profile
          (omega (arith, is.few, is.most)) (c.requires ∙ sym here) c.of.ensures.trace c.of.ensures.found
          c.of.ensures.origins;
    }
