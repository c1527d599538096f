use Rattle.std.proofs.Common.{◌∙◌, refl}
use Rattle.cap_session.proofs.LastReports.{found_there, last_of, none_is, stands}
use Rattle.cap_session.proofs.session.Session.is_clean.Goals as goal

pub returns-then-stands-clause-clean : goal.returns-then-stands-clause-clean
returns-then-stands-clause-clean c =
    let last = last_of _ _ _ c.in-Some.last c.in-Some.is c.self.invariant.report in
    let here = found_there _ c.args.self.now c.self.inside.tree c.self.view_is c.self.invariant.in_profile refl in
    none_is c.in-Some.last.found.items _ _ _ c.is_empty.ensures c.in-Some.last.found.ok.0
    (stands _ _ _ last (c.stands.ensures c.if-stands.true) ∙ here)
