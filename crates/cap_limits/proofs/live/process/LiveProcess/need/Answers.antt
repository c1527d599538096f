use Rattle.std.proofs.Common.{◌==◌, ◌∙◌, sym}
use Rattle.std.proofs.lemmas.Bool.{eqb-true}
use Rattle.cap_limits.specs.Code.Wanted.{wanted_of}
use Rattle.cap_limits.proofs.JoinedRights.{with_none}
use Rattle.cap_limits.proofs.live.process.LiveProcess.need.Goals as goal

pub returns-then-eq-clause-rights : goal.returns-then-eq-clause-rights
returns-then-eq-clause-rights c = λ f x.
    with_none (f == c.args.check.now.fd) (wanted_of c.args.self.now f x) c.args.check.now.needs
    (eqb-true c.args.check.now.needs c.none.result (sym c.eq.ensures ∙ c.if-eq.true) ∙ c.none.ensures.nothing)
