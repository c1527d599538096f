use Rattle.std.proofs.Common.{ℕ, ap, ◌∙◌}
use Rattle.std.proofs.lemmas.Result.{on_ok_weaker}
use Rattle.std.proofs.Math.Path.{fun_ext}
use Rattle.cap_machine.specs.declared.cell.OnExec.{OnExec}
use Rattle.cap_limits.specs.Code.Wanted.{with_requirement}
use Rattle.cap_limits.proofs.live.process.LiveProcess.pass.Goals as goal

pub returns-clause-rights : goal.returns-clause-rights
returns-clause-rights c =
    on_ok_weaker c.requirement.result
    (λ is f x. is f x ∙ ap (λ (u : ℕ → OnExec → ℕ). with_requirement c.args.requirement.now u f x)
    (fun_ext (λ g. fun_ext (λ y. c.in_ok-undo.ensures.rights g y))))
    c.requirement.ensures.rights
