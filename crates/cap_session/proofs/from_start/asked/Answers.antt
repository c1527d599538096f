use Rattle.std.proofs.Common.{[], subst, sym}
use Rattle.cap_machine.specs.Code.Checked.{IsAsked}
use Rattle.cap_machine.specs.declared.question.Question.{Question}
use Rattle.cap_session.proofs.from_start.asked.Goals as goal

pub returns-in-Denials : goal.returns-in-Denials
returns-in-Denials c = λ profile s begins.
    subst (λ (question : Question). IsAsked c.for_denials.result question profile s []) (sym c.in-Denials.is)
    (c.for_denials.ensures profile s begins)
