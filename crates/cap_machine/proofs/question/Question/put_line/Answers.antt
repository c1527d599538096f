use Rattle.std.proofs.Common.{List, ◌++◌, ◌∙◌, sym, ap}
use Rattle.std.specs.Prelude.{flat_map}
use Rattle.std.proofs.lemmas.Result.{on_ok_weaker}
use Rattle.cap_machine.specs.declared.question.Question.{Question}
use Rattle.cap_machine.specs.declared.verdict.Finding.{Finding}
use Rattle.cap_machine.specs.declared.denial.Denial.{Denial}
use Rattle.cap_machine.specs.Check.{found_at}
use Rattle.cap_machine.specs.Report.{finding_line}
use Rattle.cap_machine.specs.Denials.{denied_at}
use Rattle.cap_machine.specs.DenialReport.{denial_line}
use Rattle.cap_machine.specs.Questions.{line_text}
use Rattle.cap_machine.specs.Code.Table.{state_of}
use Rattle.cap_machine.proofs.question.Question.put_line.Goals as goal

pub returns-in-Findings-clause-text : goal.returns-in-Findings-clause-text
returns-in-Findings-clause-text c =
    on_ok_weaker c.put_verdict.result
    (λ is. is
    ∙ ap (λ (fs : List Finding). c.args.out.now.items ++ flat_map (λ f. finding_line c.args.line.now (found_at c.args.at f)) fs)
    c.findings_by_rule.ensures
    ∙ ap (λ (q : Question). c.args.out.now.items ++ line_text q c.args.at c.args.line.now (state_of c.args.table.now))
    (sym c.in-Findings.is))
    c.put_verdict.ensures.text

pub returns-in-Denials-clause-text : goal.returns-in-Denials-clause-text
returns-in-Denials-clause-text c =
    on_ok_weaker c.put_denials.result
    (λ is. is
    ∙ ap (λ (ds : List Denial). c.args.out.now.items ++ flat_map (λ d. denial_line c.args.line.now (denied_at c.args.at d)) ds)
    c.denied_by_rule.ensures
    ∙ ap (λ (q : Question). c.args.out.now.items ++ line_text q c.args.at c.args.line.now (state_of c.args.table.now))
    (sym c.in-Denials.is))
    c.put_denials.ensures.text
