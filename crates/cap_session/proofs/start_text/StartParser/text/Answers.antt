use Rattle.std.proofs.Common.{◌≡◌, ◌∙◌}
use Rattle.std.proofs.lemmas.Result.{err_from_is_err_and}
use Rattle.cap_session.specs.Code.StartLines.{Follows}
use Rattle.cap_session.proofs.Started.{through_first, through_line, through_bad, last_good, last_bad}
use Rattle.cap_session.proofs.start_text.StartParser.text.Goals as goal

pub loop-line-init : goal.loop-line-init
loop-line-init c = rw c.of-ends.ensures (through_first _ c.args.bytes.now c.requires.first)

pub loop-line-preserved : goal.loop-line-preserved
loop-line-preserved c =
    let here = c.loop-line in
    through_line {T = Unit {0}} _ _ c.args.bytes.now here.ends c.in-Some.line.now _ here.before (tt {0}) here.invariant
    c.in-Some.ensures c.in_ok-numbered.ensures

pub returns-in_err-numbered-clause-bad : goal.returns-in_err-numbered-clause-bad
returns-in_err-numbered-clause-bad c =
    let p = err_from_is_err_and c.from_residual.result c.from_residual.ensures.1 in
    let here = c.loop-line in
    rw (p.1, p.2) (through_bad (Unit {0}) _ (Follows c.numbered.new.self.kept c.numbered.new.self.low) c.args.bytes.now
    here.ends c.in-Some.line.now _ here.before _ here.invariant c.in-Some.ensures c.in_err-numbered.ensures)

pub returns-clause-good : goal.returns-clause-good
returns-clause-good c =
    let here = c.loop-line in
    let rest : c.rest.result.now ≡ here.ends = c.rest.ensures ∙ c.in_default.ensures.1 in
    last_good _ _ c.args.bytes.now here.ends here.before c.numbered-last.result here.invariant c.in_default.ensures.0
    (rw rest at c.numbered-last.ensures)

pub returns-clause-bad : goal.returns-clause-bad
returns-clause-bad c =
    let here = c.loop-line in
    let rest : c.rest.result.now ≡ here.ends = c.rest.ensures ∙ c.in_default.ensures.1 in
    last_bad _ _ c.args.bytes.now here.ends here.before c.numbered-last.result here.invariant c.in_default.ensures.0
    (rw rest at c.numbered-last.ensures)
