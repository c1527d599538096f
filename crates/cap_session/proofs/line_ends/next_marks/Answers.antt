use Rattle.std.proofs.Common.{drop, subst, arith}
use Rattle.std.proofs.lemmas.List.{take_rest}
use Rattle.cap_session.specs.Code.LineEnds.{AreMarks}
use Rattle.cap_session.proofs.LineMarks.{none_in_block}
use Rattle.cap_session.proofs.line_ends.next_marks.Goals as goal

pub loop-from-preserved : goal.loop-from-preserved
loop-from-preserved c =
    let text = c.args.text.now in
    let from = c.loop-from.from in
    let are : AreMarks (drop from text) 64 c.marks_of-marks.result =
    subst (λ t. AreMarks t 64 c.marks_of-marks.result) (take_rest text from) c.marks_of-marks.ensures in
    record {
      within = omega (arith, c.loop-from-test.true, c.loop-from.invariant.within);
      before = none_in_block text from c.marks_of-marks.result c.loop-from.invariant.before are c.if-marks-ne0.false;
    }
