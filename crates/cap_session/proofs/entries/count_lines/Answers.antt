use Rattle.std.proofs.Common.{◌∙◌, arith, sym}
use Rattle.cap_session.proofs.Counting.{is_shorter, no_more, none_left, one_more}
use Rattle.cap_session.proofs.entries.count_lines.Goals as goal

pub loop-line-preserved-then-not-is_skipped : goal.loop-line-preserved-then-not-is_skipped
loop-line-preserved-then-not-is_skipped c =
    let more = one_more c.loop-line.ends c.in-Some.line.now c.next.new.self c.in-Some.ensures
    (sym c.is_skipped.ensures ∙ c.if-not-is_skipped.true) in
    let shorter = is_shorter c.loop-line.ends c.in-Some.line.now c.next.new.self c.in-Some.ensures in
    record {
      counted = omega (arith, c.loop-line.invariant.counted, more);
      few = omega (arith, c.loop-line.invariant.few, shorter);
    }

pub loop-line-preserved : goal.loop-line-preserved
loop-line-preserved c =
    let same = no_more c.loop-line.ends c.in-Some.line.now c.next.new.self c.in-Some.ensures
    (sym c.is_skipped.ensures ∙ c.if-not-is_skipped.false) in
    let shorter = is_shorter c.loop-line.ends c.in-Some.line.now c.next.new.self c.in-Some.ensures in
    record {
      counted = omega (arith, c.loop-line.invariant.counted, same);
      few = omega (arith, c.loop-line.invariant.few, shorter);
    }

pub returns : goal.returns
returns c =
    let none = none_left c.loop-line.ends c.in_default.ensures.0 in
    omega (arith, c.loop-line.invariant.counted, none)
