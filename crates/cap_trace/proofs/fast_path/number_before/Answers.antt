use Rattle.std.proofs.Common.{arith}
use Rattle.cap_trace.proofs.Numbers.{digits_none, digits_more, few_digits}
use Rattle.cap_trace.proofs.Numerals.{number_ends}
use Rattle.cap_trace.proofs.fast_path.number_before.Goals as goal
use Rattle.cap_trace.proofs.fast_path.number_before.Goals.{else-i-eq1-via-then-i-eq1+else-text-eq48, else-i-eq1-via-else-i-eq1}

pub loop-i-init : goal.loop-i-init
loop-i-init c = (digits_none c.args.text.now, λ z. omega arith)

pub returns-in_default : goal.returns-in_default
returns-in_default c =
    number_ends c.loop-i.invariant.0 (omega (arith, c.if-text-lt-MOST_BYTES.false, c.loop-i-test.true))
    c.if-byte-stop.false c.if-i-eq0.false c.loop-i.invariant.1 (omega (arith, c.loop-i.auto.number-fits))

pub loop-i-preserved : goal.loop-i-preserved
loop-i-preserved c = (
  digits_more c.loop-i.invariant.0 (omega (arith, c.if-text-lt-MOST_BYTES.false, c.loop-i-test.true))
      c.in-Some.ensures.0 (omega (arith, c.in-Some.ensures.1)),
  elim c.else-i-eq1.branch [
    | else-i-eq1-via-then-i-eq1+else-text-eq48 w ↦ λ z. absurd (w.if-text-eq48.false z)
    | else-i-eq1-via-else-i-eq1 w ↦ λ z. omega (arith, c.loop-i.invariant.1 z, w.if-i-eq1.false)
  ],
)

pub overflow_mul-number : goal.overflow_mul-number
overflow_mul-number c = omega (arith, few_digits 7 c.loop-i.invariant.0 (omega (arith, c.loop-i-test.true)))

pub overflow_add-number : goal.overflow_add-number
overflow_add-number c =
    omega (arith, few_digits 7 c.loop-i.invariant.0 (omega (arith, c.loop-i-test.true)), c.in-Some.ensures.2)
