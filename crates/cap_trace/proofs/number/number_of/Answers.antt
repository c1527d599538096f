use Rattle.std.proofs.Common.{None, Some, rules}
use Rattle.cap_trace.specs.Number.{num_at, digits_at}
use Rattle.cap_trace.proofs.Numerals.{num_found, num_only}
use Rattle.cap_trace.proofs.number.number_of.Goals as goal

pub returns-then-is_empty-clause-only : goal.returns-then-is_empty-clause-only
unfolding num_at digits_at
returns-then-is_empty-clause-only c =
    num_only c.args.most c.args.text.now None (search rules) c.ranges.most.fits

pub returns-in_err-number-clause-only : goal.returns-in_err-number-clause-only
unfolding num_at digits_at
returns-in_err-number-clause-only c =
    num_only c.args.most c.args.text.now c.from_residual.result (search rules) c.ranges.most.fits

pub returns-then-number-most-clause-found : goal.returns-then-number-most-clause-found
unfolding num_at digits_at
returns-then-number-most-clause-found c =
    num_found c.args.most c.args.text.now c.in_ok-number.number (search rules)

pub returns-then-number-most-clause-only : goal.returns-then-number-most-clause-only
unfolding num_at digits_at
returns-then-number-most-clause-only c =
    num_only c.args.most c.args.text.now (Some c.in_ok-number.number) (search rules) c.ranges.most.fits

pub returns-else-number-most-clause-only : goal.returns-else-number-most-clause-only
unfolding num_at digits_at
returns-else-number-most-clause-only c =
    num_only c.args.most c.args.text.now None (search rules) c.ranges.most.fits
