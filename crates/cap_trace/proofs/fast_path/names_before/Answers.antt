use Rattle.std.proofs.Common.{◌≡◌, true, get_or, arith}
use Rattle.std.specs.Char.{is_ascii_uppercase}
use Rattle.cap_trace.proofs.ByteRuns.{flags_end, bar_read}
use Rattle.cap_trace.proofs.fast_path.names_before.Goals as goal

pub returns-then-text-end : goal.returns-then-text-end
returns-then-text-end c =
    let upper : is_ascii_uppercase (get_or c.args.text.now c.loop-from.from 0) ≡ true = cc in
    flags_end c.args.stop c.args.text.now c.loop-from.from c.in_ok-end.end (omega (arith, c.in_ok-end.ensures.0))
    c.in_ok-end.ensures.1 c.loop-from.invariant.1 upper c.in_ok-end.ensures.2 c.if-text-end.true

pub loop-from-preserved : goal.loop-from-preserved
loop-from-preserved c =
    let upper : is_ascii_uppercase (get_or c.args.text.now c.loop-from.from 0) ≡ true = cc in (
      omega (arith, c.in_ok-end.ensures.1),
      bar_read c.args.text.now c.loop-from.from c.in_ok-end.end (omega (arith, c.in_ok-end.ensures.0))
          c.in_ok-end.ensures.1 c.loop-from.invariant.1 upper c.in_ok-end.ensures.2 c.if-text-end-ne124.false,
    )
