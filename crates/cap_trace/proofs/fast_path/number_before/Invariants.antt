use Rattle.cap_trace.proofs.Numerals.{Digits, LoneZero}
use Rattle.cap_trace.proofs.fast_path.number_before.Given as goal

abbrev pub invariant-loop-i : goal.invariant-loop-i
invariant-loop-i l = Digits l.text l.i l.number × LoneZero l.text l.i
