use Rattle.std.proofs.Common.{◌≤◌, length}
use Rattle.cap_trace.proofs.Numerals.{Digits, LoneZero}
use Rattle.cap_trace.proofs.fast_path.short_number_of.Given as goal

abbrev pub invariant-loop-i : goal.invariant-loop-i
invariant-loop-i l = Digits l.text l.i l.number × (l.i ≤ length l.text) × LoneZero l.text l.i
