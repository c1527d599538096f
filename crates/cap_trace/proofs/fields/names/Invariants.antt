use Rattle.std.proofs.Common.{◌≡◌, not, true, drop}
use Rattle.cap_trace.specs.Steps.{takes_all}
use Rattle.cap_trace.specs.Code.FlagSteps.{flag_step}
use Rattle.cap_trace.proofs.fields.names.Given as goal

abbrev pub invariant-loop-byte : goal.invariant-loop-byte
invariant-loop-byte l =
    takes_all flag_step not l.begins (drop l.byte-index l.text) ≡ takes_all flag_step not true l.text
