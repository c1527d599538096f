use Rattle.std.proofs.Common.{◌≡◌, ◌++◌, take}
use Rattle.std.specs.Prelude.{map}
use Rattle.cap_limits.specs.Limits.{row_of}
use Rattle.cap_session.specs.LimitScripts.{script_text, unknown_lines}
use Rattle.cap_session.proofs.limits_text.put_unknown.Given as goal

abbrev pub invariant-loop-limit : goal.invariant-loop-limit
invariant-loop-limit l = l.out.items
    ≡ l.fn.out.items ++ script_text (unknown_lines (map row_of (take l.limit-index l.limits)))
