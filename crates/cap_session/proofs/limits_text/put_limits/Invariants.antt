use Rattle.std.proofs.Common.{◌≡◌, ◌+◌, ◌++◌, take}
use Rattle.cap_session.specs.LimitScripts.{insertions, script_text}
use Rattle.cap_session.proofs.LimitTexts.{limit_lines}
use Rattle.cap_session.proofs.limits_text.put_limits.Given as goal

abbrev pub invariant-loop-limit : goal.invariant-loop-limit
invariant-loop-limit l = (l.out.items
    ≡ l.fn.out.items ++ script_text (insertions l.at (limit_lines l.pid (take l.limit-index l.limits))))
    × (l.next ≡ l.at + l.limit-index)
