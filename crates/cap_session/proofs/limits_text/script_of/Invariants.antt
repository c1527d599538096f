use Rattle.std.proofs.Common.{◌≡◌, take}
use Rattle.cap_session.specs.LimitScripts.{maker_lines}
use Rattle.cap_session.proofs.limits_text.script_of.Given as goal

abbrev pub invariant-loop-row : goal.invariant-loop-row
invariant-loop-row l = l.text.items ≡ maker_lines (take l.row-index l.rows)
