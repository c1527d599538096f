use Rattle.std.proofs.Common.{arith, refl, rules}
use Rattle.cap_machine.specs.Denials.{denied, denied_at}
use Rattle.cap_machine.specs.DenialLaws.{denied_later}
use Rattle.cap_machine.specs.State.{start_state}
use Rattle.cap_machine.proofs.OneMore.{told_line}
use Rattle.cap_machine.proofs.denying.denials.Goals as goal

pub loop-i-preserved : goal.loop-i-preserved
loop-i-preserved c =
    told_line _ _ denied_at denied denied_later (λ n i x. refl) c.args.profile (start_state c.args.start.now) c.args.lines.now
    c.loop-i.i c.index-lines-i.result c.loop-i.table c.take_denied.new.table c.loop-i.all.items c.add_denials.new.all.items _
    (omega arith) c.index-lines-i.is c.in_ok-found.ensures.moved c.in_ok-found.ensures.says c.in_ok-add_denials.ensures
    c.loop-i.invariant

-- The search is written out since a wrong body is refused sooner so (docs/GATE.md).
pub loop-i-init : goal.loop-i-init
loop-i-init c = search rules
