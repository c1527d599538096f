use Rattle.std.proofs.Common.{subst}
use Rattle.cap_trace.specs.Entry.{args_of}
use Rattle.cap_trace.specs.Views.{item_view}
use Rattle.cap_trace.specs.declared.line.Item.{Item}
use Rattle.cap_machine.specs.Effect.{FdsWithin}
use Rattle.cap_machine.proofs.Within.{proper_within}
use Rattle.cap_machine.proofs.effects.effect_of_line.Goals as goal

pub effect_of-requires-clause-within : goal.effect_of-requires-clause-within
effect_of-requires-clause-within c =
    subst (λ (i : Item). FdsWithin (args_of (item_view i))) c.in-Call.is (proper_within _ c.line.invariant)

pub returns-in-Foreign-clause-within : goal.returns-in-Foreign-clause-within
returns-in-Foreign-clause-within c =
    (subst (λ (i : Item). FdsWithin (args_of (item_view i))) c.in-Foreign.is (proper_within _ c.line.invariant)).0
