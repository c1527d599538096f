-- An effect that gives single cells a value turns no mode, stays within the limit, and hands no table on.
use Rattle.std.proofs.Common.{◌≡◌, ℕ, refl, false}
use Rattle.cap_machine.specs.declared.rule.Effect.{Effect}
use Rattle.cap_machine.specs.declared.rule.Effect.TheVariants.{Keep, Start, Exit, Forget, Exec, CloseFrom, Enter, Give}
use Rattle.cap_machine.specs.declared.rule.Effect.TheVariants.{GiveTwo, Change, Fork, ForkAs}
use Rattle.cap_machine.specs.Effect.{OnlyCells, IsWithin, effect_turn, is_on_table}
use Rattle.cap_machine.specs.Touch.{stays}

pub turns : (effect : Effect) → OnlyCells effect → (me p : ℕ) → effect_turn effect me p ≡ stays
turns Keep single me p = refl
turns (Give g c) single me p = refl
turns (GiveTwo g h c) single me p = refl
turns (Change g op h) single me p = refl
turns (Start fds) single me p = absurd single
turns Exit single me p = absurd single
turns Forget single me p = absurd single
turns Exec single me p = absurd single
turns (CloseFrom n) single me p = absurd single
turns Enter single me p = absurd single
turns (Fork child) single me p = absurd single
turns (ForkAs child g) single me p = absurd single

pub within : (effect : Effect) → OnlyCells effect → IsWithin effect
within Keep single = single
within (Give g c) single = single
within (GiveTwo g h c) single = single
within (Change g op h) single = single
within (Start fds) single = absurd single
within Exit single = absurd single
within Forget single = absurd single
within Exec single = absurd single
within (CloseFrom n) single = absurd single
within Enter single = absurd single
within (Fork child) single = absurd single
within (ForkAs child g) single = absurd single

pub tables : (effect : Effect) → OnlyCells effect → is_on_table effect ≡ false
tables Keep single = refl
tables (Give g c) single = refl
tables (GiveTwo g h c) single = refl
tables (Change g op h) single = refl
tables (Start fds) single = absurd single
tables Exit single = absurd single
tables Forget single = absurd single
tables Exec single = absurd single
tables (CloseFrom n) single = absurd single
tables Enter single = absurd single
tables (Fork child) single = absurd single
tables (ForkAs child g) single = absurd single
