-- What an effect and a precondition say of the steps of a segment, whatever the state before them.
use Rattle.std.specs.Prelude.{◌≡◌, ◌*◌, ◌≤◌, ℕ, Bool, true, List, length}
use Rattle.cap_summary.specs.{Effects.changed, Effects.leaves, Keys.cells_of, Names.EffectWithin, Names.names_in, State}
use Rattle.cap_summary.specs.{Asks.has_any, Asks.refused, Keys.state_of, LeavesCell, LeavesMode, Step, check, ended}
use Rattle.cap_summary.specs.Preconditions.{AgreeIn, AllSaid, Possible, Within, asks_size, is_met}
use Rattle.cap_summary.specs.declared.{effect.Effect.Effect, known.Known.Known, precondition.Precondition.Precondition}
use Rattle.cap_summary.specs.declared.{key.Key.Key}

-- no step touches a cell, or turns a mode
abbrev pub StepsLeave : List Step → ℕ → Key → Type 0
StepsLeave steps p Key.Mode = LeavesMode steps p
StepsLeave steps p (Key.Fd f) = LeavesCell steps p f

-- In every state before the steps: each cell and each mode after them, and whether something is found in them. From two
-- states that agree in all that is asked the same is found. Nothing is asked that holds in no state, and nothing is listed,
-- read or asked that no line names. What is said to be left no step touches. A step asks at most three things, and adds a
-- refusal only if it was refused for lack of a right.
pub record Says (effect : Effect) (precondition : Precondition) (steps : List Step) : Type 0 where
  pub after : (s : State) (p : ℕ) (k : Key) → changed effect (cells_of s) p k ≡ cells_of (ended s steps) p k
  pub finds : (s : State) → is_met (cells_of s) precondition ≡ has_any (check s steps)
  pub same : (s r : State) → AgreeIn (cells_of s) (cells_of r) precondition → check s steps ≡ check r steps
  pub possible : AllSaid Possible precondition
  pub left : (p : ℕ) (k : Key) → leaves effect p k ≡ true → StepsLeave steps p k
  pub effect_named : EffectWithin (names_in steps) effect
  pub asks_named : AllSaid (Within (names_in steps)) precondition
  pub few : asks_size precondition ≤ 3 * length steps
  pub refusals : length precondition.refusals.items ≤ refused steps

abbrev pub Knows : Known → List Step → Type 0
Knows known steps = Says known.effect.value known.precondition.value steps

-- the state after the steps, and whether something is found in them, from a state before them
abbrev pub state_after : Known → State → State
state_after known s = state_of (changed known.effect.value (cells_of s))

abbrev pub finds : Known → State → Bool
finds known s = is_met (cells_of s) known.precondition.value
