-- What is known of the rights that are live, and of the lines that are in the way of capability mode.
use Rattle.std.specs.Prelude.{◌≡◌, ◌↔◌, ℕ, ◌<◌, true, List}
use Rattle.cap_rights.specs.Rights.{holds}
use Rattle.cap_machine.specs.declared.cell.OnExec.{OnExec}
use Rattle.cap_machine.specs.declared.step.Step.{Step}
use Rattle.cap_limits.specs.declared.live.LiveRights.{LiveRights}
use Rattle.cap_machine.specs.declared.rule.Requirement.{Requirement}
use Rattle.cap_machine.specs.declared.rule.Effect.{Effect}
use Rattle.cap_machine.specs.Rule.{requirement}
use Rattle.cap_machine.specs.Touch.{touch, turn}
use Rattle.cap_machine.specs.Effect.{effect_touch, effect_turn}
use Rattle.cap_limits.specs.Live.{Live, IsFirstBlock}
use Rattle.cap_limits.specs.Code.Wanted.{wanted, blocked}

-- these are just the rights, of those by name, that are live in each cell before these steps
abbrev pub AreLive : LiveRights → List Step → Type 0
AreLive live later = (p f : ℕ) (x : OnExec) (k : ℕ) → k < 63
    → (holds (wanted live p f x) k ≡ true) ↔ Live later p f x k

abbrev pub AreBlocked : LiveRights → ℕ → List Step → Type 0
AreBlocked live at later = (p : ℕ) → IsFirstBlock later at p (blocked live p)

-- a step of process me is judged by this, and does this
pub record IsRule (step : Step) (me : ℕ) (d : Requirement) (effect : Effect) : Type 0 where
  pub owner : me ≡ step.line.pid
  pub judged : d ≡ requirement step.line
  pub touches : (p f : ℕ) → effect_touch effect me p f ≡ touch step p f
  pub turns : (p : ℕ) → effect_turn effect me p ≡ turn step p
