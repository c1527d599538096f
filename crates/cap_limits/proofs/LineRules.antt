-- The rule of a line, whose process is read from the line.
use Rattle.std.proofs.Common.{◌≡◌, ℕ, sym, ap, ◌∙◌}
use Rattle.cap_trace.specs.Item.{Item}
use Rattle.cap_trace.specs.Item as items
use Rattle.cap_trace.specs.Call as calls
use Rattle.cap_trace.specs.Entry.{Entry}
use Rattle.cap_trace.specs.declared.calls.FdCall.{FdCall}
use Rattle.cap_trace.specs.declared.line.Answer.{Answer}
use Rattle.cap_machine.specs.declared.cell.Profile.{Profile}
use Rattle.cap_machine.specs.declared.rule.Requirement.{Requirement}
use Rattle.cap_machine.specs.declared.rule.Effect.{Effect}
use Rattle.cap_machine.specs.Effect.{effect_touch, effect_turn}
use Rattle.cap_limits.specs.Code.LiveRights.{IsRule}
use Rattle.cap_machine.specs.Rule.{requirement, item_requirement, fd_requirement}
use Rattle.cap_machine.specs.Steps.{step}
use Rattle.cap_machine.specs.Touch.{stays, touch, turn, fd_touch, item_touch, item_turn}

module _ (profile : Profile) (line : Entry) (read : Entry) (d : Requirement) (effect : Effect) where
  pub rule_of_line : read ≡ line → d ≡ requirement line
      → ((p f : ℕ) → effect_touch effect line.pid p f ≡ touch (step profile line) p f)
      → ((p : ℕ) → effect_turn effect line.pid p ≡ turn (step profile line) p)
      → IsRule (step profile line) read.pid d effect
  rule_of_line same judged touches turns =
      let owner : read.pid ≡ line.pid = ap (λ (e : Entry). e.pid) same in
      record {
        owner = owner;
        judged = judged;
        touches = λ p f. ap (λ (me : ℕ). effect_touch effect me p f) owner ∙ touches p f;
        turns = λ p. ap (λ (me : ℕ). effect_turn effect me p) owner ∙ turns p;
      }

  -- of a line with a call on one descriptor
  pub rule_on_fd : (call : FdCall) (fd : ℕ) (answer : Answer) → line.item ≡ items.Call (calls.OnFd call fd) answer
      → read ≡ line → d ≡ fd_requirement call fd answer
      → ((me p f : ℕ) → effect_touch effect me p f ≡ fd_touch profile call fd answer me p f)
      → ((me p : ℕ) → effect_turn effect me p ≡ stays) → IsRule (step profile line) read.pid d effect
  rule_on_fd call fd answer calls_it same judged touches turns =
      rule_of_line same (judged ∙ ap item_requirement (sym calls_it))
      (λ p f. touches line.pid p f ∙ ap (λ (i : Item). item_touch profile i line.pid p f) (sym calls_it))
      (λ p. turns line.pid p ∙ ap (λ (i : Item). item_turn i line.pid p) (sym calls_it))
