-- What a line can touch.
use Rattle.std.proofs.Common.{◌≡◌, ℕ, ◌==◌, ◌&&◌, ◌||◌, not, Bool, true, false, if◌then◌else◌}
use Rattle.std.proofs.Common.{refl, sym, ap, ◌∙◌}
use Rattle.std.specs.List.{list_any}
use Rattle.std.proofs.lemmas.Bool.{or_parts, or_from, eqb-true, and_right}
use Rattle.cap_trace.specs.Item.{Item}
use Rattle.cap_trace.specs.Item as items
use Rattle.cap_trace.specs.Call.{Call}
use Rattle.cap_trace.specs.Call as calls
use Rattle.cap_trace.specs.declared.line.Answer.{Answer}
use Rattle.cap_trace.specs.declared.line.Answer.TheVariants as answers
use Rattle.cap_trace.specs.declared.calls.BareCall.{BareCall}
use Rattle.cap_trace.specs.declared.calls.BareCall.TheVariants.{Fork, Vfork, Pdfork, CapEnter}
use Rattle.cap_trace.specs.Entry.{args_of}
use Rattle.cap_machine.specs.declared.cell.Profile.{Profile}
use Rattle.cap_machine.specs.declared.rule.Effect.{Effect}
use Rattle.cap_machine.specs.declared.rule.Effect.TheVariants as effects
use Rattle.cap_machine.specs.Touch.{kept, stays, Turn, succeeded, call_turn, item_touch, item_turn}
use Rattle.cap_machine.specs.Effect.{effect_touch}
use Rattle.cap_machine.specs.Named.{arg_names, item_answer_names, is_fork, answer_makes, item_makes, is_whole_item}
use Rattle.cap_machine.specs.Named.{OwnProcesses, OwnModes, NamedDescriptors}
use Rattle.cap_machine.specs.Effect.{is_child}
use Rattle.cap_machine.proofs.LineEffects.{FdsNamed, IsSingle, item_done}

-- ---- another process

other_process : (effect : Effect) (me p f : ℕ) → (p == me) ≡ false → is_child effect p ≡ false
    → effect_touch effect me p f ≡ kept
other_process effects.Keep me p f other none = refl
other_process effects.Enter me p f other none = refl
other_process (effects.Fork child) me p f other none = rw none
other_process (effects.ForkAs child g) me p f other none = rw (other, none)
other_process _ me p f other none = rw other

neither : (a b : Bool) → (a ≡ true → b ≡ true) → b ≡ false → a ≡ false
neither true b under none = sym (under refl) ∙ none
neither false b under none = refl

item_other : (profile : Profile) (item : Item) (me p f : ℕ) → (p == me) ≡ false → item_makes p item ≡ false
    → item_touch profile item me p f ≡ kept
item_other profile (items.Start fs) me p f other none = rw other
item_other profile item me p f other none =
    let line = item_done profile item me tt in
    sym (line.does p f) ∙ other_process line.effect me p f other (neither (is_child line.effect p) _ (line.child p) none)

pub own_processes : OwnProcesses
own_processes step p f none =
    let parts = or_parts (p == step.line.pid) (item_makes p step.line.item) none in
    item_other step.profile step.line.item step.line.pid p f parts.0 parts.1

-- ---- modes

stays_if : (b : Bool) (t : Turn) → b ≡ false → (if b then t else stays) ≡ stays
stays_if true t never = absurd (cc)
stays_if false t never = refl

stays_unless_both : (a b : Bool) (t : Turn) → b ≡ false → (if a && b then t else stays) ≡ stays
stays_unless_both true b t never = stays_if b t never
stays_unless_both false b t never = refl

module _ (me p : ℕ) (other : (p == me) ≡ false) where
  bare_stays : (call : BareCall) (answer : Answer) → (is_fork (calls.Bare call) && answer_makes p answer) ≡ false
      → call_turn (calls.Bare call) answer me p ≡ stays
  bare_stays CapEnter answer no_child = stays_unless_both (succeeded answer) (p == me) _ other
  bare_stays Fork (answers.Made c) no_child = stays_if (not (c == 0) && p == c) _ no_child
  bare_stays Fork (answers.Pair c d) no_child = refl
  bare_stays Fork (answers.Fault e) no_child = refl
  bare_stays Vfork (answers.Made c) no_child = stays_if (not (c == 0) && p == c) _ no_child
  bare_stays Vfork (answers.Pair c d) no_child = refl
  bare_stays Vfork (answers.Fault e) no_child = refl
  bare_stays Pdfork (answers.Made c) no_child = refl
  bare_stays Pdfork (answers.Pair c d) no_child = stays_if (not (c == 0) && p == c) _ no_child
  bare_stays Pdfork (answers.Fault e) no_child = refl
  bare_stays _ answer no_child = refl

  call_stays : (call : Call) (answer : Answer) → (is_fork call && answer_makes p answer) ≡ false
      → call_turn call answer me p ≡ stays
  call_stays (calls.Bare call) answer no_child = bare_stays call answer no_child
  call_stays _ answer no_child = refl

  item_stays : (item : Item) → item_makes p item ≡ false → item_turn item me p ≡ stays
  item_stays (items.Call call answer) no_child = call_stays call answer no_child
  item_stays (items.Start fds) no_child = stays_if (p == me) _ other
  item_stays items.Exit no_child = stays_if (p == me) _ other
  item_stays (items.Foreign g) no_child = refl
  item_stays (items.Needs marker g rights) no_child = refl
  item_stays items.Global no_child = refl

pub own_modes : OwnModes
own_modes step p none =
    let parts = or_parts (p == step.line.pid) (item_makes p step.line.item) none in
    item_stays step.line.pid p parts.0 step.line.item parts.1

-- ---- descriptors

-- two descriptors, and one is named
pub apart : (named : ℕ → Bool) (f g : ℕ) → named f ≡ false → named g ≡ true → (f == g) ≡ false
apart named f g none is =
    neither (f == g) (named f) (λ same. ap named (eqb-true f g same) ∙ is) none

pub single_unnamed : (named : ℕ → Bool) (effect : Effect) (me p f : ℕ) → IsSingle effect → FdsNamed named effect
    → named f ≡ false → effect_touch effect me p f ≡ kept
single_unnamed named effects.Keep me p f single are none = refl
single_unnamed named effects.Enter me p f single are none = refl
single_unnamed named (effects.Give g c) me p f single are none =
    rw (and_right (p == me) (f == g) (apart named f g none are))
single_unnamed named (effects.GiveTwo g h c) me p f single are none =
    rw (and_right (p == me) (f == g || f == h)
    (or_from (f == g) (f == h) (apart named f g none are.0) (apart named f h none are.1)))
single_unnamed named (effects.Change g op h) me p f single are none =
    rw (and_right (p == me) (f == g) (apart named f g none are.0))
single_unnamed named _ me p f single are none = absurd single

item_unnamed : (profile : Profile) (item : Item) (me p f : ℕ) → is_whole_item item ≡ false
    → (list_any (arg_names f) (args_of item) || item_answer_names f item) ≡ false → item_touch profile item me p f ≡ kept
item_unnamed profile (items.Start fs) me p f part none = absurd (cc)
item_unnamed profile item me p f part none =
    let line = item_done profile item me tt in
    sym (line.does p f) ∙ single_unnamed (λ g. list_any (arg_names g) (args_of item) || item_answer_names g item)
    line.effect me p f (line.single part) line.fds none

pub named_descriptors : NamedDescriptors
named_descriptors step p f part none = item_unnamed step.profile step.line.item step.line.pid p f part none
