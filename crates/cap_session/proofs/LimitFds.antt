-- Descriptors within the limit: those that stand in a state and are held, and those in which a right is live. And which
-- rights are live: with each right all that its name stands for.
use Rattle.std.proofs.Common.{◌≡◌, ℕ, ◌<◌, ◌==◌, ◌&&◌, if◌then◌else◌, Bool, true, false, List, [], ◌∷◌, sym, subst}
use Rattle.std.proofs.Common.{inl, inr, arith, Option, Some, None}
use Rattle.std.specs.List.{All, list_any}
use Rattle.std.proofs.lemmas.Bool.{and_parts, and_from, eqb-true, cases_lt, or_cases}
use Rattle.std.proofs.lemmas.List.Elements.{All-head, All-nil, All-tail}
use Rattle.cap_rights.specs.Names.{value_at}
use Rattle.cap_rights.specs.Rights.{all, holds, IsRightSet}
use Rattle.cap_rights.specs.Text.{text}
use Rattle.cap_rights.proofs.Members.{holds_above}
use Rattle.cap_rights.proofs.Table.{names_no_full}
use Rattle.cap_trace.specs.Entry.{Entry, IsFd, args_of}
use Rattle.cap_machine.specs.declared.cell.Cell.{Cell}
use Rattle.cap_machine.specs.declared.cell.Cell.TheVariants.{Unknown, Closed, Held}
use Rattle.cap_machine.specs.declared.cell.OnExec.{OnExec}
use Rattle.cap_machine.specs.declared.cell.OnExec.TheVariants as flags
use Rattle.cap_machine.specs.declared.cell.HeldOp.{HeldOp}
use Rattle.cap_machine.specs.declared.cell.HeldOp.TheVariants.{Becomes, Keeps}
use Rattle.cap_machine.specs.declared.cell.Op.{Op}
use Rattle.cap_machine.specs.declared.rule.Check.{Check}
use Rattle.cap_machine.specs.declared.step.Step.{Step}
use Rattle.cap_machine.specs.History.{touched, cell_after}
use Rattle.cap_machine.specs.Judge.{listed}
use Rattle.cap_limits.specs.Limits.{IsLeast}
use Rattle.cap_limits.specs.Live.{Live, HandsOn, Passes, step_needs, checks_need, is_success}
use Rattle.cap_machine.specs.Named.{args_name}
use Rattle.cap_machine.specs.Op.{applied, held_op, masked}
use Rattle.cap_machine.specs.Rule.{requirement}
use Rattle.cap_limits.specs.Standing.{Stands, StandsBy, IsHeld, start_lists}
use Rattle.cap_machine.specs.State.{last_cells}
use Rattle.cap_machine.specs.State.{State, Added}
use Rattle.cap_machine.specs.Touch.{Touch, kept, given, taken, touch}
use Rattle.cap_limits.proofs.LimitLeast.{needing}
use Rattle.cap_machine.proofs.NamedFds.{named_checks}
use Rattle.cap_session.specs.LimitScriptLaws.{IsNamed}
use Rattle.cap_session.specs.LimitTextLaws.{IsListedCell, IsSpelledStart}
use Rattle.cap_session.proofs.ClosedSets.{IsClosed, all_closed, meet_closed, closed_named}
use Rattle.cap_session.proofs.ClosedNeeds.{needs_more, item_checks}
use Rattle.cap_session.proofs.FineLines.{FineLine, args_within, same_fd}
use Rattle.cap_session.proofs.FineTouches.{ClosedMask, ClosedHeld, ClosedOp, FineTouch, KeepsUnheld, KeepsNone}
use Rattle.cap_session.proofs.FineTouches.{touch_fine}
use Rattle.cap_session.proofs.LimitCells.{AllFine, IsSpelledAdded}

-- ---- descriptors that stand

listed_within : (f : ℕ) (cells : List (ℕ × Cell)) → All IsListedCell cells
    → list_any (λ (entry : ℕ × Cell). f == entry.0) cells ≡ true → IsFd f
listed_within f [] are is = absurd (cc)
listed_within f (entry ∷ more) are is =
    elim (or_cases (f == entry.0) (list_any (λ (entry : ℕ × Cell). f == entry.0) more) is) [
      | inl here ↦ same_fd f entry.0 here (All-head IsListedCell entry more are).0
      | inr later ↦ listed_within f more (All-tail IsListedCell entry more are) later
    ]

last_listed : (cells : List (ℕ × Cell)) (start : List Added) (p : ℕ) → All IsListedCell cells → IsSpelledStart start
    → All IsListedCell (last_cells cells start p)
last_listed cells [] p are spelled = are
last_listed cells (added ∷ more) p are spelled =
    last_listed (if p == added.pid then added.cells else cells) more p
    (either (p == added.pid) added.cells cells (All-head IsSpelledAdded added more spelled).1 are)
    (All-tail IsSpelledAdded added more spelled)
  where
    either : (b : Bool) (xs ys : List (ℕ × Cell)) → All IsListedCell xs → All IsListedCell ys
        → All IsListedCell (if b then xs else ys)
    either true xs ys one other = one
    either false xs ys one other = other

start_within : (start : List Added) (p f : ℕ) → IsSpelledStart start → start_lists start p f ≡ true → IsFd f
start_within start p f are is =
    listed_within f (last_cells [] start p) (last_listed [] start p (All-nil IsListedCell) are) is

was_held : (op : Op) (c : Cell) → KeepsUnheld op → IsHeld (applied op c) → IsHeld c
was_held op Unknown unheld is = absurd (unheld.0 is)
was_held op Closed unheld is = absurd (unheld.1 is)
was_held op (Held rights flag) unheld is = tt

module _ (start : List Added) (s : State) (spelled : IsSpelledStart start) where
  touched_within : (step : Step) (history : List Step) (p f : ℕ) (t : Touch) → FineTouch (KeepsNone step p) f t
      → ((q g : ℕ) → IsHeld (cell_after s history q g) → Stands start history q g → IsFd g)
      → IsHeld (touched t (cell_after s history) p f) → StandsBy t (touch step p) (Stands start history) p f → IsFd f
  touched_within step history p f kept fine before is stands = before p f is stands
  touched_within step history p f (given c) fine before is stands = fine.1 is
  touched_within step history p f (taken op q g) fine before is stands = elim fine.1 [
    | inl both ↦ both.0
    | inr own ↦ elim stands [
      | inl alone ↦ absurd (own.2 alone.0 alone.1)
      | inr there ↦ subst IsFd own.0 (before q g (was_held op (cell_after s history q g) own.1 is) there)
    ]
  ]

  -- a descriptor that is known by itself and held
  pub standing_within : (history : List Step) (p f : ℕ) → AllFine history → IsHeld (cell_after s history p f)
      → Stands start history p f → IsFd f
  standing_within [] p f are is stands = start_within start p f spelled stands
  standing_within (step ∷ history) p f are is stands =
      touched_within step history p f (touch step p f) (touch_fine step p f are.0)
      (λ q g. standing_within history q g are.1) is stands

-- ---- descriptors in which a right is live

checks_within : (line : Entry) (checks : List Check) (f k : ℕ) → FineLine line
    → All (λ (check : Check). args_name check.fd line ≡ true) checks → checks_need checks f k ≡ true → IsFd f
checks_within line [] f k fine are is = absurd (cc)
checks_within line (check ∷ checks) f k fine are is =
    elim (or_cases (check.fd == f && holds check.needs k) (checks_need checks f k) is) [
      | inl here ↦ (let parts = and_parts (check.fd == f) (holds check.needs k) here in
          subst IsFd (eqb-true check.fd f parts.0) (args_within check.fd (args_of line.item) fine.args
          (All-head (λ (check : Check). args_name check.fd line ≡ true) check checks are)))
      | inr later ↦ checks_within line checks f k fine
          (All-tail (λ (check : Check). args_name check.fd line ≡ true) check checks are) later
    ]

needed_within : (step : Step) (p f k : ℕ) → FineLine step.line → step_needs step p f k ≡ true → IsFd f
needed_within step p f k fine is =
    checks_within step.line (listed (requirement step.line).checks) f k fine (named_checks step.line)
    (needing step p f k is).needs

source_within : (Every : Type 0) (t : Touch) (p f : ℕ) (x : OnExec) (q g : ℕ) (y : OnExec) (k : ℕ)
    → FineTouch Every g t → Passes t p f x q g y k → IsFd g → IsFd f
source_within Every kept p f x q g y k fine passes is = subst IsFd passes.1 is
source_within Every (given c) p f x q g y k fine passes is = absurd passes
source_within Every (taken op from g0) p f x q g y k fine passes is = elim fine.1 [
  | inl both ↦ subst IsFd passes.1 both.1
  | inr own ↦ subst IsFd passes.1 (subst IsFd (sym own.0) is)
]

pub live_within : (later : List Step) (p f : ℕ) (x : OnExec) (k : ℕ) → AllFine later → Live later p f x k → IsFd f
live_within [] p f x k are live = absurd live
live_within (step ∷ later) p f x k are live = elim live [
  | inl needs ↦ needed_within step p f k are.0 needs
  | inr on ↦ source_within (KeepsNone step on.0) (touch step on.0 on.1) p f x on.0 on.1 on.2 k
      (touch_fine step on.0 on.1 are.0) on.3 (live_within later on.0 on.1 on.2 k are.1 on.4)
]

-- ---- live rights

needs_with : (step : Step) (p f k j : ℕ) → FineLine step.line → k < 63 → holds (value_at k) j ≡ true
    → step_needs step p f k ≡ true → step_needs step p f j ≡ true
needs_with step p f k j fine lt value is =
    let d = requirement step.line in
    let first = and_parts (is_success d.reply) (p == step.line.pid && checks_need (listed d.checks) f k) is in
    let second = and_parts (p == step.line.pid) (checks_need (listed d.checks) f k) first.1 in
    and_from (is_success d.reply) (p == step.line.pid && checks_need (listed d.checks) f j) first.0
    (and_from (p == step.line.pid) (checks_need (listed d.checks) f j) second.0
    (needs_more (listed d.checks) f k j lt value (item_checks step.line.item fine.args) second.1))

all_masked : (mask : Option ℕ) → ClosedMask mask → IsClosed (masked mask all)
all_masked None is = all_closed
all_masked (Some mask) is = meet_closed all mask all_closed is

hands_with : (op : HeldOp) (y : OnExec) (k j : ℕ) → k < 63 → holds (value_at k) j ≡ true → ClosedHeld op
    → HandsOn op y k → HandsOn op y j
hands_with (Becomes c) y k j lt value is hands = absurd hands
hands_with (Keeps mask flag) y k j lt value is hands =
    (hands.0, (all_masked mask is).closed k j lt value hands.1)

held_closed : (op : Op) (x : OnExec) → ClosedOp op → ClosedHeld (held_op op x)
held_closed op flags.Set is = is.2
held_closed op flags.Clear is = is.3
held_closed op flags.Unsure is = is.4

passes_with : (Every : Type 0) (t : Touch) (p f : ℕ) (x : OnExec) (q g : ℕ) (y : OnExec) (k j : ℕ) → k < 63
    → holds (value_at k) j ≡ true → FineTouch Every g t → Passes t p f x q g y k → Passes t p f x q g y j
passes_with Every kept p f x q g y k j lt value fine passes = passes
passes_with Every (given c) p f x q g y k j lt value fine passes = passes
passes_with Every (taken op from g0) p f x q g y k j lt value fine passes = (
  passes.0,
  passes.1,
  hands_with (held_op op x) y k j lt value (held_closed op x fine.0) passes.2,
)

-- where a right is live, so is each right that its name stands for
live_with : (later : List Step) (p f : ℕ) (x : OnExec) (k j : ℕ) → AllFine later → k < 63
    → holds (value_at k) j ≡ true → Live later p f x k → Live later p f x j
live_with [] p f x k j are lt value live = live
live_with (step ∷ later) p f x k j are lt value live = elim live [
  | inl needs ↦ inl (needs_with step p f k j are.0 lt value needs)
  | inr on ↦ inr (
    on.0,
    on.1,
    on.2,
    passes_with (KeepsNone step on.0) (touch step on.0 on.1) p f x on.0 on.1 on.2 k j lt value
        (touch_fine step on.0 on.1 are.0) on.3,
    live_with later on.0 on.1 on.2 k j are.1 lt value on.4,
  )
]

-- no name stands for FULL
by_name : (k j : ℕ) → k < 63 → holds (value_at k) j ≡ true → j < 63
by_name k j lt value = elim (cases_lt j 63) [
  | inl less ↦ less
  | inr le ↦ absurd (let above = holds_above (value_at k) 63 j (names_no_full k (omega arith)) le in cc)
]

-- the least rights of a cell that holds a closed set are closed, so some text names them
pub least_named : (later : List Step) (p f rights : ℕ) (flag : OnExec) (least : ℕ) → AllFine later → IsClosed rights
    → IsLeast later p f rights flag least → IsNamed least
least_named later p f rights flag least are is has =
    let set : IsRightSet least = λ full. absurd (omega (arith, has.0, full)) in
    let closed : IsClosed least = record {
      closed = λ k j lt value holding. (let both = (has.1 k lt).0 holding in
          (has.1 j (by_name k j lt value)).1
          (is.closed k j lt value both.0, live_with later p f flag k j are lt value both.1));
    } in
    (text least, closed_named least set closed)
