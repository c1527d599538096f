-- What is known of the limits of a process before a line of a trace, where it and its start can be spelled.
use Rattle.std.proofs.Common.{◌≡◌, ℕ, zero, suc, ◌+◌, ◌-◌, ◌^◌, ◌<◌, ◌==◌, ◌&&◌, Bool, true, false, List, [], ◌∷◌}
use Rattle.std.proofs.Common.{◌++◌, map, length, length-append, reverse, Some, refl, sym, ap, ◌∙◌, subst, arith}
use Rattle.std.proofs.Common.{◌⊎◌, inl, inr}
use Rattle.std.specs.List.{All, slice_get}
use Rattle.std.proofs.lemmas.Bool.{or_left, or_right, eq-eqb, cases_lt, and_parts}
use Rattle.std.proofs.lemmas.List.Elements.{All-nil, All-cons, All-head, All-tail, All-weaker, All-same}
use Rattle.cap_rights.specs.Rights.{holds}
use Rattle.cap_rights.proofs.Members.{none_holds}
use Rattle.cap_trace.specs.Entry.{Entry, IsFd, IsPid}
use Rattle.cap_trace.specs.Spelling.{IsProper}
use Rattle.cap_machine.specs.declared.cell.OnExec.TheVariants.{Unsure}
use Rattle.cap_machine.specs.declared.cell.Profile.{Profile}
use Rattle.cap_limits.specs.declared.limits.Entering.{Entering}
use Rattle.cap_limits.specs.declared.limits.Entering.TheVariants.{Inside, Blocked, May}
use Rattle.cap_limits.specs.declared.limits.Limits.{Limits}
use Rattle.cap_limits.specs.declared.limits.LimitsBefore.TheVariants as there
use Rattle.cap_machine.specs.declared.step.Step.{Step}
use Rattle.cap_machine.specs.History.{ended}
use Rattle.cap_machine.specs.Judge.{is_forbidden}
use Rattle.cap_limits.specs.Limits.{Row, IsLimit, row_of, IsEntering}
use Rattle.cap_limits.specs.LimitsBefore.{AreLimitsBefore, IsUnknownLimit, rows_name}
use Rattle.cap_limits.specs.Live.{Blocks, is_success}
use Rattle.cap_machine.specs.Rule.{requirement}
use Rattle.cap_limits.specs.Standing.{IsHeld}
use Rattle.cap_machine.specs.State.{State, Added, start_state}
use Rattle.cap_machine.specs.Steps.{steps}
use Rattle.cap_limits.proofs.LimitBits.{same_named}
use Rattle.cap_session.specs.LimitScriptLaws.{IsNamed}
use Rattle.cap_session.specs.LimitTextLaws.{IsTrace, IsSpelledStart}
use Rattle.cap_session.proofs.FineTouches.{ClosedCell}
use Rattle.cap_session.proofs.LimitCells.{AllFine, all_fine, fine_back, ClosedState, closed_along, start_closed}
use Rattle.cap_session.proofs.LimitFds.{standing_within, live_within, least_named}
use Rattle.cap_session.proofs.LimitPremises.{IsRow, StandsInTheWay, ProcessFacts}

-- ---- the rows of held descriptors

module _ (s : State) (later : List Step) (p : ℕ) (closed : ClosedState s) (fine : AllFine later) where
  rows_spelled : (rows : List Row)
      → ((f : ℕ) → rows_name rows f ≡ true → IsHeld (s.cell p f) → IsFd f) → All (IsLimit s later p) rows
      → All IsRow rows
  rows_spelled [] within are = All-nil IsRow
  rows_spelled (row ∷ rows) within are =
      let is = All-head (IsLimit s later p) row rows are in
      let named : rows_name (row ∷ rows) row.0 ≡ true =
      or_left (row.0 == row.0) (rows_name rows row.0) (eq-eqb row.0 row.0 refl) in
      All-cons IsRow row rows
      (within row.0 named (subst IsHeld (sym is.2) tt), λ full. absurd (omega (arith, is.3.0, full)))
      (rows_spelled rows (λ f there. within f (or_right (f == row.0) (rows_name rows f) there))
      (All-tail (IsLimit s later p) row rows are))

  row_named : (row : Row) → IsLimit s later p row → IsNamed row.1
  row_named row is =
      least_named later p row.0 is.0 is.1 row.1 fine (subst ClosedCell is.2 (closed p row.0)) is.3

-- ---- the rows of unknown descriptors

look_for : (r n : ℕ) → ((k : ℕ) × (k < n) × (holds r k ≡ true)) ⊎ ((k : ℕ) → k < n → holds r k ≡ false)
look_for r zero = inr (λ k lt. absurd (omega arith))
look_for r (suc n) = elim (look_for r n) [
  | inl found ↦ inl (found.0, omega (arith, found.1), found.2)
  | inr none ↦ by (holds r n) refl none
]
  where
    by : (b : Bool) → holds r n ≡ b → ((k : ℕ) → k < n → holds r k ≡ false)
        → ((k : ℕ) × (k < suc n) × (holds r k ≡ true)) ⊎ ((k : ℕ) → k < suc n → holds r k ≡ false)
    by true is none = inl (n, omega arith, is)
    by false is none = inr (λ k lt. elim (cases_lt k n) [
      | inl less ↦ none k less
      | inr le ↦ (let same : n ≡ k = omega arith in subst (λ (i : ℕ). holds r i ≡ false) same is)
    ])

-- a set of named rights that isn't empty holds one
some_right : (r : ℕ) → r < 2 ^ 63 → (r ≡ 0 → ⊥) → (k : ℕ) × (k < 63) × (holds r k ≡ true)
some_right r lt some = elim (look_for r 63) [
  | inl found ↦ found
  | inr none ↦ absurd (some (same_named r 0 lt (omega arith) (λ k less. none k less ∙ sym (none_holds k))))
]

unknown_spelled : (s : State) (later : List Step) (p : ℕ) (row : Row) → AllFine later → IsUnknownLimit s later p row
    → IsRow row
unknown_spelled s later p row fine is =
    let right = some_right row.1 is.1.0 is.2 in (
      live_within later p row.0 Unsure right.0 fine ((is.1.1 right.0 right.1).0 right.2).1,
      λ full. absurd (omega (arith, is.1.0, full)),
    )

-- ---- the line that is in the way

get_beyond : (a b : List Entry) (n : ℕ) → slice_get (a ++ b) (length a + n) ≡ slice_get b n
get_beyond [] b n = let same : 0 + n ≡ n = omega arith in ap (slice_get b) same
get_beyond (line ∷ a) b n =
    let next : suc (length a) + n ≡ suc (length a + n) = omega arith in
    ap (slice_get (line ∷ (a ++ b))) next ∙ get_beyond a b n

-- a line of these is in the way, and can be spelled
record InTheWay (lines : List Entry) (n : ℕ) : Type 0 where
  line : Entry
  stands : slice_get lines n ≡ Some line
  within : n < length lines
  pid : IsPid line.pid
  forbidden : is_forbidden (requirement line).class ≡ true

in_the_way : (profile : Profile) (lines : List Entry) (p n : ℕ) → AllFine (steps profile lines)
    → Blocks (steps profile lines) p n → InTheWay lines n
in_the_way profile [] p n fine blocks = absurd blocks
in_the_way profile (line ∷ later) p zero fine blocks = record {
  line = line;
  stands = refl;
  within = omega arith;
  pid = fine.0.pid;
  forbidden =
      (let d = requirement line in
      let both = and_parts (is_success d.reply) (p == line.pid && is_forbidden d.class) blocks in
      (and_parts (p == line.pid) (is_forbidden d.class) both.1).1);
}
in_the_way profile (line ∷ later) p (suc n) fine blocks =
    let more = in_the_way profile later blocks.0 n fine.1 blocks.2 in
    record {
      line = more.line;
      stands = more.stands;
      within = omega (arith, more.within);
      pid = more.pid;
      forbidden = more.forbidden;
    }

stands_there : (profile : Profile) (before rest t : List Entry) (s : State) (k p : ℕ) (entering : Entering)
    → t ≡ before ++ rest → k ≡ length before + 1 → AllFine (steps profile rest)
    → IsEntering s k (steps profile rest) p entering → StandsInTheWay t entering
stands_there profile before rest t s k p May cut at fine is = tt
stands_there profile before rest t s k p Inside cut at fine is = tt
stands_there profile before rest t s k p (Blocked position) cut at fine is =
    let first = is.1 in
    let way = in_the_way profile rest p first.0 fine first.2 in
    let place : position - 1 ≡ length before + first.0 = omega (arith, first.1, at) in
    let long : length t ≡ length before + length rest = ap length cut ∙ length-append before rest in (
      way.line,
      ap (slice_get t) place ∙ ap (λ (l : List Entry). slice_get l (length before + first.0)) cut
          ∙ get_beyond before rest first.0 ∙ way.stands,
      omega (arith, first.1, at),
      omega (arith, first.1, at, long, way.within),
      way.pid,
      way.forbidden,
    )

-- ---- all of it

parts_proper : (before rest : List Entry) → All IsProper (before ++ rest) → All IsProper before × All IsProper rest
parts_proper [] rest are = (All-nil IsProper, are)
parts_proper (line ∷ before) rest are =
    let more = parts_proper before rest (All-tail IsProper line (before ++ rest) are) in
    (All-cons IsProper line before (All-head IsProper line (before ++ rest) are) more.0, more.1)

pub line_pid : (t before later : List Entry) (line : Entry) → t ≡ before ++ line ∷ later → All IsProper t
    → IsPid line.pid
line_pid t before later line cut proper =
    let parts = parts_proper before (line ∷ later) (All-same IsProper (before ++ line ∷ later) t (sym cut) proper) in
    (All-head IsProper line later parts.1).1.1.pid

pub process_facts : (profile : Profile) (start : List Added) (t : List Entry) (k : ℕ) (limits : Limits)
    → IsSpelledStart start → IsTrace t → AreLimitsBefore profile start t k (there.Limits limits) → ProcessFacts t limits
process_facts profile start t k limits spelled trace are =
    let before = are.0 in
    let line = are.1 in
    let rest : List Entry = line ∷ are.2 in
    let is = are.5 in
    let parts = parts_proper before rest (All-same IsProper (before ++ rest) t (sym are.3) trace.0) in
    let fine : AllFine (steps profile before) = all_fine profile before parts.0 in
    let later : AllFine (steps profile rest) = all_fine profile rest parts.1 in
    let s : State = ended (start_state start) (steps profile before) in
    let closed : ClosedState s =
    closed_along (start_state start) (steps profile before) fine (start_closed start spelled) in
    record {
      pid = subst IsPid (sym is.pid) later.0.pid;
      rows = rows_spelled s (steps profile rest) line.pid closed later (map row_of limits.held.items)
          (λ f there held. standing_within start (start_state start) spelled (reverse (steps profile before)) line.pid f
          (fine_back (steps profile before) fine) held ((is.standing f held).0 there)) is.least;
      named = All-weaker (IsLimit s (steps profile rest) line.pid) (λ (row : Row). IsNamed row.1)
          (row_named s (steps profile rest) line.pid closed later) (map row_of limits.held.items) is.least;
      few = is.held_in_order.few;
      unknown = All-weaker (IsUnknownLimit s (steps profile rest) line.pid) IsRow
          (λ row has. unknown_spelled s (steps profile rest) line.pid row later has)
          (map row_of limits.unknown.items) is.unknown;
      stands = stands_there profile before rest t s k line.pid limits.entering are.3 are.4 later is.entering;
    }
