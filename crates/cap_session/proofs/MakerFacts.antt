-- What is known of the rows of a trace after the lines that made descriptors, where it and its start can be spelled.
use Rattle.std.proofs.Common.{◌≡◌, ℕ, ◌+◌, ◌<◌, ◌≤◌, ◌^◌, ◌==◌, Bool, true, false, if◌then◌else◌, List, [], ◌∷◌, ◌++◌}
use Rattle.std.proofs.Common.{length, refl, sym, ap, subst, inl, inr, arith}
use Rattle.std.specs.Prelude.{nat_lt}
use Rattle.std.specs.List.{All}
use Rattle.std.proofs.lemmas.List.Elements.{All-nil, All-cons, All-head, All-tail, All-append, All-same}
use Rattle.cap_trace.specs.Item.{Item}
use Rattle.cap_trace.specs.Item as items
use Rattle.cap_trace.specs.declared.calls.ResultKind.{ResultKind}
use Rattle.cap_trace.specs.declared.calls.ResultKind.TheVariants.{Fd, Same, FdPair, ChildAndFd}
use Rattle.cap_trace.specs.declared.line.Answer.{Answer}
use Rattle.cap_trace.specs.declared.line.Answer.TheVariants as answers
use Rattle.cap_trace.specs.Entry.{Entry, IsFd, IsPid, IsAnswer, IsWhole, kind_of}
use Rattle.cap_machine.specs.declared.cell.Profile.{Profile}
use Rattle.cap_limits.specs.declared.makers.MakerLimit.{MakerLimit}
use Rattle.cap_limits.specs.declared.makers.MakerRow.{MakerRow}
use Rattle.cap_limits.specs.declared.makers.MakerRow.TheVariants as made
use Rattle.cap_machine.specs.declared.step.Step.{Step}
use Rattle.cap_machine.specs.History.{ended}
use Rattle.cap_limits.specs.Makers.{AreRowsOf, AreMakerRows, Place, place_of, row_place, made_fds, made_of}
use Rattle.cap_limits.specs.Makers.{IsMakerRow}
use Rattle.cap_limits.specs.Makers.{one_fd, two_fds, fd_with_child}
use Rattle.cap_machine.specs.State.{State, Added, start_state}
use Rattle.cap_machine.specs.Steps.{step, steps}
use Rattle.cap_session.specs.LimitTextLaws.{IsTrace, IsSpelledStart}
use Rattle.cap_session.proofs.FineTouches.{ClosedCell}
use Rattle.cap_session.proofs.LimitCells.{AllFine, all_fine, ClosedState, closed_after, start_closed}
use Rattle.cap_session.proofs.LimitFds.{least_named}
use Rattle.cap_session.proofs.LimitPremises.{IsMakerLimit, IsSpelledRow}

-- ---- the descriptors that a line makes

one_within : (answer : Answer) → ((n : ℕ) → answer ≡ answers.Made n → IsFd n) → All IsFd (one_fd answer)
one_within (answers.Made n) is = All-cons IsFd n [] (is n refl) (All-nil IsFd)
one_within (answers.Pair n m) is = All-nil IsFd
one_within (answers.Fault e) is = All-nil IsFd

two_within : (answer : Answer) → IsAnswer FdPair answer → All IsFd (two_fds answer)
two_within (answers.Made n) is = All-nil IsFd
two_within (answers.Fault e) is = All-nil IsFd
two_within (answers.Pair n m) is = by (n == m) (nat_lt n m)
  where
    one : (a : ℕ) → IsFd a → All IsFd (a ∷ [])
    one a within = All-cons IsFd a [] within (All-nil IsFd)

    by : (same less : Bool) → All IsFd (if same then n ∷ [] else (if less then m ∷ n ∷ [] else n ∷ m ∷ []))
    by true less = one n is.0
    by false true = All-cons IsFd m (n ∷ []) is.1 (one n is.0)
    by false false = All-cons IsFd n (m ∷ []) is.0 (one m is.1)

made_by : (answer : Answer) (n : ℕ) → answer ≡ answers.Made n → IsAnswer Fd answer → IsFd n
made_by answer n same is = subst (IsAnswer Fd) same is

made_same : (g : ℕ) (answer : Answer) (n : ℕ) → answer ≡ answers.Made n → IsAnswer (Same g) answer → IsFd n
made_same g answer n same is =
    let both = subst (IsAnswer (Same g)) same is in both.1

beside_child : (answer : Answer) → IsAnswer ChildAndFd answer → All IsFd (fd_with_child answer)
beside_child (answers.Made n) is = All-nil IsFd
beside_child (answers.Fault e) is = All-nil IsFd
beside_child (answers.Pair c n) is = by (c == 0)
  where
    by : (none : Bool) → All IsFd (if none then [] else n ∷ [])
    by true = All-nil IsFd
    by false = All-cons IsFd n [] is.1 (All-nil IsFd)

of_kind : (kind : ResultKind) (answer : Answer) → IsAnswer kind answer → All IsFd (made_of kind answer)
of_kind Fd answer is = one_within answer (λ n same. made_by answer n same is)
of_kind (Same g) answer is = one_within answer (λ n same. made_same g answer n same is)
of_kind FdPair answer is = two_within answer is
of_kind ChildAndFd answer is = beside_child answer is
of_kind _ answer is = All-nil IsFd

made_within : (item : Item) → IsWhole item → All IsFd (made_fds item)
made_within (items.Call call answer) is = of_kind (kind_of call) answer is
made_within _ is = All-nil IsFd

-- ---- each row

-- the numbers of a row of one of the first n lines, and its rights
limit_spelled : (t : List Entry) (at p f : ℕ) (limit : MakerLimit) → at ≤ length t → IsPid p → IsFd f
    → place_of limit ≡ (at, p, f) → limit.rights < 2 ^ 63 → IsMakerLimit t limit
limit_spelled t at p f limit le pid fd place small = (
  omega (arith, le, ap (λ (x : Place). x.0) place),
  subst IsPid (sym (ap (λ (x : Place). x.1) place)) pid,
  (subst IsFd (sym (ap (λ (x : Place). x.2) place)) fd, λ full. absurd (omega (arith, small, full))),
)

module _ (t : List Entry) (s : State) (later : List Step) (at p : ℕ) (le : at ≤ length t) (pid : IsPid p)
    (closed : ClosedState s) (fine : AllFine later) where
  row_spelled : (f : ℕ) (row : MakerRow) → IsFd f → row_place row ≡ (at, p, f) → IsMakerRow s later row
      → IsSpelledRow t row
  row_spelled f (made.Held limit) fd place is =
      let cell = subst ClosedCell is.2 (closed limit.pid limit.fd) in (
        limit_spelled t at p f limit le pid fd place is.3.0,
        least_named later limit.pid limit.fd is.0 is.1 limit.rights fine cell is.3,
      )
  row_spelled f (made.Unknown limit) fd place is = limit_spelled t at p f limit le pid fd place is.1.0

  own_spelled : (fds : List ℕ) (own : List MakerRow) → All IsFd fds → AreRowsOf s later at p fds own
      → All (IsSpelledRow t) own
  own_spelled [] own within are = All-same (IsSpelledRow t) own [] are (All-nil (IsSpelledRow t))
  own_spelled (f ∷ fds) own within (inl unsaid) = own_spelled fds own (All-tail IsFd f fds within) unsaid.1
  own_spelled (f ∷ fds) own within (inr (row, others, is, place, says, rest)) =
      All-same (IsSpelledRow t) own (row ∷ others) is
      (All-cons (IsSpelledRow t) row others (row_spelled f row (All-head IsFd f fds within) place says)
      (own_spelled fds others (All-tail IsFd f fds within) rest))

all_spelled : (t : List Entry) (profile : Profile) (s : State) (at : ℕ) (lines : List Entry) (rows : List MakerRow)
    → at + length lines ≤ length t + 1 → ClosedState s → AllFine (steps profile lines)
    → AreMakerRows s at (steps profile lines) rows → All (IsSpelledRow t) rows
all_spelled t profile s at [] rows le closed fine are =
    All-same (IsSpelledRow t) rows [] are (All-nil (IsSpelledRow t))
all_spelled t profile s at (line ∷ later) rows le closed fine (beyond, own, cut, before, said) =
    let this = step profile line in
    let next : State = ended s (this ∷ []) in
    let after : ClosedState next = closed_after this s fine.0 closed in
    let rest = all_spelled t profile next (at + 1) later beyond (omega (arith, le)) after fine.1 before in
    let mine = own_spelled t next (steps profile later) at line.pid (omega (arith, le)) fine.0.pid after fine.1
    (made_fds line.item) own (made_within line.item fine.0.whole) said in
    All-same (IsSpelledRow t) rows (beyond ++ own) cut (All-append (IsSpelledRow t) beyond own rest mine)

pub maker_facts : (profile : Profile) (start : List Added) (t : List Entry) (rows : List MakerRow)
    → IsSpelledStart start → IsTrace t → AreMakerRows (start_state start) 1 (steps profile t) rows
    → All (IsSpelledRow t) rows
maker_facts profile start t rows spelled trace are =
    all_spelled t profile (start_state start) 1 t rows (omega arith) (start_closed start spelled)
    (all_fine profile t trace.0) are
