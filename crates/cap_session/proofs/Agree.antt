-- The outcome is that of the text.
use Rattle.std.proofs.Common.{◌≡◌, ℕ, List, [], ◌++◌, sym, ◌∙◌, ap, inl, inr, subst, arith}
use Rattle.std.specs.Prelude.{Result, Ok, Err, IsOk, Option, Some, None, ◌⊎◌}
use Rattle.std.specs.Io.KnownBytes.{Consumes, IsAtEnd}
use Rattle.std.proofs.lemmas.List.{append-nil}
use Rattle.cap_trace.specs.Entry.{Entry}
use Rattle.cap_machine.specs.Steps.{steps}
use Rattle.cap_machine.specs.Questions.{answer}
use Rattle.cap_session.specs.Devices.{SourceState}
use Rattle.cap_session.specs.Trace.{trace, trace_so_far, next_entry}
use Rattle.cap_session.specs.Reads.{IsEnded, IsGood}
use Rattle.cap_session.specs.AnswerStreams.{IsPrefix}
use Rattle.cap_session.specs.Outcome.{refused_as}
use Rattle.cap_session.specs.Refusal.{refusal_text}
use Rattle.cap_session.specs.Streams.{asked_says}
use Rattle.cap_session.specs.Laws.{BeginningDecides, GoodIsReported, BadIsRefused, PiecesAgree}
use Rattle.cap_machine.specs.State.{State}
use Rattle.cap_machine.specs.declared.cell.Profile.{Profile}
use Rattle.cap_machine.specs.declared.question.Question.{Question}
use Rattle.cap_session.specs.declared.outcome.ExplainOutcome.{ExplainOutcome}
use Rattle.cap_session.specs.declared.outcome.ExplainOutcome.TheVariants.{Ended, OutOfRange}
use Rattle.cap_session.specs.declared.refused.Input.TheVariants.{Trace}
use Rattle.cap_session.specs.declared.refused.Refusal.{Refusal}
use Rattle.cap_session.specs.declared.outcome.Outcome.TheVariants.{Clean, Findings, Refused, StartRefused, Memory}
use Rattle.cap_session.specs.declared.outcome.Outcome.TheVariants.{ReadFault, WriteFault, TooLong}
use Rattle.cap_session.proofs.SoFar.{so_far_after, whole_after, whole_too}

pub beginning_decides : BeginningDecides
beginning_decides begin rest e is =
    (so_far_after next_entry [] begin rest e is, whole_after next_entry [] begin rest e is)

-- a line that is refused before the end or at it
abbrev pub Line : Type 0 → List ℕ → Refusal → Type 0
Line seen given e = (trace_so_far given ≡ Some e) ⊎ (seen × (trace given ≡ Err e))

refused_whole : (seen : Type 0) (given : List ℕ) (e : Refusal) → Line seen given e → trace given ≡ Err e
refused_whole seen given e (inl is) = whole_too next_entry [] given e is
refused_whole seen given e (inr is) = is.1

not_both : (r : Result (List Entry) Refusal) (entries : List Entry) (e : Refusal) → r ≡ Ok entries → r ≡ Err e → ⊥
not_both r entries e good bad =
    let no = sym good ∙ bad in
    cc

same_entries : (r : Result (List Entry) Refusal) (s t : List Entry) → r ≡ Ok s → r ≡ Ok t → s ≡ t
same_entries r s t one two =
    let both = sym one ∙ two in
    cc

same_line : (r : Result (List Entry) Refusal) (d e : Refusal) → r ≡ Err d → r ≡ Err e → d ≡ e
same_line r d e one two =
    let both = sym one ∙ two in
    cc

-- whatever the outcome, the text is the answer
is_text : (question : Question) (profile : Profile) (start : State) (t : List Entry) (o : ExplainOutcome) (text : List ℕ)
    → asked_says question profile start t o text → text ≡ answer question start (steps profile t)
is_text question profile start t (Ended Clean) text is = is.0
is_text question profile start t (Ended Findings) text is = is.0
is_text question profile start t (Ended (Refused code line)) text is = absurd is
is_text question profile start t (Ended (StartRefused code line)) text is = absurd is
is_text question profile start t (Ended Memory) text is = absurd is
is_text question profile start t (Ended ReadFault) text is = absurd is
is_text question profile start t (Ended WriteFault) text is = absurd is
is_text question profile start t (Ended TooLong) text is = absurd is
is_text question profile start t OutOfRange text is = absurd is

pub good_is_reported : GoodIsReported
good_is_reported question profile start turns r0 r1 w0 w1 Clean entries call seen good =
    let same = same_entries _ call.answer.known entries call.answer.good good in
    rw (← same) (call.answer.is.1, call.answer.is.0)
good_is_reported question profile start turns r0 r1 w0 w1 Findings entries call seen good =
    let same = same_entries _ call.answer.known entries call.answer.good good in
    rw (← same) (call.answer.is.1, call.answer.is.0)
good_is_reported question profile start turns r0 r1 w0 w1 (Refused code line) entries call seen good =
    not_both _ entries _ good (refused_whole _ call.given _ call.answer.says.line.line)
good_is_reported question profile start turns r0 r1 w0 w1 (StartRefused code line) entries call seen good =
    let no = call.answer.is in
    cc
good_is_reported question profile start turns r0 r1 w0 w1 Memory entries call seen good = call.answer.silent
good_is_reported question profile start turns r0 r1 w0 w1 ReadFault entries call seen good =
    let going = call.answer.going in
    let ended = seen.0 in
    omega arith
good_is_reported question profile start turns r0 r1 w0 w1 TooLong entries call seen good =
    let going = call.answer.0.going in
    let ended = seen.0 in
    omega arith
good_is_reported question profile start turns r0 r1 w0 w1 WriteFault entries call seen good =
    elim call.answer.2 [
      | inl is ↦
          let same = same_entries _ is.1.known entries is.1.good good in
          subst (λ (text : List ℕ). IsPrefix call.written text)
          (is_text question profile start is.1.known is.0 call.answer.0 is.1.is
          ∙ ap (λ (t : List Entry). answer question start (steps profile t)) same) call.answer.1
      | inr is ↦ absurd (not_both _ entries _ good (refused_whole _ call.given _ is.1.line.line))
    ]

not_open : (r0 r1 : SourceState) (given : List ℕ) (e : Refusal) → r1.ends ≡ r0.ends → trace_so_far given ≡ None
    → Line (IsEnded r0 r1) given e → ⊥
not_open r0 r1 given e going good (inl is) =
    let no = sym good ∙ is in
    cc
not_open r0 r1 given e going good (inr is) =
    let ended = is.0.0 in
    omega arith

bad_is_not_ok : (r : Result (List Entry) Refusal) (e : Refusal) → r ≡ Err e → IsOk r → ⊥
bad_is_not_ok (Ok entries) e is ok = cc
bad_is_not_ok (Err f) e is ok = cc

-- no line is refused where none is
not_good : (seen : Type 0) (given : List ℕ) (e : Refusal) → IsGood trace trace_so_far seen given → Line seen given e → ⊥
not_good seen given e good (inl is) =
    let no = sym good.before ∙ is in
    cc
not_good seen given e good (inr is) =
    bad_is_not_ok (trace given) e is.1 (good.at_end is.0)

pub bad_is_refused : BadIsRefused
bad_is_refused question profile start turns r0 r1 w0 w1 Clean e call bad =
    absurd (not_both _ call.answer.known e call.answer.good (refused_whole _ call.given e bad))
bad_is_refused question profile start turns r0 r1 w0 w1 Findings e call bad =
    absurd (not_both _ call.answer.known e call.answer.good (refused_whole _ call.given e bad))
bad_is_refused question profile start turns r0 r1 w0 w1 (Refused code line) e call bad =
    let same : call.answer.refusal ≡ e =
    same_line _ _ e (refused_whole _ call.given _ call.answer.says.line.line) (refused_whole _ call.given e bad) in
    (call.answer.is ∙ ap (refused_as Trace) same, call.answer.says.is ∙ ap (refusal_text Trace) same)
bad_is_refused question profile start turns r0 r1 w0 w1 (StartRefused code line) e call bad =
    let no = call.answer.is in
    cc
bad_is_refused question profile start turns r0 r1 w0 w1 Memory e call bad =
    absurd (not_good (IsEnded r0 r1) call.given e call.answer.good bad)
bad_is_refused question profile start turns r0 r1 w0 w1 ReadFault e call bad =
    absurd (not_open r0 r1 call.given e call.answer.going call.answer.good bad)
bad_is_refused question profile start turns r0 r1 w0 w1 TooLong e call bad =
    absurd (not_open r0 r1 call.given e call.answer.0.going call.answer.0.good bad)
bad_is_refused question profile start turns r0 r1 w0 w1 WriteFault e call bad =
    elim call.answer.2 [
      | inl is ↦ absurd (not_both _ is.1.known e is.1.good (refused_whole _ call.given e bad))
      | inr is ↦
          let same =
          same_line _ is.0 e (refused_whole _ call.given _ is.1.line.line) (refused_whole _ call.given e bad) in
          subst (λ (text : List ℕ). IsPrefix call.written text) (is.1.is ∙ ap (refusal_text Trace) same) call.answer.1
    ]

-- at the end, what was given is the whole text
all_given : (text given : List ℕ) (left : Option (List ℕ)) → Consumes (Some text) left given → IsAtEnd left
    → text ≡ given
all_given text given None read end = absurd read
all_given text given (Some rest) read end = read ∙ ap (λ l. given ++ l) end ∙ append-nil given

refused_text : (seen : Type 0) (text given : List ℕ) (left : Option (List ℕ)) (e : Refusal)
    → Consumes (Some text) left given → (seen → IsAtEnd left) → Line seen given e → trace text ≡ Err e
refused_text seen text given None e read end line = absurd read
refused_text seen text given (Some rest) e read end (inl is) = ap trace read ∙ whole_after next_entry [] given rest e is
refused_text seen text given (Some rest) e read end (inr is) =
    ap trace (all_given text given (Some rest) read (end is.0)) ∙ is.1

pub pieces_agree : PiecesAgree
pieces_agree question profile start turns r0 r1 w0 w1 Clean text call known =
    let read = subst (λ (b : Option (List ℕ)). Consumes b r1.bytes call.given) known call.read in (
      call.answer.known,
      ap trace (all_given text call.given r1.bytes read call.answer.end.1) ∙ call.answer.good,
      call.answer.is.1,
      call.answer.is.0,
    )
pieces_agree question profile start turns r0 r1 w0 w1 Findings text call known =
    let read = subst (λ (b : Option (List ℕ)). Consumes b r1.bytes call.given) known call.read in (
      call.answer.known,
      ap trace (all_given text call.given r1.bytes read call.answer.end.1) ∙ call.answer.good,
      call.answer.is.1,
      call.answer.is.0,
    )
pieces_agree question profile start turns r0 r1 w0 w1 (Refused code line) text call known =
    let read = subst (λ (b : Option (List ℕ)). Consumes b r1.bytes call.given) known call.read in
    let seen = call.answer in (
      seen.refusal,
      refused_text (IsEnded r0 r1) text call.given r1.bytes _ read (λ seen. seen.1) seen.says.line.line,
      seen.is,
      seen.says.is,
    )
pieces_agree question profile start turns r0 r1 w0 w1 (StartRefused code line) text call known =
    let no = call.answer.is in
    cc
pieces_agree question profile start turns r0 r1 w0 w1 Memory text call known = tt
pieces_agree question profile start turns r0 r1 w0 w1 ReadFault text call known = tt
pieces_agree question profile start turns r0 r1 w0 w1 WriteFault text call known = tt
pieces_agree question profile start turns r0 r1 w0 w1 TooLong text call known = tt
