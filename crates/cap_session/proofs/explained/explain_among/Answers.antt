use Rattle.std.proofs.Common.{rules, ◌≡◌, List, ap, refl, sym, ◌∙◌, true, false, length}
use Rattle.cap_trace.specs.Entry.{Entry}
use Rattle.cap_machine.specs.Explain.{explanation}
use Rattle.cap_machine.specs.Steps.{steps}
use Rattle.cap_machine.specs.State.{start_state}
use Rattle.cap_session.specs.Edits.{is_position}
use Rattle.cap_session.proofs.Explains.{fits_line, has_line, has_no_line, is_clean}
use Rattle.cap_session.proofs.explained.explain_among.Goals as goal

pub line_explained-line-requires : goal.line_explained-line-requires
line_explained-line-requires c =
    let s = start_state c.args.start.now in
    fits_line s c.args.profile c.args.lines.now.items c.args.position _ c.in-Some.explanation
    (c.in_ok-explanation.ensures
    ∙ ap (λ (t : List Entry). explanation s (steps c.args.profile t) c.args.position) c.as_slice-all.ensures.value)
    c.in-Some.is

pub returns-clause-clean : goal.returns-clause-clean
returns-clause-clean c =
    let s = start_state c.args.start.now in
    is_clean s c.args.profile c.args.lines.now.items c.args.position _ c.in-Some.explanation _
    (c.in_ok-explanation.ensures
    ∙ ap (λ (t : List Entry). explanation s (steps c.args.profile t) c.args.position) c.as_slice-all.ensures.value)
    c.in-Some.is c.in_ok-line.ensures.clean

pub returns-then-not-is_position-clause-position :
    goal.returns-then-not-is_position-clause-position
returns-then-not-is_position-clause-position c =
    let k = c.args.position in
    let lines = c.args.lines.now.items in
    let same = ap (λ (t : List Entry). is_position k (length t)) c.as_slice-all.ensures.value in
    let no : is_position k (length lines) ≡ false =
    sym (c.is_position.ensures ∙ same) ∙ c.if-not-is_position.true in
    ((λ e. has_no_line (start_state c.args.start.now) c.args.profile lines k no), (λ e. refl))

pub returns-in_err-explanation-clause-position : goal.returns-in_err-explanation-clause-position
returns-in_err-explanation-clause-position c =
    let k = c.args.position in
    let lines = c.args.lines.now.items in
    let same = ap (λ (t : List Entry). is_position k (length t)) c.as_slice-all.ensures.value in
    let yes : is_position k (length lines) ≡ true =
    sym (c.is_position.ensures ∙ same) ∙ c.if-not-is_position.false in
    (search rules, (λ e. absurd (has_line (start_state c.args.start.now) c.args.profile lines k yes e)))
