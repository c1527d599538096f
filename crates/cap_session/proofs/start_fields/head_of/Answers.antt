use Rattle.std.proofs.Common.{sym, ap, ◌∙◌}
use Rattle.std.proofs.lemmas.Result.{err_from_is_err_and}
use Rattle.std.specs.Prelude.{List, ℕ}
use Rattle.cap_session.specs.StartTexts.{cells_from}
use Rattle.cap_session.specs.Code.StartLines.{completed}
use Rattle.cap_session.specs.StartWords.{words}
use Rattle.cap_session.specs.declared.start_fields.Head.{Head}
use Rattle.cap_session.proofs.Spelled.{taken, pid_is, mode_is, rest_is, others_are, bad_pid, bad_mode, bad_rest}
use Rattle.cap_session.proofs.Spelled.{good_head}
use Rattle.cap_session.proofs.start_fields.head_of.Goals as goal

pub returns-in_err-pid-clause-bad : goal.returns-in_err-pid-clause-bad
returns-in_err-pid-clause-bad c =
    let p = err_from_is_err_and c.from_residual.result c.from_residual.ensures.1 in
    let a = taken _ _ _ c.next-pid_word.ensures in
    let ws = words c.args.line.now in
    rw (p.1, p.2) (bad_pid c.args.low ws _
    (pid_is c.args.low ws _ _ _ c.of-words.ensures a.0 c.pid_at.ensures.value ∙ c.in_err-pid.was))

pub returns-in_err-mode-clause-bad : goal.returns-in_err-mode-clause-bad
returns-in_err-mode-clause-bad c =
    let p = err_from_is_err_and c.from_residual-in_err-mode.result c.from_residual-in_err-mode.ensures.1 in
    let a = taken _ _ _ c.next-pid_word.ensures in
    let b = taken _ _ _ c.next-mode_word.ensures in
    let ws = words c.args.line.now in
    rw (p.1, p.2) (bad_mode c.args.low ws _ _
    (pid_is c.args.low ws _ _ _ c.of-words.ensures a.0 c.pid_at.ensures.value ∙ c.in_ok-pid.was)
    (mode_is ws _ _ _ _ c.of-words.ensures a.1 b.0 c.mode_at.ensures ∙ c.in_err-mode.was))

pub returns-in_err-rest-clause-bad : goal.returns-in_err-rest-clause-bad
returns-in_err-rest-clause-bad c =
    let p = err_from_is_err_and c.from_residual-in_err-rest.result c.from_residual-in_err-rest.ensures.1 in
    let a = taken _ _ _ c.next-pid_word.ensures in
    let b = taken _ _ _ c.next-mode_word.ensures in
    let d = taken _ _ _ c.next-rest_word.ensures in
    let ws = words c.args.line.now in
    rw (p.1, p.2) (bad_rest c.args.low ws _ _ _
    (pid_is c.args.low ws _ _ _ c.of-words.ensures a.0 c.pid_at.ensures.value ∙ c.in_ok-pid.was)
    (mode_is ws _ _ _ _ c.of-words.ensures a.1 b.0 c.mode_at.ensures ∙ c.in_ok-mode.was)
    (rest_is ws _ _ _ _ _ c.of-words.ensures a.1 b.1 d.0 c.rest_at.ensures ∙ c.in_err-rest.was))

pub returns-clause-good : goal.returns-clause-good
returns-clause-good c =
    let a = taken _ _ _ c.next-pid_word.ensures in
    let b = taken _ _ _ c.next-mode_word.ensures in
    let d = taken _ _ _ c.next-rest_word.ensures in
    let ws = words c.args.line.now in
    let head : Head = record {
      pid = c.in_ok-pid.pid;
      mode = c.in_ok-mode.mode;
      rest = c.in_ok-rest.rest;
      listed = c.next-rest_word.new.self;
    } in
    good_head c.args.low ws head
    (pid_is c.args.low ws _ _ _ c.of-words.ensures a.0 c.pid_at.ensures.value ∙ c.in_ok-pid.was)
    (mode_is ws _ _ _ _ c.of-words.ensures a.1 b.0 c.mode_at.ensures ∙ c.in_ok-mode.was)
    (rest_is ws _ _ _ _ _ c.of-words.ensures a.1 b.1 d.0 c.rest_at.ensures ∙ c.in_ok-rest.was)
    ∙ ap (λ (l : List (List ℕ)). completed head (cells_from 0 l))
    (sym (others_are ws _ _ _ c.next-rest_word.new.self c.of-words.ensures a.1 b.1 d.1))
