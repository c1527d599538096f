use Rattle.std.proofs.Common.{sym, ◌∙◌}
use Rattle.std.proofs.lemmas.Result.{err_from_is_err_and}
use Rattle.cap_session.proofs.Started.{skipped_line, head_bad, cells_bad, process_added, now_listed}
use Rattle.cap_session.proofs.start_text.StartParserLines.line.Goals as goal

pub returns-then-is_skipped : goal.returns-then-is_skipped
returns-then-is_skipped c =
    λ known has. (known, skipped_line known c.args.line.now (sym c.is_skipped.ensures ∙ c.if-is_skipped.true), has)

pub returns-in_err-head : goal.returns-in_err-head
returns-in_err-head c = λ known has.
    let p = err_from_is_err_and c.from_residual.result c.from_residual.ensures.1 in
    rw (p.1, p.2) (head_bad known c.args.line.now c.args.self.now.low _ has.1
    (sym c.is_skipped.ensures ∙ c.if-is_skipped.false) c.in_err-head.ensures.bad)

pub returns-in_err-keep : goal.returns-in_err-keep
returns-in_err-keep c = λ known has.
    let p = err_from_is_err_and c.from_residual-in_err-keep.result c.from_residual-in_err-keep.ensures.1 in
    rw (p.1, p.2) (cells_bad known c.args.line.now c.args.self.now.low c.in_ok-head.head _ has.1
    (sym c.is_skipped.ensures ∙ c.if-is_skipped.false) c.in_ok-head.ensures.good c.in_err-keep.ensures.bad)

pub returns : goal.returns
returns c = λ known has.
    let head = c.in_ok-head.head in
    let adds = c.in_ok-keep.ensures.good in (
      now_listed known head adds.0,
      process_added known c.args.line.now c.args.self.now.low head adds.0 has.1
          (sym c.is_skipped.ensures ∙ c.if-is_skipped.false) c.in_ok-head.ensures.good adds.1,
      (adds.2 known.added has.0, c.keep.ensures.low),
    )
