use Rattle.std.proofs.Common.{rules, List, ℕ, sym, subst}
use Rattle.cap_session.specs.Outcome.{found}
use Rattle.cap_session.specs.Code.Queries.{query_says}
use Rattle.cap_session.specs.declared.outcome.ExplainOutcome.TheVariants.{Ended}
use Rattle.cap_session.proofs.AnswersTrace.{answer_written, none_written}
use Rattle.cap_session.proofs.explaining.write_answer.Goals as goal

pub returns-in-Ok : goal.returns-in-Ok
returns-in-Ok g c =
    let says = query_says c.args.query c.args.profile c.args.start.now c.args.lines.now.items in
    answer_written says c.as_slice.result.now c.in-Ok.line.is_clean _ _ _ c.write_ending.result c.found-told.ensures
    (subst (λ (text : List ℕ). says (Ended (found c.in-Ok.line.is_clean)) text) (sym c.as_slice.ensures.value)
    c.in-Ok.ensures.text) c.write_ending.ensures

pub returns-in-Err-Position : goal.returns-in-Err-Position
returns-in-Err-Position g c =
    none_written (query_says c.args.query c.args.profile c.args.start.now c.args.lines.now.items) _ _ _
    c.write_out_of_range.result (c.in-Err-Position.ensures.position (search rules)) c.write_out_of_range.ensures
