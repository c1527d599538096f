use Rattle.std.proofs.Common.{List, subst}
use Rattle.cap_trace.specs.Entry.{Entry}
use Rattle.cap_machine.specs.State.{start_state}
use Rattle.cap_machine.specs.declared.question.Question.TheVariants.{Findings}
use Rattle.cap_session.specs.AnswerStreams.{of_trace}
use Rattle.cap_session.specs.Code.Queries.{query_says}
use Rattle.cap_session.specs.Code.Works.{WritesAnswer}
use Rattle.cap_session.proofs.AnswersTrace.{answered, answer_stopped}
use Rattle.cap_session.proofs.explaining.answer_under.Goals as goal

pub returns-in-Ok : goal.returns-in-Ok
returns-in-Ok g c =
    let says = query_says c.args.query c.args.profile c.args.start.now in
    let s = start_state c.args.start.now in
    let r = c.in-Ok.ensures (record { question = Findings; profile = c.args.profile; start = s }) c.new.ensures.items in
    answered says _ _ _ _ _ _ _ r c.write_answer.result
    (subst (λ (l : List Entry). WritesAnswer (says l) (g.W.Sink.state c.args.writer.now)
    (g.W.Sink.state c.write_answer.new.writer) c.write_answer.result) r.answer.1.2 c.write_answer.ensures)

pub returns-in-Err : goal.returns-in-Err
returns-in-Err g c =
    let s = start_state c.args.start.now in
    answer_stopped of_trace (query_says c.args.query c.args.profile c.args.start.now) _ _ _ _ _ _ c.in-Err.stop _
    (c.in-Err.ensures (record { question = Findings; profile = c.args.profile; start = s }) c.new.ensures.items)
    c.write_stop.ensures
