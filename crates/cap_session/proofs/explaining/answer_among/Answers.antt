use Rattle.std.proofs.Common.{refl, sym, subst}
use Rattle.std.specs.Prelude.{IfOk}
use Rattle.cap_machine.specs.State.{start_state}
use Rattle.cap_session.specs.Outcome.{found}
use Rattle.cap_session.specs.Code.Queries.{query_says}
use Rattle.cap_session.specs.Refusal.{refused_text}
use Rattle.cap_session.specs.declared.explaining.Query.{Query}
use Rattle.cap_session.specs.declared.explained.ExplainedLine.{ExplainedLine}
use Rattle.cap_session.specs.declared.refused.Refused.TheVariants.{Position}
use Rattle.cap_session.specs.declared.outcome.Outcome.TheVariants.{Clean}
use Rattle.cap_session.specs.declared.outcome.ExplainOutcome.TheVariants.{Ended, OutOfRange}
use Rattle.cap_session.proofs.Answering.{explained_found, same_refused}
use Rattle.cap_session.proofs.explaining.answer_among.Goals as goal

pub returns-in-Explanation-clause-text : goal.returns-in-Explanation-clause-text
returns-in-Explanation-clause-text c =
    subst (λ (q : Query). IfOk c.explain_among.result (λ (line : ExplainedLine). query_says q c.args.profile
    c.args.start.now c.args.lines.now.items (Ended (found line.is_clean)) line.text.items)) (sym c.in-Explanation.is)
    (explained_found c.args.profile _ (start_state c.args.start.now) c.args.lines.now.items c.explain_among.result
    c.explain_among.ensures.text c.explain_among.ensures.clean)

pub returns-in-Explanation-clause-position : goal.returns-in-Explanation-clause-position
returns-in-Explanation-clause-position c = λ e.
    subst (λ (q : Query). query_says q c.args.profile c.args.start.now c.args.lines.now.items OutOfRange (refused_text 7))
    (sym c.in-Explanation.is) (c.explain_among.ensures.position.0 e, refl)

pub returns-in-Ok-clause-text : goal.returns-in-Ok-clause-text
returns-in-Ok-clause-text c =
    subst (λ (q : Query). query_says q c.args.profile c.args.start.now c.args.lines.now.items (Ended Clean)
    c.in-Ok.text.items) (sym c.in-Limits.is) c.in-Ok.ensures.text

pub returns-in-Err-clause-position : goal.returns-in-Err-clause-position
returns-in-Err-clause-position c = λ e.
    subst (λ (q : Query). query_says q c.args.profile c.args.start.now c.args.lines.now.items OutOfRange (refused_text 7))
    (sym c.in-Limits.is) (c.in-Err.ensures.position.0 (same_refused c.in-Err.refused Position e), refl)
