-- What an explanation of a line says of a trace, and the contract of `explain_stream`: for the bytes that its readers gave,
-- what was written, and the outcome.
use Rattle.std.specs.Prelude.{◌≡◌, ℕ, List, Ok, Err}
use Rattle.cap_machine.specs.declared.cell.Profile.{Profile}
use Rattle.cap_machine.specs.State.{State, Added, start_state}
use Rattle.cap_session.specs.AnswerStreams.{Says}
use Rattle.cap_session.specs.Explaining.{explained_line, IsClean}
use Rattle.cap_session.specs.Refusal.{refused_text}
use Rattle.cap_session.specs.declared.refused.Refused.TheVariants.{Position}
use Rattle.cap_session.specs.declared.outcome.Outcome.TheVariants as outcomes
use Rattle.cap_session.specs.declared.outcome.ExplainOutcome.TheVariants.{Ended, OutOfRange}

-- the explanation of line k, which has no finding, or has some; or `refused E7` and LF, where there is no line k
abbrev pub explain_says : Profile → ℕ → State → Says
explain_says profile k start t (Ended outcomes.Clean) text =
    (explained_line start profile t k ≡ Ok text) × IsClean start profile t k
explain_says profile k start t (Ended outcomes.Findings) text =
    (explained_line start profile t k ≡ Ok text) × (IsClean start profile t k → ⊥)
explain_says profile k start t OutOfRange text = (explained_line start profile t k ≡ Err Position) × (text ≡ refused_text 7)
explain_says profile k start t _ text = ⊥

-- the explanation of line k, from what a start text says
abbrev pub explanation_says : Profile → ℕ → List Added → Says
explanation_says profile k = λ (start : List Added). explain_says profile k (start_state start)
