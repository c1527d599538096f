-- What an answer of a trace says.
use Rattle.std.proofs.Common.{rules, ◌≡◌, Bool, true, false, List, ℕ, refl}
use Rattle.std.specs.Prelude.{IsTrue, IfOk, ◌↔◌, Result, Ok, Err}
use Rattle.cap_trace.specs.Entry.{Entry}
use Rattle.cap_machine.specs.State.{State}
use Rattle.cap_machine.specs.Steps.{steps}
use Rattle.cap_machine.specs.Questions.{answer, IsNothing}
use Rattle.cap_machine.specs.declared.cell.Profile.{Profile}
use Rattle.cap_machine.specs.declared.question.Question.{Question}
use Rattle.cap_session.specs.Explaining.{explained_line, IsClean}
use Rattle.cap_session.specs.ExplainStreams.{explain_says}
use Rattle.cap_session.specs.Outcome.{found}
use Rattle.cap_session.specs.Streams.{asked_says}
use Rattle.cap_session.specs.declared.explained.ExplainedLine.{ExplainedLine}
use Rattle.cap_session.specs.declared.refused.Refused.{Refused}
use Rattle.cap_session.specs.declared.outcome.ExplainOutcome.TheVariants.{Ended}

pub found_asked : (question : Question) (profile : Profile) (s : State) (t : List Entry) (text : List ℕ) (clean : Bool)
    → text ≡ answer question s (steps profile t) → IsTrue clean ↔ IsNothing question s (steps profile t)
    → asked_says question profile s t (Ended (found clean)) text
found_asked question profile s t text true is clean = (is, clean.0 (search rules))
found_asked question profile s t text false is clean = (is, λ none. let no = clean.1 none in cc)

found_explained : (profile : Profile) (k : ℕ) (s : State) (t : List Entry) (text : List ℕ) (clean : Bool)
    → explained_line s profile t k ≡ Ok text → IsTrue clean ↔ IsClean s profile t k
    → explain_says profile k s t (Ended (found clean)) text
found_explained profile k s t text true is clean = (is, clean.0 (search rules))
found_explained profile k s t text false is clean = (is, λ none. let no = clean.1 none in cc)

pub explained_found : (profile : Profile) (k : ℕ) (s : State) (t : List Entry) (r : Result ExplainedLine Refused)
    → IfOk r (λ line. explained_line s profile t k ≡ Ok line.text.items)
    → IfOk r (λ line. IsTrue line.is_clean ↔ IsClean s profile t k)
    → IfOk r (λ line. explain_says profile k s t (Ended (found line.is_clean)) line.text.items)
explained_found profile k s t (Ok line) is clean = found_explained profile k s t line.text.items line.is_clean is clean
explained_found profile k s t (Err refused) is clean = tt

-- a refusal is the same, whatever isn't answered
pub same_refused : {A B : Type 0} (r s : Refused) → ◌≡◌ {A = Result A Refused} (Err r) (Err s)
    → ◌≡◌ {A = Result B Refused} (Err r) (Err s)
same_refused r s e =
    let same : r ≡ s = cc in
    rw same refl
