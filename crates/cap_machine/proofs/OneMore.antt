-- One more line of a trace that is checked going forward.
use Rattle.std.proofs.Common.{◌≡◌, ℕ, ◌+◌, ◌<◌, List, [], ◌∷◌, ◌++◌, length, sym, ap, ◌∙◌, subst, arith}
use Rattle.std.proofs.Common.{length-append, get_or, map, reverse, take}
use Rattle.std.specs.Prelude.{flat_map}
use Rattle.std.proofs.lemmas.List.{length-map, length-take, map-append, take_more}
use Rattle.cap_trace.specs.Entry.{Entry}
use Rattle.cap_machine.specs.declared.cell.Profile.{Profile}
use Rattle.cap_machine.specs.declared.question.Question.{Question}
use Rattle.cap_machine.specs.declared.question.Question.TheVariants.{Findings, Denials}
use Rattle.cap_machine.specs.declared.step.Step.{Step}
use Rattle.cap_machine.specs.declared.table.Table.{Table}
use Rattle.cap_machine.specs.Code.Checked.{CheckerState, IsAsked}
use Rattle.cap_machine.specs.Code.Known.{known}
use Rattle.cap_machine.specs.Steps.{step, steps}
use Rattle.cap_machine.specs.State.{State}
use Rattle.cap_machine.specs.History.{ended, told, step_after}
use Rattle.cap_machine.specs.Check.{found_at}
use Rattle.cap_machine.specs.Report.{finding_line}
use Rattle.cap_machine.specs.Denials.{denied_at}
use Rattle.cap_machine.specs.DenialReport.{denial_line}
use Rattle.cap_machine.specs.Questions.{answer_count, answer_lines, line_count, line_text, LineHasNoEntry}
use Rattle.cap_machine.specs.Code.Table.{state_of, Keeps}
use Rattle.cap_machine.specs.State.{start_state}
use Rattle.cap_machine.proofs.KnownTables.{state_known}
use Rattle.cap_machine.proofs.Turns.{ends_more, same_state, told_more}
use Rattle.cap_machine.proofs.ReportLines.{answer_count-more, answer_lines-more}

pub state_kept : (table : Table) (s : State) → Keeps table s → state_of table ≡ s
state_kept table s keeps = same_state (state_of table) s keeps.cells keeps.modes

pub kept_state : (table : Table) (s : State) → state_of table ≡ s → Keeps table s
kept_state table s e =
    record { cells = λ p f. ap (λ (r : State). r.cell p f) e; modes = λ p. ap (λ (r : State). r.mode p) e }

-- one more line in a profile is one more step
pub steps-more : (profile : Profile) (trace : List Entry) (line : Entry)
    → steps profile (trace ++ line ∷ []) ≡ steps profile trace ++ step profile line ∷ []
steps-more profile trace line = map-append (step profile) trace (line ∷ [])

-- the lines up to an index, and the one at it
pub steps_taken : (profile : Profile) (lines : List Entry) (i : ℕ) (line : Entry) → i < length lines
    → line ≡ get_or lines i line
    → steps profile (take (i + 1) lines) ≡ steps profile (take i lines) ++ step profile line ∷ []
steps_taken profile lines i line within is =
    ap (steps profile) (take_more lines i line within ∙ ap (λ (r : Entry). take i lines ++ r ∷ []) (sym is))
    ∙ steps-more profile (take i lines) line

-- what is known, and what was told of the lines up to an index
pub record IsTold {A X : Type 0} (at : ℕ → A → X) (says : Step → State → List A) (profile : Profile) (s : State)
    (lines : List Entry) (table : Table) (all : List X) : Type 0 where
  pub state : state_of table ≡ ended s (steps profile lines)
  pub found : all ≡ told at says s (reverse (steps profile lines))

pub told_line : (A X : Type 0) (at : ℕ → A → X) (says : Step → State → List A) (later : ℕ → X → X)
    → ((n i : ℕ) (a : A) → later n (at i a) ≡ at (n + i) a)
    → (profile : Profile) (s : State) (lines : List Entry) (i : ℕ) (line : Entry) (a b : Table) (old new : List X) (xs : List A)
    → i < length lines → line ≡ get_or lines i line
    → Keeps b (step_after (step profile line) (state_of a)) → xs ≡ says (step profile line) (state_of a)
    → new ≡ old ++ map (at (i + 1)) xs → IsTold at says profile s (take i lines) a old
    → IsTold at says profile s (take (i + 1) lines) b new
told_line A X at says later moves profile s lines i line a b old new xs within is moved said adds before =
    let t : List Step = steps profile (take i lines) in
    let l : Step = step profile line in
    let more = steps_taken profile lines i line within is in
    let many : length t ≡ i = omega (arith, length-map (take i lines) (step profile), length-take i lines) in
    record {
      state = state_kept b (step_after l (state_of a)) moved ∙ ap (step_after l) before.state ∙ sym (ends_more s t l)
          ∙ ap (ended s) (sym more);
      found = adds ∙ ap (λ r. old ++ map (at (i + 1)) r) said
          ∙ ap (λ r. r ++ map (at (i + 1)) (says l (state_of a))) before.found
          ∙ ap (λ r. told at says s (reverse t) ++ map (at (i + 1)) (says l r)) before.state
          ∙ ap (λ n. told at says s (reverse t) ++ map (at (n + 1)) (says l (ended s t))) (sym many)
          ∙ sym (told_more A X at says later moves s t l)
          ∙ ap (λ (r : List Step). told at says s (reverse r)) (sym more);
    }

-- the state after one more step
pub kept_more : (a b : Table) (s : State) (t : List Step) (l : Step) → Keeps b (step_after l (state_of a))
    → Keeps a (ended s t) → Keeps b (ended s (t ++ l ∷ []))
kept_more a b s t l after before =
    kept_state b (ended s (t ++ l ∷ []))
    (state_kept b (step_after l (state_of a)) after ∙ ap (step_after l) (state_kept a (ended s t) before)
    ∙ sym (ends_more s t l))

-- what a checker was given, after one more line
pub asked_more : (a b : CheckerState) (was now : Table) (line : Entry) (q : Question) (profile : Profile) (s : State)
    (trace : List Entry) → a.known ≡ known was → b.known ≡ known now →
    b.question ≡ a.question → b.profile ≡ a.profile → b.lines ≡ a.lines + 1 →
    b.said ≡ a.said + line_count a.question line (state_of was) →
    b.text ≡ a.text ++ line_text a.question (a.lines + 1) line (state_of was) →
    Keeps now (step_after (step a.profile line) (state_of was)) →
    IsAsked a q profile s trace → IsAsked b q profile s (trace ++ line ∷ [])
asked_more a b was now line q profile s trace knew knows asks same lines said text moved before =
    let t : List Step = steps profile trace in
    let l : Step = step profile line in
    let mine : step a.profile line ≡ l = ap (λ p. step p line) before.in_profile in
    let more : steps profile (trace ++ line ∷ []) ≡ t ++ l ∷ [] = steps-more profile trace line in
    let at : a.lines + 1 ≡ length t + 1 = ap (λ n. n + 1) (before.lines ∙ sym (length-map trace (step profile))) in
    let kept : Keeps was (ended s t) =
    kept_state was (ended s t) (sym (state_known was) ∙ ap start_state (sym knew) ∙ before.state) in
    let here : state_of was ≡ ended s t = state_kept was (ended s t) kept in
    let kept_now : Keeps now (step_after l (state_of was)) =
    subst (λ r. Keeps now (step_after r (state_of was))) mine moved in
    record {
      asked = asks ∙ before.asked;
      in_profile = same ∙ before.in_profile;
      state = ap start_state knows ∙ state_known now
          ∙ state_kept now (ended s (t ++ l ∷ [])) (kept_more was now s t l kept_now kept)
          ∙ ap (ended s) (sym more);
      lines = lines ∙ ap (λ n. n + 1) before.lines ∙ sym (length-append trace (line ∷ []));
      said = said ∙ ap (λ n. n + line_count a.question line (state_of was)) before.said
          ∙ ap (λ r. answer_count q s t + line_count r line (state_of was)) before.asked
          ∙ ap (λ r. answer_count q s t + line_count q line r) here
          ∙ sym (answer_count-more q s t l)
          ∙ ap (answer_count q s) (sym more);
      text = text ∙ ap (λ (r : List ℕ). r ++ line_text a.question (a.lines + 1) line (state_of was)) before.text
          ∙ ap (λ r. answer_lines q s t ++ line_text r (a.lines + 1) line (state_of was)) before.asked
          ∙ ap (λ n. answer_lines q s t ++ line_text q n line (state_of was)) at
          ∙ ap (λ r. answer_lines q s t ++ line_text q (length t + 1) line r) here
          ∙ sym (answer_lines-more q s t l)
          ∙ ap (answer_lines q s) (sym more);
    }

-- a line that nothing is said of
pub silent_count : (q : Question) (line : Entry) (s : State) → LineHasNoEntry q line s → line_count q line s ≡ 0
silent_count Findings line s is = ap length is
silent_count Denials line s is = ap length is

pub silent_text : (q : Question) (at : ℕ) (line : Entry) (s : State) → LineHasNoEntry q line s
    → line_text q at line s ≡ []
silent_text Findings at line s is = ap (flat_map (λ f. finding_line line (found_at at f))) is
silent_text Denials at line s is = ap (flat_map (λ d. denial_line line (denied_at at d))) is
