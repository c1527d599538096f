-- What is said of the steps of a trace, at their positions: findings and denials, and the lines about them.
use Rattle.std.proofs.Common.{◌≡◌, ℕ, ◌+◌, ◌-◌, ◌<◌, ◌≤◌, List, [], ◌∷◌, ◌++◌, length, map, zero, suc, Option}
use Rattle.std.proofs.Common.{Some, refl, ap, ◌∙◌, arith, length-append}
use Rattle.std.specs.Prelude.{flat_map}
use Rattle.std.specs.List.{All, slice_get}
use Rattle.std.proofs.lemmas.List.{length-map}
use Rattle.std.proofs.lemmas.List.Concat.{flat_map-append}
use Rattle.std.proofs.lemmas.List.Elements.{All-head, All-tail}
use Rattle.cap_machine.specs.declared.step.Step.{Step}
use Rattle.cap_machine.specs.declared.question.Question.{Question}
use Rattle.cap_machine.specs.declared.question.Question.TheVariants.{Findings, Denials}
use Rattle.cap_machine.specs.State.{State}
use Rattle.cap_machine.specs.History.{ended}
use Rattle.cap_machine.specs.Check.{check, said, found_at}
use Rattle.cap_machine.specs.Denials.{denials, denied, denied_at}
use Rattle.cap_machine.specs.Report.{line_about}
use Rattle.cap_machine.specs.DenialReport.{denial_about}
use Rattle.cap_machine.specs.Questions.{answer_count, answer_lines, line_count, line_text}
use Rattle.cap_machine.proofs.Turns.{checks_more, denials_more}
use Rattle.cap_machine.proofs.Positions.{positions_within, denials_within}

get-front : (i : ℕ) (t u : List Step) → i < length t → slice_get (t ++ u) i ≡ slice_get t i
get-front i [] u lt = absurd (omega arith)
get-front zero (step ∷ t) u lt = refl
get-front (suc i) (step ∷ t) u lt = get-front i t u (omega arith)

get-end : (t : List Step) (step : Step) → slice_get (t ++ step ∷ []) (length t) ≡ Some step
get-end [] step = refl
get-end (first ∷ t) step = get-end t step

get-next : (t : List Step) (step : Step) (n : ℕ) → n ≡ length t + 1 → slice_get (t ++ step ∷ []) (n - 1) ≡ Some step
get-next t step n is =
    let place : n - 1 ≡ length t = omega arith in
    ap (slice_get (t ++ step ∷ [])) place ∙ get-end t step

-- it is at one of the first n steps
abbrev IsWithin : {X : Type 0} → (X → ℕ) → ℕ → X → Type 0
IsWithin place n x = (1 ≤ place x) × (place x ≤ n)

-- the line about one, by the step at its position
abbrev line_at : {X : Type 0} → (X → ℕ) → (Option Step → X → List ℕ) → List Step → X → List ℕ
line_at place about t x = about (slice_get t (place x - 1)) x

-- more steps don't change the lines about the earlier ones
lines-front : {X : Type 0} (place : X → ℕ) (about : Option Step → X → List ℕ) (t u : List Step) (xs : List X)
    → All (IsWithin place (length t)) xs
    → flat_map (line_at place about (t ++ u)) xs ≡ flat_map (line_at place about t) xs
lines-front place about t u [] h = refl
lines-front place about t u (x ∷ xs) h =
    ap (λ (r : List ℕ). r ++ flat_map (line_at place about (t ++ u)) xs)
    (let here = All-head (IsWithin place (length t)) x xs h in
    ap (λ (e : Option Step). about e x) (get-front (place x - 1) t u (omega (arith, here))))
    ∙ ap (λ (r : List ℕ). line_at place about t x ++ r)
    (lines-front place about t u xs (All-tail (IsWithin place (length t)) x xs h))

-- the lines about the next step
lines-next : {A X : Type 0} (place : X → ℕ) (about : Option Step → X → List ℕ) (make : A → X) (t : List Step) (l : Step)
    → ((a : A) → place (make a) ≡ length t + 1) → (says : List A)
    → flat_map (line_at place about (t ++ l ∷ [])) (map make says) ≡ flat_map (λ a. about (Some l) (make a)) says
lines-next place about make t l at [] = refl
lines-next place about make t l at (a ∷ says) =
    ap (λ (r : List ℕ). r ++ flat_map (line_at place about (t ++ l ∷ [])) (map make says))
    (ap (λ (e : Option Step). about e (make a)) (get-next t l (place (make a)) (at a)))
    ∙ ap (λ (r : List ℕ). about (Some l) (make a) ++ r) (lines-next place about make t l at says)

-- what is said after one more step: how much, and the lines about it
count_more : {A X : Type 0} (make : A → X) (old new : List X) (says : List A) → new ≡ old ++ map make says
    → length new ≡ length old + length says
count_more make old new says is =
    ap length is ∙ length-append old (map make says) ∙ ap (λ n. length old + n) (length-map says make)

lines_more : {A X : Type 0} (place : X → ℕ) (about : Option Step → X → List ℕ) (make : A → X) (t : List Step) (l : Step)
    (old new : List X) (says : List A) → ((a : A) → place (make a) ≡ length t + 1) → All (IsWithin place (length t)) old
    → new ≡ old ++ map make says
    → flat_map (line_at place about (t ++ l ∷ [])) new
    ≡ flat_map (line_at place about t) old ++ flat_map (λ a. about (Some l) (make a)) says
lines_more place about make t l old new says at within is =
    let line = line_at place about (t ++ l ∷ []) in
    ap (flat_map line) is ∙ flat_map-append line old (map make says)
    ∙ ap (λ (r : List ℕ). r ++ flat_map line (map make says)) (lines-front place about t (l ∷ []) old within)
    ∙ ap (λ (r : List ℕ). flat_map (line_at place about t) old ++ r) (lines-next place about make t l at says)

-- the same of what answers a question
pub answer_count-more : (q : Question) (s : State) (t : List Step) (l : Step)
    → answer_count q s (t ++ l ∷ []) ≡ answer_count q s t + line_count q l.line (ended s t)
answer_count-more Findings s t l =
    count_more (found_at (length t + 1)) (check s t) (check s (t ++ l ∷ [])) (said l (ended s t)) (checks_more s t l)
answer_count-more Denials s t l =
    count_more (denied_at (length t + 1)) (denials s t) (denials s (t ++ l ∷ [])) (denied l (ended s t))
    (denials_more s t l)

pub answer_lines-more : (q : Question) (s : State) (t : List Step) (l : Step)
    → answer_lines q s (t ++ l ∷ []) ≡ answer_lines q s t ++ line_text q (length t + 1) l.line (ended s t)
answer_lines-more Findings s t l =
    lines_more (λ x. x.at) line_about (found_at (length t + 1)) t l (check s t) (check s (t ++ l ∷ [])) (said l (ended s t))
    (λ a. refl) (positions_within s t) (checks_more s t l)
answer_lines-more Denials s t l =
    lines_more (λ x. x.at) denial_about (denied_at (length t + 1)) t l (denials s t) (denials s (t ++ l ∷ []))
    (denied l (ended s t)) (λ a. refl) (denials_within s t) (denials_more s t l)
