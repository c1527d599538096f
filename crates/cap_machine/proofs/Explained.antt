-- Which line of a trace is explained.
use Rattle.std.proofs.Common.{◌≡◌, ℕ, ◌+◌, ◌<◌, ◌≤◌, if◌then◌else◌, Bool, List, [], ◌∷◌, ◌++◌}
use Rattle.std.proofs.Common.{length, take, drop, Some, None, refl, sym, ap, ◌∙◌, arith, length-append, eq-eqb}
use Rattle.std.specs.List.{IsLastAndRest}
use Rattle.std.proofs.lemmas.List.{take-append-drop, length-take-le}
use Rattle.std.proofs.lemmas.Bool.{ne_eqb}
use Rattle.cap_trace.specs.Entry.{Entry}
use Rattle.cap_machine.specs.declared.cell.Profile.{Profile}
use Rattle.cap_machine.specs.declared.step.Step.{Step}
use Rattle.cap_machine.specs.Steps.{step}
use Rattle.cap_machine.specs.State.{State}
use Rattle.cap_machine.specs.Explain.{explained, explained_at}
use Rattle.cap_machine.proofs.Provenances.{back, back-append, length-back}

-- a step that isn't at the position
passed : (s : State) (step : Step) (history : List Step) (k : ℕ) → (k ≡ length history + 1 → ⊥)
    → explained_at s (step ∷ history) k ≡ explained_at s history k
passed s step history k ne =
    ap (λ (b : Bool). if b then Some (explained s history step) else explained_at s history k)
    (ne_eqb k (length history + 1) ne)

past : (s : State) (history : List Step) (k : ℕ) → length history < k → explained_at s history k ≡ None
past s [] k lt = refl
past s (step ∷ history) k lt =
    passed s step history k (λ e. absurd (omega arith)) ∙ past s history k (omega arith)

pub explained_zero : (s : State) (history : List Step) → explained_at s history 0 ≡ None
explained_zero s [] = refl
explained_zero s (step ∷ history) =
    passed s step history 0 (λ e. absurd (omega arith)) ∙ explained_zero s history

older : (s : State) (newer history : List Step) (k : ℕ) → k ≤ length history
    → explained_at s (newer ++ history) k ≡ explained_at s history k
older s [] history k le = refl
older s (step ∷ newer) history k le =
    passed s step (newer ++ history) k (λ e. absurd (omega (arith, length-append newer history)))
    ∙ older s newer history k le

pub explained_past : (s : State) (profile : Profile) (lines : List Entry) (k : ℕ) → length lines < k
    → explained_at s (back profile lines) k ≡ None
explained_past s profile lines k lt = past s (back profile lines) k (omega (arith, length-back profile lines))

newest : (s : State) (step : Step) (history : List Step) (k : ℕ) → k ≡ length history + 1
    → explained_at s (step ∷ history) k ≡ Some (explained s history step)
newest s step history k e =
    ap (λ (b : Bool). if b then Some (explained s history step) else explained_at s history k)
    (eq-eqb k (length history + 1) e)

pub explained_here : (s : State) (profile : Profile) (lines before : List Entry) (line : Entry) (k : ℕ)
    → k ≤ length lines → IsLastAndRest (take k lines) line before
    → explained_at s (back profile lines) k ≡ Some (explained s (back profile before) (step profile line))
explained_here s profile lines before line k le is =
    let long : length (take k lines) ≡ k = length-take-le k lines le in
    ap (λ (r : List Entry). explained_at s (back profile r) k) (sym (take-append-drop k lines))
    ∙ ap (λ (h : List Step). explained_at s h k) (back-append profile (take k lines) (drop k lines))
    ∙ older s (back profile (drop k lines)) (back profile (take k lines)) k
    (omega (arith, length-back profile (take k lines)))
    ∙ ap (λ (r : List Entry). explained_at s (back profile r) k) is.0
    ∙ ap (λ (h : List Step). explained_at s h k) (back-append profile before (line ∷ []))
    ∙ newest s (step profile line) (back profile before) k (omega (arith, length-back profile before, is.1))
