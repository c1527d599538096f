-- Which step of a trace is explained.
use Rattle.std.specs.Prelude.{List, None, Some, [], drop, get_or, length, refl, take, ℕ, ◌++◌, ◌+◌, ◌<◌, ◌∷◌, ◌≡◌, ◌≤◌}
use Rattle.cap_summary.proofs.{arith, length-append, length-reverse, length-take-le, reverse-append, take-append-drop}
use Rattle.cap_summary.proofs.{ap, nat_tests, sym, take_more, ◌∙◌}
use Rattle.cap_summary.specs.{State, Step, explained, explanation, reverse}
use Rattle.cap_machine.specs.Explain.{explained_at}

-- a step that isn't at the position
passed : (s : State) (step : Step) (history : List Step) (k : ℕ) → (k ≡ length history + 1 → ⊥)
    → explained_at s (step ∷ history) k ≡ explained_at s history k
passed s step history k ne = grind (arith, nat_tests, ne)

outside : (s : State) (history : List Step) (k : ℕ) → ((n : ℕ) → n < length history → k ≡ n + 1 → ⊥)
    → explained_at s history k ≡ None
outside s [] k none = refl
outside s (step ∷ history) k none =
    passed s step history k (none (length history) (omega arith)) ∙ outside s history k (λ n lt. none n (omega arith))

older : (s : State) (newer history : List Step) (k : ℕ) → k ≤ length history
    → explained_at s (newer ++ history) k ≡ explained_at s history k
older s [] history k le = refl
older s (step ∷ newer) history k le =
    passed s step (newer ++ history) k (λ e. absurd (omega (arith, length-append newer history)))
    ∙ older s newer history k le

pub explained_zero : (s : State) (t : List Step) (k : ℕ) → k ≡ 0 → explanation s t k ≡ None
explained_zero s t k is = outside s (reverse t) k (λ n lt e. omega arith)

pub explained_past : (s : State) (t : List Step) (k : ℕ) → length t < k → explanation s t k ≡ None
explained_past s t k past = outside s (reverse t) k (λ n lt e. omega (arith, length-reverse t))

newest : (s : State) (step : Step) (history : List Step) (k : ℕ) → k ≡ length history + 1
    → explained_at s (step ∷ history) k ≡ Some (explained s history step)
newest s step history k e = grind (arith, nat_tests, e)

pub explained_there : (s : State) (t : List Step) (k n : ℕ) (step : Step) → k ≡ n + 1 → n < length t
    → get_or t n step ≡ step → explanation s t k ≡ Some (explained s (reverse (take n t)) step)
explained_there s t k n step at lt is =
    let before : List Step = take n t in
    let beyond : List Step = drop (n + 1) t in
    let upto : List Step = before ++ step ∷ [] in
    let split : t ≡ upto ++ beyond = sym (take-append-drop (n + 1) t)
    ∙ ap (λ (r : List Step). r ++ beyond) (take_more t n step lt ∙ ap (λ (x : Step). before ++ x ∷ []) is) in
    let long : length (reverse before) ≡ n = length-reverse before ∙ length-take-le n t (omega arith) in
    let turned : reverse upto ≡ step ∷ reverse before = reverse-append before (step ∷ []) in
    ap (λ (r : List Step). explained_at s (reverse r) k) split
    ∙ ap (λ (h : List Step). explained_at s h k) (reverse-append upto beyond)
    ∙ ap (λ (h : List Step). explained_at s (reverse beyond ++ h) k) turned
    ∙ older s (reverse beyond) (step ∷ reverse before) k (omega (arith, at, long))
    ∙ newest s step (reverse before) k (omega (arith, at, long))
