-- Where findings and denials stand.
use Rattle.std.proofs.Common.{◌≡◌, ℕ, ◌+◌, ◌≤◌, List, [], ◌∷◌, length, map, reverse, refl, subst, arith}
use Rattle.std.specs.List.{All}
use Rattle.std.proofs.lemmas.List.{length-reverse}
use Rattle.std.proofs.lemmas.List.Elements.{All-append, All-map, All-nil}
use Rattle.cap_machine.specs.declared.step.Step.{Step}
use Rattle.cap_machine.specs.declared.verdict.Finding.{Finding}
use Rattle.cap_machine.specs.declared.verdict.Found.{Found}
use Rattle.cap_machine.specs.declared.denial.Denial.{Denial}
use Rattle.cap_machine.specs.declared.denial.Denied.{Denied}
use Rattle.cap_machine.specs.State.{State}
use Rattle.cap_machine.specs.History.{after, told}
use Rattle.cap_machine.specs.Check.{said, found_at}
use Rattle.cap_machine.specs.Denials.{denied, denied_at}
use Rattle.cap_machine.specs.Named.{PositionsWithin}
use Rattle.cap_machine.specs.DenialLaws.{DenialsWithin}

module _ (A X : Type 0) (at : ℕ → A → X) (says : Step → State → List A) (place : X → ℕ)
    (is_at : (n : ℕ) (a : A) → place (at n a) ≡ n) where
  abbrev IsWithin : ℕ → X → Type 0
  IsWithin n x = (1 ≤ place x) × (place x ≤ n)

  told_within : (s : State) (history : List Step) → All (IsWithin (length history)) (told at says s history)
  told_within s [] = All-nil (IsWithin 0)
  told_within s (step ∷ history) =
      let next : ℕ = length history + 1 in
      let before : All (IsWithin next) (told at says s history) =
      λ k d lt. let is = told_within s history k d lt in (is.0, omega (arith, is.1)) in
      let here : All (IsWithin next) (map (at next) (says step (after s history))) =
      All-map (IsWithin next) (at next) (says step (after s history))
      (λ k d lt. (omega (arith, is_at next), omega (arith, is_at next))) in
      let same : next ≡ length (step ∷ history) = omega arith in
      let P : ℕ → Type 0 = λ n. All (IsWithin n) (told at says s (step ∷ history)) in
      subst P same (All-append (IsWithin next) (told at says s history)
      (map (at next) (says step (after s history))) before here)

  trace_within : (s : State) (trace : List Step) → All (IsWithin (length trace)) (told at says s (reverse trace))
  trace_within s trace =
      let P : ℕ → Type 0 = λ n. All (IsWithin n) (told at says s (reverse trace)) in
      subst P (length-reverse trace) (told_within s (reverse trace))

pub positions_within : PositionsWithin
positions_within = trace_within Finding Found found_at said (λ x. x.at) (λ n a. refl)

pub denials_within : DenialsWithin
denials_within = trace_within Denial Denied denied_at denied (λ x. x.at) (λ n a. refl)
