-- Which descriptors of a process stand in what is known of it, one by one: those that a line made or changed alone, and
-- those that a start lists. One that is held only because a start says so of all others doesn't.
use Rattle.std.specs.Prelude.{◌≡◌, ◌⊎◌, ℕ, ◌==◌, Bool, true, List, [], ◌∷◌}
use Rattle.std.specs.List.{list_any}
use Rattle.cap_machine.specs.declared.cell.Cell.{Cell}
use Rattle.cap_machine.specs.declared.cell.Cell.TheVariants.{Unknown, Closed, Held}
use Rattle.cap_machine.specs.declared.step.Step.{Step}
use Rattle.cap_machine.specs.State.{Added, last_cells}
use Rattle.cap_machine.specs.Touch.{Touch, kept, given, taken, touch}

-- the start lists descriptor f of process p
abbrev pub start_lists : List Added → ℕ → ℕ → Bool
start_lists start p f = list_any (λ (entry : ℕ × Cell). f == entry.0) (last_cells [] start p)

-- By what a step does to a descriptor, and to each of its process: it stands where the step gave it. Where the step took
-- it from another cell, it stands if the step left some descriptor of the process as it was; a step that took them all, as
-- a fork or an exec does, hands on what stood there.
abbrev pub StandsBy : Touch → (ℕ → Touch) → (ℕ → ℕ → Type 0) → ℕ → ℕ → Type 0
StandsBy kept all before p f = before p f
StandsBy (given c) all before p f = Unit {0}
StandsBy (taken op q g) all before p f = ((n : ℕ) × (all n ≡ kept)) ⊎ before q g

-- descriptor f of process p stands after a history, its newest step first
abbrev pub Stands : List Added → List Step → ℕ → ℕ → Type 0
Stands start [] p f = start_lists start p f ≡ true
Stands start (step ∷ history) p f = StandsBy (touch step p f) (touch step p) (Stands start history) p f

abbrev pub IsHeld : Cell → Type 0
IsHeld (Held rights flag) = Unit {0}
IsHeld Unknown = ⊥
IsHeld Closed = ⊥
