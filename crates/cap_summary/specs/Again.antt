-- A report that is made again, from an earlier one.
use Rattle.std.specs.Prelude.{All, List, length, take, ℕ, ◌+◌, ◌^◌, ◌≡◌, ◌≤◌}
use Rattle.cap_summary.specs.{Differing.DifferAt, Effects.state_before, Keys.cells_of, State, Step, check, ended, start_state}
use Rattle.cap_summary.specs.{KeptRuns.IsKeptRun, KeptRuns.steps_of, declared.before.Before.Before}
use Rattle.cap_summary.specs.declared.again.{Again.Again, Passed.Passed}

-- the earlier steps, those of now, and the state before both
abbrev pub old_steps : Again → List Step
old_steps again = again.earlier.now.steps

abbrev pub new_steps : Again → List Step
new_steps again = again.node.now.steps

abbrev pub begins : Again → State
begins again = start_state again.start.now

-- what is given: all findings of the earlier steps, and runs that were kept
pub record IsAgain (again : Again) : Type 0 where
  pub found : again.found.now ≡ check (begins again) (old_steps again)
  pub kept : All (IsKeptRun (old_steps again) (new_steps again)) again.kept.now
  pub few_old : length (old_steps again) ≤ 2 ^ 30
  pub few_new : length (new_steps again) ≤ 2 ^ 30

-- so many steps, after so many others of now, stood after so many of the earlier ones
pub record IsKeptAt (again : Again) (was at len : ℕ) : Type 0 where
  pub within_old : was + len ≤ length (old_steps again)
  pub within_new : at + len ≤ length (new_steps again)
  pub same : steps_of (new_steps again) at len ≡ steps_of (old_steps again) was len

-- so many steps were passed: all that is found in them is noted, and so is what the state after them and that after so many
-- earlier steps have differently
pub record IsPassed (again : Again) (passed : Passed) (at : ℕ) : Type 0 where
  pub within : passed.was ≤ length (old_steps again)
  pub differ : DifferAt passed.differences.cells.items (cells_of (ended (begins again) (take passed.was (old_steps again))))
      (cells_of (ended (begins again) (take at (new_steps again))))
  pub found : passed.found.items ≡ check (begins again) (take at (new_steps again))

-- these steps stand after so many others
pub record IsPlaced (again : Again) (at : ℕ) (t : List Step) : Type 0 where
  pub within : at + length t ≤ length (new_steps again)
  pub same : steps_of (new_steps again) at (length t) ≡ t

-- the state after so many steps
abbrev pub IsHere : Again → Before → ℕ → Type 0
IsHere again before at = state_before before ≡ ended (begins again) (take at (new_steps again))
