-- What it is for runs of steps to be kept between two lists of steps: those that were, and those that are now.
use Rattle.std.specs.Prelude.{◌+◌, ◌<◌, ◌≡◌, ◌≤◌, All, List, [], ◌∷◌, drop, length, take, ⊤, ℕ}
use Rattle.cap_machine.specs.declared.step.Step.{Step}
use Rattle.cap_summary.specs.declared.kept_run.KeptRun.{KeptRun}

-- so many steps of a list, after so many others
abbrev pub steps_of : List Step → ℕ → ℕ → List Step
steps_of steps at len = take len (drop at steps)

-- The run has a step, lies within both lists, and is the same steps in both.
pub record IsKeptRun (old new : List Step) (run : KeptRun) : Type 0 where
  pub some : 0 < run.len
  pub within_old : run.was + run.len ≤ length old
  pub within_new : run.at + run.len ≤ length new
  pub same : steps_of new run.at run.len ≡ steps_of old run.was run.len

-- The runs follow one another in both lists, after so many steps of each: none begins before the one before it ends.
abbrev pub FollowFrom : ℕ → ℕ → List KeptRun → Type 0
FollowFrom was at [] = ⊤
FollowFrom was at (run ∷ runs) =
    (was ≤ run.was) × (at ≤ run.at) × FollowFrom (run.was + run.len) (run.at + run.len) runs

-- These runs are kept: each is in both lists, and they follow one another in both.
pub record AreKeptRuns (old new : List Step) (runs : List KeptRun) : Type 0 where
  pub each : All (IsKeptRun old new) runs
  pub follow : FollowFrom 0 0 runs
