-- The processes that make the steps of a run, and what is noted of them.
use Rattle.std.specs.Prelude.{◌+◌, ◌<◌, ◌∷◌}
use Rattle.cap_summary.specs.{List, Positions.last_of, Step, [], declared.last_steps.LastSteps.LastSteps, map, ℕ}

-- the process of each step
abbrev pub pids_of : List Step → List ℕ
pids_of t = map (λ (step : Step). step.line.pid) t

-- of these processes, each makes a step after so many others, which isn't beyond its last one
abbrev pub AreNotedFor : LastSteps → ℕ → List ℕ → Type 0
AreNotedFor last at [] = Unit {0}
AreNotedFor last at (p ∷ pids) = (at < last_of last p) × AreNotedFor last (at + 1) pids
