-- How a walk over findings goes on. Only the code's contracts use this.
use Rattle.std.specs.Prelude.{◌+◌, ◌-◌, ◌≤◌, ◌≡◌, Bool, not, List, [], ◌∷◌, flat_map, map, ⊤, ℕ}
use Rattle.std.specs.List.{range_with_len}
use Rattle.cap_summary.specs.declared.kept_run.KeptRun.{KeptRun}
use Rattle.cap_session.specs.Changes.{Line, of_line, same_findings}
use Rattle.cap_machine.specs.declared.verdict.Found.{Found}

-- findings in order, at a position from a least on
unfoldable pub Rise : ℕ → List Found → Type 0
Rise low [] = ⊤
Rise low (one ∷ found) = (low ≤ one.at) × Rise one.at found

-- and none behind a last
unfoldable pub RiseWithin : ℕ → ℕ → List Found → Type 0
RiseWithin low last [] = ⊤
RiseWithin low last (one ∷ found) = (low ≤ one.at) × (one.at ≤ last) × RiseWithin one.at last found

-- the first finding is at a position
unfoldable pub BeginAt : ℕ → List Found → Type 0
BeginAt position [] = ⊥
BeginAt position (one ∷ found) = one.at ≡ position

-- the lines of a run, and of runs
abbrev pub lines_in : KeptRun → List Line
lines_in run = map (λ k. record { was = run.was + k; at = run.at + k }) (range_with_len 1 run.len)

abbrev pub lines_of : List KeptRun → List Line
lines_of runs = flat_map lines_in runs

-- whether the line of a run that stood at a position, or that stands at one now, has other findings now
abbrev pub differs_then : KeptRun → List Found → List Found → Found → Bool
differs_then run then_found found one =
    not (same_findings (of_line one.at then_found) (of_line (run.at + (one.at - run.was)) found))

abbrev pub differs_now : KeptRun → List Found → List Found → Found → Bool
differs_now run then_found found one =
    not (same_findings (of_line (run.was + (one.at - run.at)) then_found) (of_line one.at found))
