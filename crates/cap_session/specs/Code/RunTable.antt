-- What the table of kept runs means: where each line of a trace stood.
use Rattle.std.specs.Prelude.{◌+◌, ◌-◌, ◌<◌, ◌≤◌, ◌==◌, ◌&&◌, List, [], ◌∷◌, ◌++◌, drop, length, map, replicate, take, ⊤}
use Rattle.std.specs.Prelude.{Bool, if◌then◌else◌, Option, None, Some, ℕ, suc, zero}
use Rattle.std.specs.List.{range_with_len}
use Rattle.cap_session.specs.Limits.{most_lines}
use Rattle.cap_summary.specs.declared.kept_run.KeptRun.{KeptRun}

-- the lines of a run
abbrev pub stood : KeptRun → List (Option ℕ)
stood run = map Some (range_with_len (run.was + 1) run.len)

-- the lines after `at` others, `end` of them with those; a line in no run is new
unfoldable pub spread : ℕ → List KeptRun → ℕ → List (Option ℕ)
spread at [] end = replicate (end - at) None
spread at (run ∷ runs) end = replicate (run.at - at) None ++ (stood run ++ spread (run.at + run.len) runs end)

-- where runs end then and now, if they begin there
unfoldable pub was_end : ℕ → List KeptRun → ℕ
was_end was [] = was
was_end was (run ∷ runs) = was_end (run.was + run.len) runs

unfoldable pub at_end : ℕ → List KeptRun → ℕ
at_end at [] = at
at_end at (run ∷ runs) = at_end (run.at + run.len) runs

-- the least sum of where the next run begins then and now, so that it doesn't begin where this one ends in both
abbrev pub behind : KeptRun → ℕ
behind run = run.was + run.len + (run.at + run.len) + 1

unfoldable pub apart_end : ℕ → List KeptRun → ℕ
apart_end apart [] = apart
apart_end apart (run ∷ runs) = apart_end (behind run) runs

-- Runs follow one another, after so many lines then and now. Two that meet in both would be one.
unfoldable pub InOrder : ℕ → ℕ → ℕ → List KeptRun → Type 0
InOrder was at apart [] = ⊤
InOrder was at apart (run ∷ runs) =
    (was ≤ run.was) × (at ≤ run.at) × (apart ≤ run.was + run.at) × (0 < run.len)
    × InOrder (run.was + run.len) (run.at + run.len) (behind run) runs

-- The runs are in order, and lie within so many lines now, and within the most then.
pub record IsTable (count : ℕ) (runs : List KeptRun) : Type 0 where
  pub order : InOrder 0 0 0 runs
  pub within_then : was_end 0 runs ≤ most_lines
  pub within_now : at_end 0 runs ≤ count
  pub few : count ≤ most_lines

-- Runs are cut at a place: those before an index end there at the latest, the others begin there at the earliest.
pub record IsCut (at : ℕ) (runs : List KeptRun) (index : ℕ) : Type 0 where
  pub within : index ≤ length runs
  pub front : InOrder 0 0 0 (take index runs)
  pub back : InOrder (was_end 0 (take index runs)) at 0 (drop index runs)
  pub before : at_end 0 (take index runs) ≤ at

-- the lines of a run before a place, and those from there on
abbrev pub front_of : ℕ → KeptRun → KeptRun
front_of at run = record run { len = at - run.at }

abbrev pub back_of : ℕ → KeptRun → KeptRun
back_of at run = record { was = run.was + (at - run.at); at = at; len = run.len - (at - run.at) }

-- runs of which the one at an index is cut at a place
unfoldable pub split : ℕ → ℕ → List KeptRun → List KeptRun
split i at [] = []
split zero at (run ∷ runs) = front_of at run ∷ back_of at run ∷ runs
split (suc i) at (run ∷ runs) = run ∷ split i at runs

-- a run that begins one line later now, and one line earlier
abbrev pub up : KeptRun → KeptRun
up run = record run { at = run.at + 1 }

abbrev pub down : KeptRun → KeptRun
down run = record run { at = run.at - 1 }

-- runs without the line at a place, where the first begins there
abbrev pub short : KeptRun → KeptRun
short run = record { was = run.was + 1; at = run.at + 1; len = run.len - 1 }

abbrev pub without_first : ℕ → List KeptRun → List KeptRun
without_first at [] = []
without_first at (run ∷ runs) =
    if run.at == at then (if run.len == 1 then runs else short run ∷ runs) else run ∷ runs

-- two runs that meet in both, and the one that they make
abbrev pub do_meet : KeptRun → KeptRun → Bool
do_meet run next = run.was + run.len == next.was && run.at + run.len == next.at

abbrev pub both : KeptRun → KeptRun → KeptRun
both run next = record run { len = run.len + next.len }

-- the runs with the one at an index joined to the one before it, where they meet
unfoldable pub joined_first : KeptRun → List KeptRun → List KeptRun
joined_first run [] = run ∷ []
joined_first run (next ∷ runs) = if do_meet run next then both run next ∷ runs else run ∷ next ∷ runs

unfoldable pub joined : ℕ → List KeptRun → List KeptRun
joined zero runs = runs
joined (suc i) [] = []
joined (suc zero) (run ∷ runs) = joined_first run runs
joined (suc (suc i)) (run ∷ runs) = run ∷ joined (suc i) runs
