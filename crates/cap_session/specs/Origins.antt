-- Where each line of a trace stood at the last report: at a position, counted from 1; or nowhere, for it is new. And what
-- a session keeps of that report.
use Rattle.std.specs.Prelude.{◌+◌, ◌-◌, ◌==◌, ◌≡◌, ◌⊎◌, nat_le, if◌then◌else◌, Bool, false, List, [], ◌∷◌, length, map}
use Rattle.std.specs.Prelude.{insert, remove, slice_set, Option, None, Some, option_and_then, ℕ}
use Rattle.std.specs.List.{range_with_len}
use Rattle.cap_trace.specs.Entry.{Entry}
use Rattle.cap_session.specs.declared.edit.Edit.{Edit}
use Rattle.cap_session.specs.declared.edit.Edit.TheVariants.{Insert, Delete, Replace}

-- ---- where lines stood

-- so many lines that stand where they stood
abbrev pub unmoved : ℕ → List (Option ℕ)
unmoved n = map Some (range_with_len 1 n)

-- An edit puts a new line in, takes the line at its position out, or makes that line new.
abbrev pub put_in : ℕ → List (Option ℕ) → List (Option ℕ)
put_in position origins = insert origins (position - 1) None

abbrev pub taken_out : ℕ → List (Option ℕ) → List (Option ℕ)
taken_out position origins = remove origins (position - 1)

abbrev pub made_new : ℕ → List (Option ℕ) → List (Option ℕ)
made_new position origins = slice_set origins (position - 1) None

abbrev pub origins_after : Edit → List (Option ℕ) → List (Option ℕ)
origins_after (Insert position line) = put_in position
origins_after (Delete position) = taken_out position
origins_after (Replace position line) = made_new position

-- ---- runs of lines that stood one after another then and do so now

-- A line stood right behind the one that is before it now.
abbrev pub stood_behind : Option ℕ → ℕ → Bool
stood_behind None position = false
stood_behind (Some before) position = position == before + 1

-- how many runs lines make, behind this one
unfoldable pub runs_after : Option ℕ → List (Option ℕ) → ℕ
runs_after before [] = 0
runs_after before (None ∷ origins) = runs_after None origins
runs_after before (Some position ∷ origins) =
    (if stood_behind before position then 0 else 1) + runs_after (Some position) origins

-- how many runs the lines of a trace make
abbrev pub runs_in : List (Option ℕ) → ℕ
runs_in origins = runs_after None origins

-- At most so many runs are kept.
abbrev pub most_runs : ℕ
most_runs = 4096

-- ---- what is kept of the last report

-- The trace that was reported, and where each line of today stood in it.
pub record Base : Type 0 where
  pub trace : List Entry
  pub origins : List (Option ℕ)

-- a trace that is reported now
abbrev pub base_of : List Entry → Base
base_of trace = record { trace = trace; origins = unmoved (length trace) }

-- It is kept unless its lines make too many runs.
abbrev pub if_few : Base → Option Base
if_few base = if nat_le (runs_in base.origins) most_runs then Some base else None

-- what an edit makes of it, by what becomes of the lines
abbrev pub moved : (List (Option ℕ) → List (Option ℕ)) → Option Base → Option Base
moved edit = option_and_then (λ base. if_few (record { trace = base.trace; origins = edit base.origins }))

-- This is kept; or nothing is, for memory was refused for it.
abbrev pub IsKeptAs : Option Base → Option Base → Type 0
IsKeptAs wanted base = (base ≡ wanted) ⊎ (base ≡ None)
