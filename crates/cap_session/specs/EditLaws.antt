-- Laws of edits: an inserted line is at its position, and its deletion brings the old trace back; the accepted edits
-- alone give the same trace; no edit is refused by its definition for lack of memory.
use Rattle.std.specs.Prelude.{◌≡◌, ◌≢◌, ℕ, ◌-◌, Bool, List, [], ◌∷◌, Result, Ok, Err, Some}
use Rattle.std.specs.List.{slice_get}
use Rattle.cap_trace.specs.Entry.{Entry}
use Rattle.cap_trace.specs.Reading.{line_of}
use Rattle.cap_session.specs.declared.refused.Refused.{Refused}
use Rattle.cap_session.specs.declared.refused.Refused.TheVariants.{Memory}
use Rattle.cap_session.specs.declared.edit.Edit.{Edit}
use Rattle.cap_session.specs.Edits.{inserted, deleted, edited, after, answers}

-- the edits that were accepted, by their answers
abbrev pub accepted : List Edit → List (Result ℕ Refused) → List Edit
accepted (edit ∷ edits) (Ok count ∷ answers) = edit ∷ accepted edits answers
accepted (edit ∷ edits) (Err e ∷ answers) = accepted edits answers
accepted [] _ = []
accepted (edit ∷ edits) [] = []

-- the trace that edits give, one after the other, or the first refusal
abbrev pub given : ℕ → List Entry → List Edit → Result (List Entry) Refused
given limit trace [] = Ok trace
given limit trace (edit ∷ edits) = elim (edited limit trace edit) [ Ok next ↦ given limit next edits | Err e ↦ Err e ]

-- The trace after edits is the one that those that were accepted give: with the others left out, none is refused.
abbrev pub AcceptedEditsGive : Type 0
AcceptedEditsGive = (limit : ℕ) (trace : List Entry) (edits : List Edit) (ran_out : List Bool) →
    given limit trace (accepted edits (answers limit trace edits ran_out)) ≡ Ok (after limit trace edits ran_out)

-- No edit is refused with `Memory` by its definition.
abbrev pub NoEditAsksForMemory : Type 0
NoEditAsksForMemory = (limit : ℕ) (trace : List Entry) (edit : Edit) → edited limit trace edit ≢ Err Memory

-- An inserted line is at its position, and the trace comes back where it is deleted there.
abbrev pub InsertedStands : Type 0
InsertedStands = (limit : ℕ) (trace next : List Entry) (position : ℕ) (bytes : List ℕ)
    → inserted limit trace position bytes ≡ Ok next →
    (line : Entry) × (line_of bytes ≡ Ok line) × (slice_get next (position - 1) ≡ Some line)
    × (deleted next position ≡ Ok trace)
