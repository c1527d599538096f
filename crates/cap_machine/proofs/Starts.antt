-- Starts, by what was added to them.
use Rattle.std.proofs.Common.{◌≡◌, ℕ, ◌+◌, ◌<◌, ◌==◌, if◌then◌else◌, List, [], ◌∷◌, ◌++◌, map, refl, sym, ap, ◌∙◌}
use Rattle.std.proofs.Common.{get_or, length, take}
use Rattle.std.proofs.lemmas.List.{map-append, take_more}
use Rattle.cap_machine.specs.declared.cell.Cell.{Cell}
use Rattle.cap_machine.specs.declared.start.Entry.{Entry}
use Rattle.cap_machine.specs.Code.Starts.{added_by}
use Rattle.cap_machine.specs.State.{last_cells}
use Rattle.cap_machine.specs.State.{State, Added, with_listed, with_all, usual}
use Rattle.cap_machine.specs.State.{start_state}

all_more : (s : State) (added : List Added) (next : Added)
    → with_all s (added ++ next ∷ []) ≡ with_listed (with_all s added) next.pid next.mode next.rest next.cells
all_more s [] next = refl
all_more s (first ∷ added) next =
    all_more (with_listed s first.pid first.mode first.rest first.cells) added next

-- what is added last comes last
pub state_more : (added : List Added) (next : Added)
    → start_state (added ++ next ∷ []) ≡ with_listed (start_state added) next.pid next.mode next.rest next.cells
unfolding start_state
state_more added next = all_more usual added next

-- one more entry of a start is one more process
pub state_added : (old room now : List Entry) (entry : Entry) → room ≡ old → now ≡ room ++ entry ∷ []
    → start_state (map added_by now)
    ≡ with_listed (start_state (map added_by old)) entry.pid entry.mode entry.rest entry.cells.items
state_added old room now entry same more =
    ap (λ (r : List Entry). start_state (map added_by r)) (more ∙ ap (λ (r : List Entry). r ++ entry ∷ []) same)
    ∙ ap start_state (map-append added_by old (entry ∷ []))
    ∙ state_more (map added_by old) (added_by entry)

-- ---- the cells that are listed of a process

last_more : (cells : List (ℕ × Cell)) (added : List Added) (next : Added) (p : ℕ)
    → last_cells cells (added ++ next ∷ []) p ≡ (if p == next.pid then next.cells else last_cells cells added p)
last_more cells [] next p = refl
last_more cells (first ∷ added) next p = last_more (if p == first.pid then first.cells else cells) added next p

-- the entries up to an index, and the one at it
pub last_taken : (entries : List Entry) (i : ℕ) (entry : Entry) (p : ℕ) → i < length entries
    → entry ≡ get_or entries i entry → last_cells [] (map added_by (take (i + 1) entries)) p
    ≡ (if p == entry.pid then entry.cells.items else last_cells [] (map added_by (take i entries)) p)
last_taken entries i entry p within is =
    ap (λ (r : List Entry). last_cells [] (map added_by r) p)
    (take_more entries i entry within ∙ ap (λ (r : Entry). take i entries ++ r ∷ []) (sym is))
    ∙ ap (λ (r : List Added). last_cells [] r p) (map-append added_by (take i entries) (entry ∷ []))
    ∙ last_more [] (map added_by (take i entries)) (added_by entry) p
