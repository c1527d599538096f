-- What an edit makes of a list.
use Rattle.std.specs.Prelude.{ℕ, ◌^◌, ◌<◌, ◌≤◌, List, insert, remove, slice_set}
use Rattle.cap_tree.specs.declared.run.Edit.{Edit}
use Rattle.cap_tree.specs.declared.run.Edit.TheVariants.{Insert, Replace, Remove}

-- the list after an edit at a place
abbrev pub edited : {X : Type 0} → Edit X → List X → ℕ → List X
edited (Insert item) xs at = insert xs at item.value
edited (Replace item) xs at = slice_set xs at item.value
edited Remove xs at = remove xs at

-- whether an edit may be made at a place of so many items: it must be that of one of them; an insert may go after all of
-- them too, but there must be room for one more
abbrev pub IsAllowed : {X : Type 0} → Edit X → ℕ → ℕ → Type 0
IsAllowed (Insert item) count at = (at ≤ count) × (count < 2 ^ 30)
IsAllowed (Replace item) count at = at < count
IsAllowed Remove count at = at < count
