-- The two parts of a whole, as an edit of one of them sees them: the part on a side, and the other one.
use Rattle.std.specs.Prelude.{◌≡◌, ℕ, ◌+◌, ◌<◌, List, ◌++◌}
use Rattle.cap_tree.specs.declared.similarity.Side.{Side}
use Rattle.cap_tree.specs.declared.similarity.Side.TheVariants.{Left, Right}

-- of a left and a right one, the one on the side ..
abbrev pub part_at : {T : Type 0} → Side → T → T → T
part_at Left left right = left
part_at Right left right = right

-- .. and the other
abbrev pub other_at : {T : Type 0} → Side → T → T → T
other_at Left left right = right
other_at Right left right = left

abbrev pub opposite : Side → Side
opposite Left = Right
opposite Right = Left

-- the items of the part on the side and those of the other, in order
abbrev pub beside : {X : Type 0} → Side → List X → List X → List X
beside Left part other = part ++ other
beside Right part other = other ++ part

-- the whole is a join of the part on the side and the other, in order
abbrev pub IsJoinAt : {S : Type 0} → (S → S → S → Type 0) → Side → S → S → S → Type 0
IsJoinAt composes Left part other whole = composes part other whole
IsJoinAt composes Right part other whole = composes other part whole

-- where a place is, after so many items of the left part: on which side, and where there
abbrev pub IsAt : Side → ℕ → ℕ → ℕ → Type 0
IsAt Left middle at place = (at < middle) × (place ≡ at)
IsAt Right middle at place = middle + place ≡ at
