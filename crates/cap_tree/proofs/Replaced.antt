-- A node of two parts where an edit replaces one: what is known of the parts, by the side of that one.
use Rattle.std.proofs.Common.{◌≡◌, ℕ, ◌+◌, ◌*◌, ◌≤◌, min, max, List, ◌++◌, length, length-append, refl, arith}
use Rattle.cap_tree.specs.declared.similarity.Side.{Side}
use Rattle.cap_tree.specs.declared.similarity.Side.TheVariants.{Left, Right}
use Rattle.cap_tree.specs.Heights.{DifferByAtMost, HaveChanged}
use Rattle.cap_tree.specs.Sides.{part_at, other_at, IsJoinAt, beside}

-- the items of the parts in order
pub ordered : {N X : Type 0} (items : N → List X) (side : Side) (left right part other : N)
    → left ≡ part_at side part other → right ≡ other_at side part other
    → items left ++ items right ≡ beside side (items part) (items other)
ordered items Left left right part other l r = rw (l, r) refl
ordered items Right left right part other l r = rw (l, r) refl

-- the whole is a join of the parts in order
pub joined-at : {N S : Type 0} (composes : S → S → S → Type 0) (summary : N → S) (side : Side)
    (left right part other : N) (whole : S) → part ≡ part_at side left right → other ≡ other_at side left right
    → composes (summary left) (summary right) whole → IsJoinAt composes side (summary part) (summary other) whole
joined-at composes summary Left left right part other whole p o is = rw (p, o) is
joined-at composes summary Right left right part other whole p o is = rw (p, o) is

-- the heights after an edit of one part
pub have-changed : {N : Type 0} (height : N → ℕ) (side : Side) (left right part other : N) (new whole : ℕ)
    → part ≡ part_at side left right → other ≡ other_at side left right
    → whole ≡ max (height left) (height right) + 1 → DifferByAtMost 1 (height left) (height right)
    → DifferByAtMost 1 new (height part) → HaveChanged (height part) new (height other) whole
have-changed height Left left right part other new whole p o high balanced near =
    record { high = rw (p, o) high; balanced = rw (p, o) balanced; near = near }
have-changed height Right left right part other new whole p o high balanced near =
    record { high = rw (p, o) (omega arith); balanced = rw (p, o) (balanced.1, balanced.0); near = near }

-- a replaced part's joins, and three more, are within what an edit of the whole may make
pub joins-of-part : {N X : Type 0} (items : N → List X) (height : N → ℕ) (side : Side) (left right part : N)
    (most whole before at after : ℕ) → part ≡ part_at side left right
    → whole ≡ max (height left) (height right) + 1
    → at ≤ before + min most (length (items part)) + 3 * height part → after ≤ at + 3
    → after ≤ before + min most (length (items left ++ items right)) + 3 * whole
joins-of-part items height Left left right part most whole before at after p high is more =
    let long = length-append (items left) (items right) in
    let of_left = rw p at is in
    omega arith
joins-of-part items height Right left right part most whole before at after p high is more =
    let long = length-append (items left) (items right) in
    let of_right = rw p at is in
    omega arith
