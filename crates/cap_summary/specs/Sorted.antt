-- A table as the list of its entries, each a key and a value.
use Rattle.std.specs.Prelude.{List, None, Option, Some, [], if◌then◌else◌, length, ℕ, ◌+◌, ◌<◌, ◌==◌, ◌∷◌, ◌≡◌, ◌≤◌}
use Rattle.std.specs.Prelude.{slice_index_or}

-- the value of the first entry that has the key
abbrev pub found : {V : Type 0} → List (ℕ × V) → ℕ → Option V
found [] key = None
found ((k, v) ∷ rest) key = if k == key then Some v else found rest key

-- the keys strictly rise, and none is below the bound
abbrev pub RisesFrom : {V : Type 0} → ℕ → List (ℕ × V) → Type 0
RisesFrom bound [] = Unit {0}
RisesFrom bound ((k, v) ∷ rest) = (bound ≤ k) × RisesFrom (k + 1) rest

-- the keys strictly rise, so no key comes twice
abbrev pub Rises : {V : Type 0} → List (ℕ × V) → Type 0
Rises entries = RisesFrom 0 entries

-- the same, by the places of the keys: a ghost field takes nothing that goes by recursion
abbrev pub KeysRise : {V : Type 0} → List (ℕ × V) → Type 0
KeysRise {V} entries = (i j : ℕ) (d : ℕ × V) → i < j → j < length entries
    → (slice_index_or entries i d).0 < (slice_index_or entries j d).0

-- the entry at this place has the key
pub record IsAt {V : Type 0} (entries : List (ℕ × V)) (key at : ℕ) : Type 0 where
  pub in_range : at < length entries
  pub has_key : (d : ℕ × V) → (slice_index_or entries at d).0 ≡ key

-- the key would go to this place: smaller keys before it, and greater ones from it on
pub record IsGap {V : Type 0} (entries : List (ℕ × V)) (key at : ℕ) : Type 0 where
  pub in_range : at ≤ length entries
  pub smaller : (i : ℕ) (d : ℕ × V) → i < at → (slice_index_or entries i d).0 < key
  pub greater : (i : ℕ) (d : ℕ × V) → at ≤ i → i < length entries → key < (slice_index_or entries i d).0
