-- Two states that differ in certain cells at most: an earlier one, and the present one.
use Rattle.std.specs.Prelude.{All, Bool, List, false, true, ℕ, ◌&&◌, ◌==◌, ◌≡◌}
use Rattle.cap_summary.specs.{Asks.key_number, Sorted.found, is_some, Effects.row_cell, Keys.Cells, list_any}
use Rattle.cap_summary.specs.{Cell}
use Rattle.cap_summary.specs.declared.{difference.Alone.Alone, difference.Difference.Difference, effect.Row.Row}
use Rattle.cap_summary.specs.declared.{key.Key.Key, value.Value.Value}

-- a key of a process is another
abbrev pub is_key : ℕ → Key → ℕ → Key → Bool
is_key p k q j = (p == q) && (key_number k == key_number j)

-- some of these differences are at a key of a process
abbrev pub are_at : List Difference → ℕ → Key → Bool
are_at differences p k = list_any (λ (d : Difference). is_key d.pid d.key p k) differences

-- what each state has there
pub record IsDifference (old new : Cells) (d : Difference) : Type 0 where
  pub was : old d.pid d.key ≡ d.was
  pub now : new d.pid d.key ≡ d.now

-- both states have the cells that are listed as they are listed, and all others alike
pub record DifferAt (differences : List Difference) (old new : Cells) : Type 0 where
  pub each : All (IsDifference old new) differences
  pub others : (p : ℕ) (k : Key) → are_at differences p k ≡ false → old p k ≡ new p k

-- more is listed of what two states have differently: of some keys, all
pub record AreListed (old new : Cells) (of : ℕ → Key → Type 0) (before after : List Difference) : Type 0 where
  pub each : All (IsDifference old new) before → All (IsDifference old new) after
  pub grows : (p : ℕ) (k : Key) → are_at after p k ≡ false → are_at before p k ≡ false
  pub all : (p : ℕ) (k : Key) → of p k → are_at after p k ≡ false → old p k ≡ new p k

-- the cells of a process are those that a row makes of others
abbrev pub IsRowOf : ℕ → Row → Cells → Cells → Type 0
IsRowOf pid row cells after = (k : Key) → after pid k ≡ row_cell cells pid row k

-- a descriptor that is listed among values, and a key at which some process has a difference
abbrev pub IsListedKey : List (ℕ × Value) → Key → Type 0
IsListedKey cells Key.Mode = ⊥
IsListedKey cells (Key.Fd f) = is_some (found cells f) ≡ true

abbrev pub IsKeyOf : List Difference → Key → Type 0
IsKeyOf differences k = list_any (λ (d : Difference). key_number d.key == key_number k) differences ≡ true

-- of two states, the one that takes a step
abbrev pub of_taker : Alone → Cells → Cells → Cells
of_taker Alone.Earlier old new = old
of_taker Alone.Present old new = new

-- each of them, where the one that takes the step has these cells after it
abbrev pub earlier_if : Alone → Cells → Cells → Cells
earlier_if Alone.Earlier after old = after
earlier_if Alone.Present after old = old

abbrev pub present_if : Alone → Cells → Cells → Cells
present_if Alone.Earlier after new = new
present_if Alone.Present after new = after

-- all cells are as they were but the one at a key, which is this one
abbrev pub IsKeptBut : ℕ → Key → Cells → Cells → Type 0
IsKeptBut pid key before after = (p : ℕ) (k : Key) → is_key pid key p k ≡ false → after p k ≡ before p k

pub record IsSetAt (pid : ℕ) (key : Key) (cell : Cell) (before after : Cells) : Type 0 where
  pub here : after pid key ≡ cell
  pub others : IsKeptBut pid key before after
