-- Walks back through the parts of a node.
use Rattle.std.specs.Prelude.{List, length, refl, reverse, take, ℕ, ◌++◌, ◌+◌, ◌-◌, ◌<◌, ◌≡◌}
use Rattle.cap_summary.proofs.{append_assoc, arith, length-append, length-reverse, reverse-append, sym, take_all, ◌∙◌}
use Rattle.cap_summary.proofs.{ap}
use Rattle.std.proofs.{Math.Seq.take-append-add, lemmas.List.Elements.All-take}
use Rattle.cap_machine.specs.Code.Walks.{cell_fd, cell_pid, mode_pid}
use Rattle.cap_machine.proofs.Walking.{cells_may_be_left_out, modes_may_be_left_out}
use Rattle.cap_summary.specs.{CellWalk, LeavesCell, LeavesMode, ModeWalk, State, Step, kept, stays, touch, turn}
use Rattle.cap_summary.specs.Positions.{Origin, Passes, cell_seen, mode_seen}

module _ {W : Type 0} (see : W → State → List Step → Origin) where
  -- the right part, and then the left one
  sees_both : (old mid new : W) (at n : ℕ) (t u : List Step) → n ≡ at + length t → Passes see old mid n u
      → Passes see mid new at t → Passes see old new at (t ++ u)
  sees_both old mid new at n t u is right left s h long =
      left s h long ∙ right s (reverse t ++ h) (omega (arith, length-append (reverse t) h, length-reverse t, is, long))
      ∙ ap (see old s) (sym (append_assoc (reverse u) (reverse t) h) ∙ ap (λ r. r ++ h) (sym (reverse-append t u)))

  -- the first steps of two parts, more than the left one has
  pub walked_parts : (old mid new : W) (at left count : ℕ) (a b : List Step) → left ≡ length a → left < count
      → Passes see old mid (at + left) (take (count - left) b) → Passes see mid new at (take left a)
      → Passes see old new at (take count (a ++ b))
  walked_parts old mid new at left count a b long more right first =
      rw (← taken) (sees_both old mid new at (at + left) (take left a) (take (count - left) b)
      (ap (λ (n : ℕ). at + n) long ∙ ap (λ (r : List Step). at + length r) (sym whole)) right first)
    where
      whole : take left a ≡ a
      whole = take_all left a (omega (arith, long))

      taken : take left a ++ take (count - left) b ≡ take count (a ++ b)
      taken = ap (λ (r : List Step). r ++ take (count - left) b) whole ∙ sym (take-append-add a b (count - left))
          ∙ ap (λ (n : ℕ). take n (a ++ b)) (omega (arith, long, more))

  -- with these steps before it a walk sees what one before all of the run saw
  abbrev pub Sees : W → W → ℕ → List Step → List Step → Type 0
  Sees old new at rest run = (s : State) (history : List Step) → length history ≡ at
      → see new s (reverse rest ++ history) ≡ see old s (reverse run ++ history)

-- ---- steps that leave a cell, or a mode
pub cell_left_out : (walk : CellWalk) (at count : ℕ) (t : List Step) → LeavesCell t (cell_pid walk) (cell_fd walk)
    → Passes cell_seen walk walk at (take count t)
cell_left_out walk at count t leaves s h long =
    let same = cells_may_be_left_out walk s h (take count t)
    (All-take (λ (step : Step). touch step (cell_pid walk) (cell_fd walk) ≡ kept) count t leaves) in
    sym (rw (same.0, same.1) refl)

pub mode_left_out : (walk : ModeWalk) (at count : ℕ) (t : List Step) → LeavesMode t (mode_pid walk)
    → Passes mode_seen walk walk at (take count t)
mode_left_out walk at count t leaves s h long =
    let same = modes_may_be_left_out walk s h (take count t)
    (All-take (λ (step : Step). turn step (mode_pid walk) ≡ stays) count t leaves) in
    sym (rw (same.0, same.1) refl)
