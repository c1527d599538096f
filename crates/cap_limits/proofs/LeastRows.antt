-- The limits of some descriptors of a process.
use Rattle.std.proofs.Common.{◌≡◌, ◌↔◌, ℕ, ◌<◌, nat_cmp, true, List, [], ◌∷◌, ◌++◌, map, inl, inr, refl, sym, subst}
use Rattle.std.specs.List.{All}
use Rattle.std.specs.List.Sorted.{IsStrictlySortedBy}
use Rattle.std.proofs.lemmas.List.{map-id}
use Rattle.std.proofs.lemmas.List.Elements.{All-nil, All-cons}
use Rattle.cap_rights.specs.Rights.{holds}
use Rattle.cap_machine.specs.declared.cell.OnExec.{OnExec}
use Rattle.cap_machine.specs.declared.cell.Cell.{Cell}
use Rattle.cap_machine.specs.declared.cell.Cell.TheVariants.{Unknown, Closed, Held}
use Rattle.cap_machine.specs.declared.step.Step.{Step}
use Rattle.cap_machine.specs.State.{State}
use Rattle.cap_limits.specs.Live.{Live}
use Rattle.cap_limits.specs.Limits.{Row, IsLimit}
use Rattle.cap_limits.specs.Limits.{least_of}
use Rattle.cap_limits.specs.Code.Rows.{cell_row, held_row, held_rows}
use Rattle.cap_limits.proofs.MakerLimits.{least_is}
use Rattle.cap_limits.proofs.RowOrder.{fd_of, HasOne, rows_sorted}

row_is : (s : State) (later : List Step) (p f : ℕ) (cell : Cell) (w : OnExec → ℕ) (rows : List Row) → s.cell p f ≡ cell
    → ((x : OnExec) (k : ℕ) → k < 63 → (holds (w x) k ≡ true) ↔ Live later p f x k)
    → All (IsLimit s later p) rows → All (IsLimit s later p) (cell_row cell f w ++ rows)
row_is s later p f Unknown w rows is live rest = rest
row_is s later p f Closed w rows is live rest = rest
row_is s later p f (Held rights flag) w rows is live rest =
    All-cons (IsLimit s later p) (f, least_of rights (w flag)) rows
    (rights, flag, is, least_is later p f rights (w flag) flag (live flag)) rest

pub rows_are : (s : State) (later : List Step) (p : ℕ) (w : ℕ → ℕ → OnExec → ℕ) (fds : List ℕ)
    → ((q f : ℕ) (x : OnExec) (k : ℕ) → k < 63 → (holds (w q f x) k ≡ true) ↔ Live later q f x k)
    → All (IsLimit s later p) (held_rows s w p fds)
rows_are s later p w [] live = All-nil (IsLimit s later p)
rows_are s later p w (f ∷ fds) live =
    row_is s later p f (s.cell p f) (w p f) (held_rows s w p fds) refl (live p f) (rows_are s later p w fds live)

has_one : (cell : Cell) (f : ℕ) (w : OnExec → ℕ) → HasOne f (cell_row cell f w)
has_one Unknown f w = inl refl
has_one Closed f w = inl refl
has_one (Held rights flag) f w = inr (least_of rights (w flag), refl)

pub rows_in_order : (s : State) (w : ℕ → ℕ → OnExec → ℕ) (p : ℕ) (fds : List ℕ) → IsStrictlySortedBy nat_cmp fds
    → IsStrictlySortedBy nat_cmp (map fd_of (held_rows s w p fds))
rows_in_order s w p fds sorted =
    rows_sorted (λ (f : ℕ). f) (held_row s w p) (λ f. has_one (s.cell p f) f (w p f)) fds
    (subst (IsStrictlySortedBy nat_cmp) (sym (map-id fds)) sorted)
