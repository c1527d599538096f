-- The rows of the descriptors that stand.
use Rattle.std.proofs.Common.{◌≡◌, ℕ, ◌==◌, ◌||◌, nat_cmp, Bool, List, [], ◌∷◌, ◌++◌, refl, sym, ap, ◌∙◌, subst, arith}
use Rattle.std.specs.List.{list_any}
use Rattle.std.specs.BTreeMap.{is_at}
use Rattle.std.proofs.lemmas.Bool.{cases_Bool, eqb-true}
use Rattle.std.proofs.lemmas.Bool.Decides.{nat_tests}
use Rattle.std.proofs.lemmas.Grind.{common_steps}
use Rattle.std.proofs.Math.Logic.{⊎_elim}
use Rattle.cap_machine.specs.declared.cell.OnExec.{OnExec}
use Rattle.cap_machine.specs.declared.cell.Cell.{Cell}
use Rattle.cap_machine.specs.declared.cell.Cell.TheVariants.{Unknown, Closed, Held}
use Rattle.cap_machine.specs.State.{State}
use Rattle.cap_limits.specs.Limits.{Row}
use Rattle.cap_limits.specs.Code.Rows.{cell_row, held_rows}
use Rattle.cap_limits.specs.LimitsBefore.{rows_name}
use Rattle.cap_limits.specs.Standing.{IsHeld}

pub at_is : (f g : ℕ) → is_at (nat_cmp f) g ≡ (f == g)
at_is f g = grind (arith, nat_tests, common_steps)

-- a row that isn't there names none that is held
no_row : (s : State) (p f g : ℕ) (cell : Cell) (named : Bool) → (IsHeld cell → ⊥) → s.cell p g ≡ cell
    → IsHeld (s.cell p f) → named ≡ (f == g || named)
no_row s p f g cell named never is held =
    ⊎_elim
    (λ e. absurd (never (subst (λ (c : Cell). IsHeld c) (ap (s.cell p) (eqb-true f g e) ∙ is) held)))
    (λ ne. ap (λ (b : Bool). b || named) (sym ne))
    (cases_Bool (f == g))

row_named : (s : State) (p f g : ℕ) (cell : Cell) (w : OnExec → ℕ) (rows : List Row) → s.cell p g ≡ cell
    → IsHeld (s.cell p f) → rows_name (cell_row cell g w ++ rows) f ≡ (f == g || rows_name rows f)
row_named s p f g Unknown w rows is held = no_row s p f g Unknown (rows_name rows f) (λ h. h) is held
row_named s p f g Closed w rows is held = no_row s p f g Closed (rows_name rows f) (λ h. h) is held
row_named s p f g (Held rights flag) w rows is held = refl

-- of those that are held, just the given ones have a row
pub rows_named : (s : State) (w : ℕ → ℕ → OnExec → ℕ) (p : ℕ) (fds : List ℕ) (f : ℕ) → IsHeld (s.cell p f)
    → rows_name (held_rows s w p fds) f ≡ list_any (is_at (nat_cmp f)) fds
rows_named s w p [] f held = refl
rows_named s w p (g ∷ fds) f held =
    row_named s p f g (s.cell p g) (w p g) (held_rows s w p fds) refl held
    ∙ ap (λ (b : Bool). f == g || b) (rows_named s w p fds f held)
    ∙ ap (λ (b : Bool). b || list_any (is_at (nat_cmp f)) fds) (sym (at_is f g))
