-- To forget a process of which nothing is known changes nothing.
use Rattle.std.proofs.Common.{◌≡◌, ℕ, ◌==◌, Bool, true, false, if◌then◌else◌, None, [], refl, ap, ◌∙◌}
use Rattle.std.proofs.lemmas.Bool.{eqb-true}
use Rattle.std.specs.Option.{option_map_or}
use Rattle.cap_machine.specs.declared.cell.Cell.TheVariants.{Unknown}
use Rattle.cap_machine.specs.declared.cell.Mode.TheVariants.{Unsure}
use Rattle.cap_machine.specs.declared.table.Process.{Process}
use Rattle.cap_machine.specs.declared.table.Table.{Table}
use Rattle.cap_machine.specs.Code.Table.{Keeps, cell_in, cell_of, found, mode_of, state_of}
use Rattle.cap_machine.specs.State.{with_listed}

module _ (table : Table) (me : ℕ) (none : found table me ≡ None) where
  cells : (b : Bool) (p f : ℕ) → (p == me) ≡ b → cell_of table p f ≡ (if b then Unknown else cell_of table p f)
  cells true p f is =
      ap (λ q. cell_of table q f) (eqb-true p me is)
      ∙ ap (λ o. option_map_or (λ process. cell_in process f) o Unknown) none
  cells false p f is = refl

  modes : (b : Bool) (p : ℕ) → (p == me) ≡ b → mode_of table p ≡ (if b then Unsure else mode_of table p)
  modes true p is =
      ap (mode_of table) (eqb-true p me is)
      ∙ ap (λ o. option_map_or (λ (process : Process). process.mode) o Unsure) none
  modes false p is = refl

  pub keeps : Keeps table (with_listed (state_of table) me Unsure Unknown [])
  keeps = record { cells = λ p f. cells (p == me) p f refl; modes = λ p. modes (p == me) p refl }
