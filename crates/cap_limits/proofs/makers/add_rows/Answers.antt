use Rattle.std.proofs.Common.{rules, ◌≡◌, ℕ, List, [], ◌∷◌, ◌++◌, Result, ap, sym, ◌∙◌, append_assoc}
use Rattle.std.specs.Result.{OnOk}
use Rattle.std.proofs.lemmas.Result.{on_ok_weaker}
use Rattle.cap_machine.specs.declared.cell.OnExec.{OnExec}
use Rattle.cap_machine.specs.declared.cell.Cell.{Cell}
use Rattle.cap_limits.specs.declared.makers.Made.{Made}
use Rattle.cap_limits.specs.declared.makers.Made.TheVariants.{Two}
use Rattle.cap_limits.specs.declared.makers.MakerRow.{MakerRow}
use Rattle.cap_machine.specs.State.{State}
use Rattle.cap_limits.specs.Code.Made.{listed_made, cells_made, maker_row, maker_rows}
use Rattle.cap_limits.specs.Code.Wanted.{wanted}
use Rattle.cap_limits.proofs.MakerLimits.{both_rows}
use Rattle.cap_limits.proofs.makers.add_rows.Goals as goal

-- the last two cells are taken, one after the other
both_added : {T E : Type 0} (s : State) (at p f g : ℕ) (w : ℕ → OnExec → ℕ) (made : Made) (before old mid new : List Cell)
    (rows more all : List MakerRow) (r : Result T E) → made ≡ Two f g
    → old ≡ before ++ cells_made s p (listed_made made)
    → ((front : List Cell) (last : Cell) → old ≡ front ++ last ∷ []
    → (mid ≡ front) × (more ≡ rows ++ maker_row at p f last (w f)))
    → ((front : List Cell) (last : Cell) → mid ≡ front ++ last ∷ []
    → OnOk r ((new ≡ front) × (all ≡ more ++ maker_row at p g last (w g))))
    → OnOk r ((new ≡ before) × (all ≡ rows ++ maker_rows s at p (listed_made made) w))
both_added s at p f g w made before old mid new rows more all r is are first second =
    let one = first (before ++ s.cell p g ∷ []) (s.cell p f)
    (are ∙ ap (λ (m : Made). before ++ cells_made s p (listed_made m)) is
    ∙ sym (append_assoc before (s.cell p g ∷ []) (s.cell p f ∷ []))) in
    on_ok_weaker r
    (λ back. (
      back.0,
      back.1 ∙ ap (λ (r : List MakerRow). r ++ maker_row at p g (s.cell p g) (w g)) one.1
          ∙ both_rows s at p f g w rows
          ∙ ap (λ (m : Made). rows ++ maker_rows s at p (listed_made m) w) (sym is),
    ))
    (second before (s.cell p g) one.0)

pub returns-in_ok-add_last-in-Two : goal.returns-in_ok-add_last-in-Two
returns-in_ok-add_last-in-Two c = λ s before are.
    both_added s c.args.at c.args.pid c.in-Two.first c.in-Two.second (wanted c.args.live.now c.args.pid) _ before _ _ _ _
    _ _ _ c.in-Two.is are c.in_ok-add_last-in-Two.ensures (search rules)
