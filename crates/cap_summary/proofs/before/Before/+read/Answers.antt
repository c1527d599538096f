use Rattle.cap_summary.proofs.{ap, before.Before.+read.Goals.Joined-view, ◌∙◌}
use Rattle.cap_summary.specs.{Keys.cell_mode, Keys.cells_of, Keys.mode_cell, Keys.seen_cell, refl, ℕ, ◌≡◌}
use Rattle.cap_summary.specs.Effects.{changed, state_before}
use Rattle.cap_summary.proofs.before.Before.+read.Goals as goal

-- what is read is the cell after the effect
seen : (t : ℕ) (c : Joined-view t) → c.match-view.cell
    ≡ changed c.in-After.effect.now (cells_of (state_before c.in-After.before.now)) c.args.pid c.args.key
seen t c =
    let read : c.match-view.cell ≡ seen_cell (cells_of (state_before c.in-After.before.now)) c.view.result =
    elim c.match-view.branch [
      | goal.in-Is w ↦ rw (w.cell-is, w.in-Is.is) refl
      | goal.in-Same w ↦ rw (w.cell-is, w.read-cell.ensures, w.in-Same.is) refl
      | goal.in-Executed w ↦ rw (w.cell-is, w.on-cell.ensures, w.exec.ensures, w.read.ensures, w.in-Executed.is) refl
      | goal.in-Made w ↦
          rw (w.cell-is, w.on-cell-in-Made.ensures, w.get.ensures, w.read-in-Made.ensures, w.in-Made.is) refl
    ] in
    read ∙ c.view.ensures.cells (cells_of (state_before c.in-After.before.now))

pub returns-in-Mode-key-2 : goal.returns-in-Mode-key-2
returns-in-Mode-key-2 t c = rw (c.in-After.is, c.in-Mode-key-2.is) (c.cell_of_mode-in-Mode-key-2.ensures.cell
    ∙ ap mode_cell (c.mode_of_cell.ensures
    ∙ ap cell_mode (rw c.in-Mode-key-2.is at (seen t (goal.at.returns-in-Mode-key-2 t c).Joined-view))))

pub returns-in-Fd-key-2 : goal.returns-in-Fd-key-2
returns-in-Fd-key-2 t c = rw (c.in-After.is, c.in-Fd-key-2.is)
    (rw c.in-Fd-key-2.is at (seen t (goal.at.returns-in-Fd-key-2 t c).Joined-view))
