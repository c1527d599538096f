use Rattle.cap_summary.proofs.{LineListed.started_row, ◌∙◌}
use Rattle.cap_summary.specs.{Names.has_cell, refl}
use Rattle.cap_summary.proofs.effect.Row.of_line.Goals as goal

pub returns-in_ok-started_cells-in-Start-clause-cells : goal.returns-in_ok-started_cells-in-Start-clause-cells
returns-in_ok-started_cells-in-Start-clause-cells c = started_row _ _ _ _ _ _ c.in-Start.is
    (λ s. c.of.ensures.cells s c.args.me) (λ s. c.of-in-Start.ensures.reads s ∙ c.cell_of_mode.ensures.cell)
    c.in_ok-started_cells-in-Start.ensures.cells

pub returns-in_ok-started_cells-in-Start-clause-names : goal.returns-in_ok-started_cells-in-Start-clause-names
returns-in_ok-started_cells-in-Start-clause-names c = λ names within. record {
  cells = c.in_ok-started_cells-in-Start.ensures.names names (rw c.in-Start.is at within.fds);
  others = rw c.of.ensures.others refl;
  mode = c.of-in-Start.ensures.names (has_cell names);
}
