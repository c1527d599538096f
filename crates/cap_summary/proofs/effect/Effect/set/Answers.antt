use Rattle.cap_summary.proofs.{LineListed.set_cells, LineListed.set_names, arith, common_steps, on_ok_weaker}
use Rattle.cap_summary.proofs.effect.Effect.set.Goals as goal

pub returns-clause-cells : goal.returns-clause-cells
returns-clause-cells c = let row = c.in_ok-row.ensures in let new = c.in_ok-new.ensures in on_ok_weaker c.set.result
    (set_cells c.args.self.now _ _ c.args.value _ _ _ _ row.row row.others new.base new.mode new.cells) c.set.ensures.ok

pub returns-clause-names : goal.returns-clause-names
returns-clause-names c = let row = c.in_ok-row.ensures in let new = c.in_ok-new.ensures in on_ok_weaker c.set.result
    (set_names c.args.self.now _ _ c.args.value _ _ _ _ row.row row.others new.base new.mode new.cells) c.set.ensures.ok

pub returns-clause-leaves : goal.returns-clause-leaves
returns-clause-leaves c = grind (arith, common_steps)
