use Rattle.cap_summary.proofs.{OwnCells.list_only, rules, sym, ◌∙◌}
use Rattle.cap_summary.specs.{Names.has_cell, Names.only, Keys.reads_within, declared.value.Value.Value, ℕ}
use Rattle.std.proofs.{lemmas.Iterator.Search.all_from_yields_List, lemmas.Iterator.YieldsList-from_slice}
use Rattle.cap_summary.proofs.effect.Row.reads_only.Goals as goal

pub returns-then-others_read_only : goal.returns-then-others_read_only
returns-then-others_read_only c = λ is. record {
  cells = list_only c.args.pid c.args.self.now.cells (sym (all_from_yields_List
      (λ (entry : ℕ × Value). reads_within (has_cell (only c.args.pid)) entry.1) _ _ _ c.all.ensures.ran
      (YieldsList-from_slice c.args.self.now.cells (rw c.entries.ensures.all at c.iter.ensures.rest))
      (λ x b q k. search rules)) ∙ is);
  others = search rules;
  mode = search rules;
}
