use Rattle.cap_summary.specs.{all as all_rights, Unsure, Names.IsListedWithin, declared.value.Value.Value}
use Rattle.cap_summary.proofs.{take_all, LineListed.started_more, LineListed.each_put}
use Rattle.std.specs.Prelude.{ℕ, get_or, refl}
use Rattle.cap_summary.proofs.line.started_cells.Goals as goal

pub loop-fd-preserved : goal.loop-fd-preserved
loop-fd-preserved c = record {
  cells = started_more c.deref-fd-items.result.now c.loop-fd.fd-index c.loop-fd.listed c.set.new.self
      c.loop-fd-test.true (λ k. rw c.all.ensures.everything at (c.in_ok-set.ensures.ok k)) c.loop-fd.invariant.cells;
  names = λ names all.
      let fd : ℕ = get_or c.deref-fd-items.result.now c.loop-fd.fd-index 0 in
      each_put (IsListedWithin names) fd (Value.Held all_rights Unsure)
      (record { key = all c.loop-fd.fd-index 0 c.loop-fd-test.true; source = refl }) c.loop-fd.listed
      c.set.new.self (λ k. rw c.all.ensures.everything at (c.in_ok-set.ensures.ok k))
      (c.loop-fd.invariant.names names all);
}

pub returns-clause-cells : goal.returns-clause-cells
returns-clause-cells c =
    rw (c.deref-fd-items.ensures.value, c.in-Ok.ensures) at (rw (take_all c.loop-fd.fd-index
    c.deref-fd-items.result.now c.loop-fd-test.false) at c.loop-fd.invariant.cells)

pub returns-clause-names : goal.returns-clause-names
returns-clause-names c = λ names all.
    c.loop-fd.invariant.names names (rw (c.deref-fd-items.ensures.value, c.in-Ok.ensures) all)
