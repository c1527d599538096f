use Rattle.std.proofs.Common.{rules, ◌∙◌}
use Rattle.std.proofs.lemmas.List.{length-set}
use Rattle.cap_machine.specs.declared.cells.deferred.Deferred.TheVariants.{Close}
use Rattle.cap_machine.proofs.PartsOf.{closed_more}
use Rattle.cap_machine.proofs.cells.node.close_all.Goals as goal

pub loop-k-preserved : goal.loop-k-preserved
loop-k-preserved c = record {
  long = length-set c.loop-k.deferred c.loop-k.k Close ∙ c.loop-k.invariant.long;
  each = λ i cell lt. closed_more c.loop-k.deferred c.args.deferred.now c.args.from c.loop-k.k i cell
      c.loop-k.invariant.long (search rules) (search rules) (c.loop-k.invariant.each i cell lt);
}
