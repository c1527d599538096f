use Rattle.std.proofs.Common.{rules, ◌∙◌}
use Rattle.std.proofs.lemmas.List.{length-set}
use Rattle.cap_machine.proofs.PartsOf.{with_deferred_more}
use Rattle.cap_machine.proofs.cells.node.defer_to_parts.Goals as goal

pub loop-k-preserved : goal.loop-k-preserved
loop-k-preserved c = record {
  long = length-set c.loop-k.deferred c.loop-k.k c.after.result ∙ c.loop-k.invariant.long;
  each = λ i cell lt. with_deferred_more c.loop-k.deferred c.args.deferred.now c.args.next c.after.result c.loop-k.k i
      c.loop-k.invariant.long (search rules) c.after.ensures c.loop-k.invariant.each cell lt;
}
