use Rattle.std.proofs.Common.{◌∙◌}
use Rattle.cap_trace.specs.Fields.{item_step, is_between}
use Rattle.cap_trace.proofs.Steps.{takes_stop, takes_more, takes_end}
use Rattle.cap_trace.proofs.fields.items.Goals as goal

pub returns-in-None : goal.returns-in-None
returns-in-None c = takes_stop item_step is_between c.loop-byte.place c.args.text.now c.loop-byte.byte-index _
    c.loop-byte-test.true c.in-None.ensures c.loop-byte.invariant

pub loop-byte-preserved : goal.loop-byte-preserved
loop-byte-preserved c = takes_more item_step is_between c.loop-byte.place c.in-Some.next c.args.text.now
    c.loop-byte.byte-index _ c.loop-byte-test.true c.in-Some.ensures c.loop-byte.invariant

pub returns : goal.returns
returns c = c.is_between.ensures ∙ takes_end item_step is_between c.loop-byte.place c.args.text.now
    c.loop-byte.byte-index _ c.loop-byte-test.false c.loop-byte.invariant
