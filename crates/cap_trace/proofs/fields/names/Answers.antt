use Rattle.std.proofs.Common.{not, ◌∙◌}
use Rattle.cap_trace.specs.Code.FlagSteps.{flag_step}
use Rattle.cap_trace.proofs.Bars.{are_words}
use Rattle.cap_trace.proofs.Steps.{takes_stop, takes_more, takes_end}
use Rattle.cap_trace.proofs.fields.names.Goals as goal

pub returns-in-None : goal.returns-in-None
returns-in-None c = takes_stop flag_step not c.loop-byte.begins c.args.text.now c.loop-byte.byte-index _
    c.loop-byte-test.true c.in-None.ensures c.loop-byte.invariant ∙ are_words c.args.text.now

pub loop-byte-preserved : goal.loop-byte-preserved
loop-byte-preserved c = takes_more flag_step not c.loop-byte.begins c.in-Some.next c.args.text.now
    c.loop-byte.byte-index _ c.loop-byte-test.true c.in-Some.ensures c.loop-byte.invariant

pub returns : goal.returns
returns c = takes_end flag_step not c.loop-byte.begins c.args.text.now c.loop-byte.byte-index _ c.loop-byte-test.false
    c.loop-byte.invariant ∙ are_words c.args.text.now
