use Rattle.std.proofs.Common.{◌≡◌, drop}
use Rattle.cap_trace.specs.declared.fields.Place.TheVariants.{Between}
use Rattle.cap_trace.specs.Fields.{item_step, is_between}
use Rattle.cap_trace.specs.Steps.{takes_all}
use Rattle.cap_trace.proofs.fields.items.Given as goal

abbrev pub invariant-loop-byte : goal.invariant-loop-byte
invariant-loop-byte l =
    takes_all item_step is_between l.place (drop l.byte-index l.text) ≡ takes_all item_step is_between Between l.text
