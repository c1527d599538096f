use Rattle.std.proofs.Common.{◌∙◌, ap, ℕ}
use Rattle.std.specs.List.{slice_get}
use Rattle.std.specs.Option.{option_map}
use Rattle.cap_trace.specs.Names.{all_forms}
use Rattle.cap_trace.specs.Code.Rows.{in_table}
use Rattle.cap_trace.specs.Code.Slots.{slots}
use Rattle.cap_trace.proofs.names.in_slot.Goals as goal

pub returns : goal.returns
unfolding slots
returns c = c.listed_at.ensures ∙ ap (λ (k : ℕ). option_map in_table (slice_get all_forms k)) c.from.ensures
