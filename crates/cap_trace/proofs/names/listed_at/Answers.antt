use Rattle.std.proofs.Common.{◌∙◌}
use Rattle.std.proofs.lemmas.Option.{slice_get-map}
use Rattle.cap_trace.specs.Names.{all_forms}
use Rattle.cap_trace.specs.Code.Rows.{in_table}
use Rattle.cap_trace.proofs.names.listed_at.Goals as goal

pub returns : goal.returns
unfolding all_forms
returns c = c.row_at.ensures ∙ slice_get-map in_table all_forms c.args.place
