use Rattle.std.proofs.Common.{◌≡◌, ◌∙◌, ℕ, List, Option, Some, None, Bor, ap, sym}
use Rattle.std.proofs.lemmas.Option.{slice_get_past, slice_get-get_or, slice_get-map}
use Rattle.std.specs.List.{slice_get}
use Rattle.std.specs.Option.{option_map}
use Rattle.std.specs.Slice.{IsItemAt}
use Rattle.cap_trace.specs.declared.names.Row.{Row}
use Rattle.cap_trace.specs.Code.Rows.{table_row}
use Rattle.cap_trace.proofs.names.row_at.Goals as goal

get_is : (xs : List Row) (i : ℕ) (r : Option (Bor Row)) → IsItemAt xs i r
    → option_map (λ b. table_row b.now) r ≡ option_map table_row (slice_get xs i)
get_is xs i None h = ap (option_map table_row) (sym (slice_get_past xs i h.3))
get_is xs i (Some x) h = ap (option_map table_row) (sym (slice_get-get_or xs i x.now h.3.0 ∙ ap Some (sym h.1)))

pub returns : goal.returns
returns c = get_is c.args.rows.now c.args.place c.get.result c.get.ensures.lookup
    ∙ sym (slice_get-map table_row c.args.rows.now c.args.place)
