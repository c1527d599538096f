use Rattle.std.proofs.Common.{◌≡◌, ℕ, Bool, true, false, cond, List, Option, Some, None, refl, ap, sym, ◌∙◌}
use Rattle.std.specs.Bool.{then_some}
use Rattle.std.specs.Option.{option_map}
use Rattle.std.specs.Str.{bytes_eq}
use Rattle.cap_trace.specs.declared.calls.Form.{Form}
use Rattle.cap_trace.specs.declared.names.Row as code
use Rattle.cap_trace.specs.Names.{Row, row_of}
use Rattle.cap_trace.specs.Code.Rows.{table_row, in_table}
use Rattle.cap_trace.proofs.Heads.{some_is}
use Rattle.cap_trace.proofs.InSlots.{named_is, this_named, odd_size_none}
use Rattle.cap_trace.proofs.names.form_of.Goals as goal

then_is : (b : Bool) (f : Form) → then_some b f ≡ cond b (Some f) None
then_is true f = refl
then_is false f = refl

no_row : (o : Option Form) → None ≡ option_map in_table o → None ≡ o
no_row None e = refl
no_row (Some f) e = absurd cc

form_is : (r : code.Row) (o : Option Form) → Some (table_row r) ≡ option_map in_table o → Some r.1 ≡ o
form_is r None e = absurd cc
form_is r (Some f) e = ap (λ (p : Form × Row). Some p.0) (some_is (table_row r) (in_table f) e)

name_is : (r : code.Row) (o : Option Form) → Some (table_row r) ≡ option_map in_table o → (row_of r.1).name ≡ r.0.now
name_is r None e = absurd cc
name_is r (Some f) e =
    let same = some_is (table_row r) (in_table f) e in
    ap (λ (p : Form × Row). (row_of p.0).name) same ∙ sym (ap (λ (p : Form × Row). p.1.name) same)

pub returns-in_err-slot : goal.returns-in_err-slot
returns-in_err-slot c =
    c.from_residual.ensures ∙ odd_size_none c.args.name.now (c.in_err-slot.ensures.none.0 refl)

pub returns-in_err-row : goal.returns-in_err-row
returns-in_err-row c =
    c.from_residual-in_err-row.ensures
    ∙ named_is c.args.name.now c.in_ok-slot.slot None c.in_ok-slot.ensures.some.0 (no_row _ c.in_err-row.ensures)

pub returns : goal.returns
returns c =
    let r = c.in_ok-row.row.now in
    c.then_some.ensures ∙ then_is c.same_by_ends.result r.1
    ∙ this_named c.args.name.now c.in_ok-slot.slot r.1 c.same_by_ends.result c.in_ok-slot.ensures.some.0
    (form_is r _ c.in_ok-row.ensures)
    (ap (λ (n : List ℕ). bytes_eq n c.args.name.now) (name_is r _ c.in_ok-row.ensures)
    ∙ sym c.same_by_ends.ensures)
