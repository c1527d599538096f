use Rattle.std.proofs.Common.{◌≡◌, true, ap, ◌∙◌, arith}
use Rattle.cap_trace.specs.Fields.{are_items}
use Rattle.cap_trace.specs.Code.Escaping.{lacks_zero}
use Rattle.cap_trace.proofs.PathBytes.{escaped_items}
use Rattle.cap_trace.proofs.escapes.Path.escape.Goals as goal

pub invariant_of-result : goal.invariant_of-result
invariant_of-result c =
    let zero : lacks_zero c.args.bytes.now ≡ true = cc in
    ap are_items (c.in-Ok.ensures)
    ∙ escaped_items c.args.bytes.now (record { each = λ k. omega (arith, c.type_inv.bytes k) }) zero
