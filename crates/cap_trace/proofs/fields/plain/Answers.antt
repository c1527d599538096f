use Rattle.std.proofs.Common.{◌==◌, ◌∙◌, cond, ℕ, ap, arith}
use Rattle.std.proofs.lemmas.List.FromFn.{get_or-map-range_with_len}
use Rattle.cap_trace.specs.Fields.{is_plain}
use Rattle.cap_trace.proofs.Bars.{is_one}
use Rattle.cap_trace.proofs.fields.plain.Goals as goal

pub returns : goal.returns
returns c = ap (λ (n : ℕ). n == 1)
    (get_or-map-range_with_len (λ b. cond (is_plain b) 1 0) 0 256 c.from.result c.args.byte 0
    (omega (arith, c.from.ensures, c.ranges.byte)) (omega (arith, c.from.ensures))) ∙ is_one (is_plain c.args.byte)
