use Rattle.std.proofs.Common.{◌==◌, ◌∙◌, cond, ℕ, ap, arith}
use Rattle.std.proofs.lemmas.List.FromFn.{get_or-map-range_with_len}
use Rattle.cap_trace.specs.Fields.{is_flag_byte}
use Rattle.cap_trace.proofs.Bars.{is_one}
use Rattle.cap_trace.proofs.fields.flag_byte.Goals as goal

pub returns : goal.returns
returns c = ap (λ (n : ℕ). n == 1)
    (get_or-map-range_with_len (λ b. cond (is_flag_byte b) 1 0) 0 256 c.from.result c.args.byte 0
    (omega (arith, c.from.ensures, c.ranges.byte)) (omega (arith, c.from.ensures))) ∙ is_one (is_flag_byte c.args.byte)
