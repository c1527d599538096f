use Rattle.std.proofs.Common.{ℕ, ap, ◌∙◌, arith, ◌^◌}
use Rattle.std.proofs.lemmas.Nat.{shr_below, mod_below}
use Rattle.cap_trace.specs.Code.Slots.{slot_by, first_word}
use Rattle.cap_trace.proofs.names.slot_of.Goals as goal

pub returns-clause-some : goal.returns-clause-some
returns-clause-some c = (
  ap (λ (a : ℕ). slot_by a c.ends-first.result.1) c.ends-first.ensures.first
      ∙ ap (slot_by (first_word c.args.name.now)) c.ends-first.ensures.last,
  shr_below _ 9 55 (mod_below _ (2 ^ 64) (omega arith)),
)
