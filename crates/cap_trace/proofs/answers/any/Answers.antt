use Rattle.std.proofs.Common.{Result, subst, arith}
use Rattle.cap_trace.specs.declared.fault.FirstFault.{FirstFault}
use Rattle.cap_trace.specs.declared.line.Answer.{Answer}
use Rattle.cap_trace.specs.Quotes.{cut_at_byte}
use Rattle.cap_trace.specs.Reading.{Gives}
use Rattle.cap_trace.proofs.Answered.{any_number, any_pair}
use Rattle.cap_trace.proofs.answers.any.Goals as goal

pub returns-in-Some : goal.returns-in-Some
returns-in-Some c = any_number c.in-Some.ensures.found (omega (arith, c.in-Some.ensures.bound))

pub returns-in-None : goal.returns-in-None
returns-in-None c = subst (λ (r : Result Answer FirstFault). Gives (λ a. a) c.pair.result r)
    (any_pair c.args.text.now (cut_at_byte 44 c.args.text.now) c.in-None.ensures.value) c.pair.ensures
