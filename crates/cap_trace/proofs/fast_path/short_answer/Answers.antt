use Rattle.std.proofs.Common.{ℕ, ◌++◌, ap, refl, ◌∙◌, arith, rules}
use Rattle.std.specs.Prelude.{codes}
use Rattle.std.specs.Fmt.{decimal}
use Rattle.cap_trace.specs.declared.calls.ResultKind.TheVariants.{Count, Zero, Fd}
use Rattle.cap_trace.proofs.Answered.{made_again}
use Rattle.cap_trace.proofs.fast_path.short_answer.Goals as goal

pub returns-in-Count-Some : goal.returns-in-Count-Some
returns-in-Count-Some c = rw c.from.ensures (made_again c.args.kind Count c.args.tail.now c.in-Count-Some.number
    (search rules) c.in-Count-Some.ensures (omega arith))

pub returns-in-Zero-Some : goal.returns-in-Zero-Some
returns-in-Zero-Some c =
    made_again c.args.kind Zero c.args.tail.now 0 (search rules)
    (c.in-Zero-Some.ensures ∙ ap (λ (x : ℕ). codes " RET " ++ decimal x) c.if-number-eq0.true) refl

pub returns-in-Fd-Some : goal.returns-in-Fd-Some
returns-in-Fd-Some c = rw c.from-in-Fd-Some.ensures (made_again c.args.kind Fd c.args.tail.now c.in-Fd-Some.number
    (search rules) c.in-Fd-Some.ensures c.if-number-le-LARGEST_FD.true)
