use Rattle.cap_summary.{specs.refl, specs.declared.ask.Ask.Ask, proofs.TestPassing.passes_before}
use Rattle.cap_summary.proofs.ask.Ask.before_op.Goals as goal

pub returns : goal.returns
returns c =
    let a = c.args.self.now in
    let before : Ask = record a { kinds = c.kinds_before-kinds.result; lacking = c.kinds_before-lacking.result } in
    record {
      passes = passes_before a before c.args.op.now refl c.kinds_before-kinds.ensures
          (rw c.none.ensures.nothing at c.kinds_before-lacking.ensures);
    }
