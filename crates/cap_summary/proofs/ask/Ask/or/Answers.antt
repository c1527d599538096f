use Rattle.cap_summary.{specs.refl, specs.declared.ask.Ask.Ask, proofs.Agreed.agree_either}
use Rattle.cap_summary.proofs.{TestPassing.passes_either}
use Rattle.cap_summary.proofs.ask.Ask.or.Goals as goal

pub returns-clause-holds : goal.returns-clause-holds
returns-clause-holds c = λ cells.
    let a = c.args.self.now in
    let both : Ask = record a { kinds = c.join-kinds.result; rights = c.join-rights.result } in
    rw (← c.requires.pid, ← c.requires.key) (passes_either a c.args.other.now both c.join-kinds.ensures
    c.join-rights.ensures.either refl c.requires.lacking (cells a.pid a.key))

pub returns-clause-agree : goal.returns-clause-agree
returns-clause-agree c = λ s r. agree_either s r c.args.self.now c.args.other.now _ refl refl c.requires
    (returns-clause-holds c)
