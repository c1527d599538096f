use Rattle.cap_summary.proofs.{arith, common_steps}
use Rattle.cap_summary.proofs.sorted.merging.first_key.Goals as goal

pub returns-in-Some-None-clause-left : goal.returns-in-Some-None-clause-left
returns-in-Some-None-clause-left g c = grind (arith, common_steps)

pub returns-in-Some-None-clause-right : goal.returns-in-Some-None-clause-right
returns-in-Some-None-clause-right g c = grind (arith, common_steps)

pub returns-in-None-Some-clause-left : goal.returns-in-None-Some-clause-left
returns-in-None-Some-clause-left g c = grind (arith, common_steps)

pub returns-in-None-Some-clause-right : goal.returns-in-None-Some-clause-right
returns-in-None-Some-clause-right g c = grind (arith, common_steps)
