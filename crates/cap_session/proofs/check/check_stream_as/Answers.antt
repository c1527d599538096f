use Rattle.cap_machine.specs.State.{usual}
use Rattle.cap_machine.specs.declared.question.Question.TheVariants.{Findings}
use Rattle.cap_session.proofs.check.check_stream_as.Goals as goal

pub returns : goal.returns
returns g c = c.check_with.ensures Findings c.args.profile usual c.new.ensures
