use Rattle.capcheck.proofs.NeverFailing.{task_is_no_fault}
use Rattle.capcheck.proofs.run.no_fault_of_readers_that_never_fail.Goals as goal

pub returns : goal.returns
returns g c = λ never. task_is_no_fault g.T.Reader.Source.state never g.T.Texts.opens
