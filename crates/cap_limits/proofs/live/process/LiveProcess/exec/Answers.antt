use Rattle.cap_limits.specs.Code.Wanted.{rights_of}
use Rattle.cap_limits.proofs.AroundExec.{handed_on}
use Rattle.cap_limits.proofs.live.process.LiveProcess.exec.Goals as goal

pub returns-clause-rights : goal.returns-clause-rights
returns-clause-rights c =
    handed_on (rights_of c.args.self.now.until_exec) (rights_of c.args.self.now.after_exec)
    (rights_of c.add_all.new.other)
    (rights_of c.add_all.new.self) c.in_ok-add_all.ensures.added c.in_ok-add_all.ensures.empty
