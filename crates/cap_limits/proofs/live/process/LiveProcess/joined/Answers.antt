use Rattle.cap_limits.specs.Code.Wanted.{rights_of}
use Rattle.cap_limits.proofs.AroundExec.{joined}
use Rattle.cap_limits.proofs.live.process.LiveProcess.joined.Goals as goal

pub returns-clause-rights : goal.returns-clause-rights
returns-clause-rights c =
    joined (rights_of c.args.self.until_exec) (rights_of c.args.self.after_exec) (rights_of c.args.other.until_exec)
    (rights_of c.args.other.after_exec) (rights_of c.in_ok-until_exec.until_exec)
    (rights_of c.in_ok-after_exec.after_exec) c.in_ok-until_exec.ensures c.in_ok-after_exec.ensures
