use Rattle.std.proofs.lemmas.Result.{on_ok_weaker}
use Rattle.cap_limits.specs.Code.Wanted.{rights_of, flag_rights}
use Rattle.cap_limits.proofs.AroundExec.{added}
use Rattle.cap_limits.proofs.live.process.LiveProcess.add.Goals as goal

pub returns-clause-rights : goal.returns-clause-rights
returns-clause-rights c =
    on_ok_weaker c.add.result
    (added (rights_of c.args.self.now.until_exec) (rights_of c.args.self.now.after_exec)
    (rights_of c.add.new.self) c.args.fd
    (flag_rights c.args.rights.now))
    c.add.ensures
