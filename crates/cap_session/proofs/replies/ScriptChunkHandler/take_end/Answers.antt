use Rattle.cap_session.proofs.Replying.{script_ends, script_broken_at_end}
use Rattle.cap_session.proofs.replies.ScriptChunkHandler.take_end.Goals as goal

pub returns-in-Ok : goal.returns-in-Ok
returns-in-Ok g c = λ first begun given went.
    script_ends first c.args.self.now c.end.new.self _ _ _ given went c.in-Ok.ensures.ok c.in-Ok.ensures.setting

pub returns-in-Err : goal.returns-in-Err
returns-in-Err g c = λ first begun given went. script_broken_at_end first c.args.self.now c.end.new.self _ _ _ given
    went c.in-Err.ensures.err c.in-Err.ensures.setting
