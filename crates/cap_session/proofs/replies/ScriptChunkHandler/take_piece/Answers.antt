use Rattle.cap_session.proofs.Replying.{script_on, script_broken}
use Rattle.cap_session.proofs.replies.ScriptChunkHandler.take_piece.Goals as goal

pub returns-in-Ok-clause-took : goal.returns-in-Ok-clause-took
returns-in-Ok-clause-took g c = λ first begun given went. script_on first c.args.self.now c.feed.new.self _ _ _ given
    c.args.piece.now went c.in-Ok.ensures.ok c.in-Ok.ensures.setting c.in-Ok.ensures.held

pub returns-in-Err-clause-stopped : goal.returns-in-Err-clause-stopped
returns-in-Err-clause-stopped g c = λ first begun given went. script_broken first c.args.self.now c.feed.new.self _ _ _
    given c.args.piece.now went c.in-Err.ensures.err c.in-Err.ensures.setting
