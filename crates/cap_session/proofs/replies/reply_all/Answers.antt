use Rattle.cap_session.proofs.Replying.{script_begins, all_replied, all_stays}
use Rattle.cap_session.proofs.replies.reply_all.Goals as goal

pub read_chunks-requires-clause-begins : goal.read_chunks-requires-clause-begins
read_chunks-requires-clause-begins g c = script_begins c.args.script.now _ c.requires.begins

pub returns-clause-all : goal.returns-clause-all
returns-clause-all g c = all_replied _ _ _ _ c.args.turns _ _ c.read_chunks.result c.read_chunks.ensures

pub returns-clause-setting : goal.returns-clause-setting
returns-clause-setting g c = all_stays _ _ _ _ c.args.turns _ _ c.read_chunks.result c.read_chunks.ensures
