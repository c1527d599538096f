use Rattle.cap_session.proofs.ScriptEdits.{script_leaves_what_edits_give as law}
use Rattle.cap_session.proofs.laws.script_leaves_what_edits_give.Goals as goal

pub returns : goal.returns
returns c = law
