use Rattle.cap_session.proofs.Scripted.{script_reports_what_edits_give}
use Rattle.cap_session.proofs.laws.script_reports_what_edits_give.Goals as goal

pub returns : goal.returns
returns c = script_reports_what_edits_give
