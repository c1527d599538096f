use Rattle.cap_session.proofs.ScriptEdits.{each_report_is_of_its_trace as law}
use Rattle.cap_session.proofs.laws.each_report_is_of_its_trace.Goals as goal

pub returns : goal.returns
returns c = law
