use Rattle.cap_session.proofs.StartParses.{parsed}
use Rattle.cap_session.proofs.start_text.read_bytes.Goals as goal

pub returns : goal.returns
returns c = rw c.ok_or.ensures.value
    (parsed c.args.bytes.now c.text.new.self.kept c.text.new.self.low c.in_ok-text.ensures.good)
