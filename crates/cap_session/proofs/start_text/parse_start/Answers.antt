use Rattle.cap_session.specs.StartTexts.{described_by}
use Rattle.cap_session.proofs.StartParses.{parse_good, parse_state, parse_bad, parse_memory}
use Rattle.cap_session.proofs.start_text.parse_start.Goals as goal

pub returns-clause-described : goal.returns-clause-described
returns-clause-described c = parse_good (described_by c.args.bytes.now) _ c.read_bytes.ensures

pub returns-clause-good : goal.returns-clause-good
returns-clause-good c = parse_state (described_by c.args.bytes.now) _ c.read_bytes.ensures

pub returns-clause-bad : goal.returns-clause-bad
returns-clause-bad c = parse_bad (described_by c.args.bytes.now) _ c.read_bytes.ensures

pub returns-clause-memory : goal.returns-clause-memory
returns-clause-memory c = parse_memory (described_by c.args.bytes.now) _ c.read_bytes.ensures
