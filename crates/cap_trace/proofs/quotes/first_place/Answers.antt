use Rattle.cap_trace.proofs.Places.{first_place}
use Rattle.cap_trace.proofs.quotes.first_place.Goals as goal

pub returns-clause-value : goal.returns-clause-value
returns-clause-value c = first_place c.args.stop c.args.text.now c.memchr.result c.memchr.ensures
