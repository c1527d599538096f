use Rattle.std.proofs.Common.{◌≡◌, Ok, ap, ◌∙◌}
use Rattle.cap_trace.specs.Reading.{line_of}
use Rattle.cap_trace.proofs.Kept.{kept_is, spells_a_line}
use Rattle.cap_trace.proofs.line.LineRef.to_line.Goals as goal

reads : (c : goal.In_ok-text) → line_of c.in_ok-text.text.items ≡ Ok c.args.self.now
reads c = ap line_of c.in_ok-text.ensures.items ∙ c.requires.spelled

pub invariant_of-result : goal.invariant_of-result
invariant_of-result c = spells_a_line c.in_ok-text.text.items c.args.self.now (reads c)

pub returns : goal.returns
returns c = kept_is c.in_ok-text.text.items c.args.self.now (reads c)
