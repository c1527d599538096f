use Rattle.std.proofs.Common.{◌≡◌, Ok, length, ap, arith}
use Rattle.cap_trace.specs.Entry.{Entry}
use Rattle.cap_trace.specs.Reading.{line_of}
use Rattle.cap_trace.specs.Views.{item_view}
use Rattle.cap_trace.specs.Spelling.{IsProper}
use Rattle.cap_trace.proofs.GoodLines.{bad_fields, too_long, short_proper}
use Rattle.cap_trace.proofs.Kept.{kept_is, spells_a_line, canon_read}
use Rattle.cap_trace.proofs.line.Line.new.Goals as goal

pub returns-then-not-branch : goal.returns-then-not-branch
returns-then-not-branch c = bad_fields (record { pid = c.args.pid; item = item_view c.args.item.now })
    c.in_ok-fields_fit.ensures c.if-not-branch.true

abbrev entry : goal.Then-is_short → Entry
entry c = record { pid = c.args.pid; item = item_view c.args.item.now }

proper : (c : goal.Then-is_short) → IsProper (entry c)
proper c = short_proper (entry c) c.in_ok-fields_fit.ensures c.if-not-branch.false
    (omega (arith, ap length c.in_ok-text.ensures))

reads : (c : goal.Then-is_short) → line_of c.in_ok-text.text.items ≡ Ok (entry c)
reads c = canon_read c.in_ok-text.text.items (entry c) c.in_ok-text.ensures (proper c)

pub invariant_of-result : goal.invariant_of-result
invariant_of-result c = spells_a_line c.in_ok-text.text.items (entry c) (reads c)

pub returns-then-is_short : goal.returns-then-is_short
returns-then-is_short c = (kept_is c.in_ok-text.text.items (entry c) (reads c), proper c)

pub returns-else-is_short : goal.returns-else-is_short
returns-else-is_short c = too_long (record { pid = c.args.pid; item = item_view c.args.item.now })
    (omega (arith, ap length c.in_ok-text.ensures))
