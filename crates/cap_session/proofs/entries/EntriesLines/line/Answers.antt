use Rattle.std.proofs.Common.{◌<◌, ◌≤◌, length, arith, sym, ◌∙◌}
use Rattle.cap_session.proofs.NextEntry.{skips, is_full, reads}
use Rattle.cap_session.specs.Code.Traced.{one_more}
use Rattle.cap_session.proofs.entries.EntriesLines.line.Goals as goal

pub returns-then-is_skipped : goal.returns-then-is_skipped
returns-then-is_skipped g c =
    λ known has. (known, skips known c.args.line.now (sym c.is_skipped.ensures ∙ c.if-is_skipped.true), has)

pub returns-then-count-ge-MOST_LINES : goal.returns-then-count-ge-MOST_LINES
returns-then-count-ge-MOST_LINES g c = λ known has.
    let count = c.count-count.ensures.lines known has in
    let full : 1000000 ≤ length known.entries = omega arith in
    is_full known c.args.line.now (sym c.is_skipped.ensures ∙ c.if-is_skipped.false) full

pub returns-in-Some : goal.returns-in-Some
returns-in-Some g c = λ known has.
    let count = c.count-count.ensures.lines known has in
    let room : length known.entries < 1000000 = omega arith in (
      one_more known c.in-Some.read,
      reads known c.args.line.now c.in-Some.read
          (sym c.is_skipped.ensures ∙ c.if-is_skipped.false) room c.in-Some.ensures,
      c.keep.ensures known has count,
    )

pub returns-in-None : goal.returns-in-None
returns-in-None g c = λ known has.
    let count = c.count-count.ensures.lines known has in
    c.keep_with_care.ensures known has count
