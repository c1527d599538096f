use Rattle.std.proofs.Common.{◌<◌, length, arith, Err, ap}
use Rattle.cap_session.proofs.NextEntry.{reads, is_faulty}
use Rattle.cap_session.specs.Code.Traced.{one_more}
use Rattle.cap_session.proofs.entries.Entries.keep_with_care.Goals as goal

pub returns-in-Ok : goal.returns-in-Ok
returns-in-Ok g c = λ known has count.
    let room : length known.entries < 1000000 = omega arith in (
      one_more known c.in-Ok.line,
      reads known c.args.text.now c.in-Ok.line c.requires.counts room c.in-Ok.ensures.read,
      c.keep.ensures known has count,
    )

pub returns-in-Err : goal.returns-in-Err
returns-in-Err g c = λ known has count.
    let room : length known.entries < 1000000 = omega arith in
    rw c.from.ensures (is_faulty known c.args.text.now c.in-Err.fault c.requires.counts room
    (λ e. c.in-Err.ensures.memory (ap Err e)) c.in-Err.ensures.read)
