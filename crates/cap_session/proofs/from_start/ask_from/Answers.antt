use Rattle.cap_machine.specs.State.{start_state}
use Rattle.cap_session.specs.Streams.{asked_says}
use Rattle.cap_session.proofs.AnswersTrace.{nothing_read}
use Rattle.cap_session.proofs.from_start.ask_from.Goals as goal

pub returns-in_default : goal.returns-in_default
returns-in_default g c =
    nothing_read (asked_says c.args.question c.args.profile (start_state c.args.start.now)) c.args.turns _ _

pub returns : goal.returns
returns g c =
    let s = start_state c.args.start.now in
    c.check_with.ensures c.args.question c.args.profile s (c.asked.ensures c.args.profile s c.in-Ok.ensures)
