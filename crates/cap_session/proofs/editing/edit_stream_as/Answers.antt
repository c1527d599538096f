use Rattle.std.proofs.Common.{List, subst}
use Rattle.cap_machine.specs.State.{Added}
use Rattle.cap_session.specs.EditStreams.{EditStreams}
use Rattle.cap_session.proofs.editing.edit_stream_as.Goals as goal

pub returns : goal.returns
returns g c = subst (λ (start : List Added). EditStreams (record { profile = c.args.profile; start = start }) c.args.turns
    (g.T.Source.state c.args.trace.now) (g.T.Source.state c.edit_from.new.trace) (g.S.Source.state c.args.script.now)
    (g.S.Source.state c.edit_from.new.script) (g.W.Sink.state c.args.writer.now) (g.W.Sink.state c.edit_from.new.writer)
    c.edit_from.result) c.unknown-start.ensures.empty c.edit_from.ensures
