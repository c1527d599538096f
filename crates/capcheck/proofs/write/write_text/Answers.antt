use Rattle.std.proofs.lemmas.List.{take_rest}
use Rattle.cap_session.proofs.Calls.{writing_on}
use Rattle.capcheck.proofs.write.write_text.Goals as goal

pub loop-rest-preserved : goal.loop-rest-preserved
loop-rest-preserved g c =
    let took = c.in_ok-n.ensures in
    rw (take_rest c.loop-rest.rest.now c.in_ok-n.n)
    (writing_on _ _ _ _ _ _ c.loop-rest.invariant took.bytes.0 took.failed took.room)
