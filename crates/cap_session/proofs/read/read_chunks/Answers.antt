use Rattle.std.proofs.Common.{◌≡◌, ◌-◌, ◌*◌, ◌<◌, ◌≤◌, length, take, arith}
use Rattle.std.proofs.lemmas.List.{length-take}
use Rattle.std.proofs.lemmas.Result.{err_from_is_err_and}
use Rattle.cap_session.proofs.Calls.{ended_more}
use Rattle.cap_session.proofs.Goes.{goes_first, goes_on, goes_failed, goes_used_up, goes_stopped, goes_to_end}
use Rattle.cap_session.proofs.read.read_chunks.Goals as goal

pub loop-turn-init : goal.loop-turn-init
loop-turn-init g c =
    goes_first _ (g.T.ChunkHandler.fits c.args.taker.now c.args.output.now) _ c.args.turns c.requires.begins
    c.requires.fits

pub returns-in-Err : goal.returns-in-Err
returns-in-Err g c =
    let gave = c.in-Err.ensures in
    goes_failed _ _ _ c.args.turns _ _ _ _ _ c.loop-turn.invariant c.loop-turn-test.true gave.bytes gave.called
    gave.failed gave.ended

pub take_end-requires : goal.take_end-requires
take_end-requires g c = (_, c.loop-turn.invariant.fit)

pub take_piece-requires-clause-fits : goal.take_piece-requires-clause-fits
take_piece-requires-clause-fits g c =
    (65536 * (c.args.turns - c.loop-turn._turn), simp length-take (omega arith), c.loop-turn.invariant.fit)

pub returns-in-Ok-eq0 : goal.returns-in-Ok-eq0
returns-in-Ok-eq0 g c =
    let zero = c.in-Ok-eq0.field-0-test in
    let gave = c.in-Ok-eq0.ensures in
    let some : 0 < length c.read.new.buffer = omega arith in
    goes_to_end _ _ _ _ _ _ _ _ c.args.turns _ c.take_end.result c.loop-turn.invariant c.loop-turn-test.true
    (rw zero at gave.bytes.0) (gave.bytes.1 zero some) gave.called gave.failed (rw zero at gave.ended)
    (λ given. c.take_end.ensures c.args.taker.now c.args.output.now given)

pub returns-in_err-take_piece-in-Ok : goal.returns-in_err-take_piece-in-Ok
returns-in_err-take_piece-in-Ok g c =
    let p = err_from_is_err_and c.from_residual.result c.from_residual.ensures.1 in
    let gave = c.in-Ok.ensures in
    let short : length (take c.in-Ok.n c.read.new.buffer) ≤ 65536 = simp length-take (omega arith) in
    rw (p.1, p.2)
    (goes_stopped _ _ _ _ _ _ _ _ c.args.turns _ (take c.in-Ok.n c.read.new.buffer) _
    c.loop-turn.invariant c.loop-turn-test.true gave.bytes.0 short gave.called gave.failed
    (rw (ended_more _ c.in-Ok.n c.in-Ok.n-test.1) at gave.ended)
    (λ given. c.in_err-take_piece-in-Ok.ensures.stopped c.args.taker.now c.args.output.now given))

pub loop-turn-preserved : goal.loop-turn-preserved
loop-turn-preserved g c =
    let gave = c.in-Ok.ensures in
    let took = c.in_ok-take_piece-in-Ok.ensures in
    let short : length (take c.in-Ok.n c.read.new.buffer) ≤ 65536 = simp length-take (omega arith) in
    goes_on _ _ _ _ _ _ _ c.args.turns _ (take c.in-Ok.n c.read.new.buffer) c.loop-turn.invariant c.loop-turn-test.true
    gave.bytes.0 short gave.called gave.failed
    (rw (ended_more _ c.in-Ok.n c.in-Ok.n-test.1) at gave.ended) gave.room
    (λ given. took.took c.args.taker.now c.args.output.now given) took.fits

pub returns : goal.returns
returns g c =
    let here = c.loop-turn in
    let done : here._turn ≡ c.args.turns = omega arith in
    goes_used_up _ _ _ c.args.turns _ _ _ (rw done at here.invariant)
