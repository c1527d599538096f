use Rattle.cap_summary.specs.{State, start_state}
use Rattle.cap_summary.proofs.{Taking.all_rows, Taking.all_taken, on_ok_weaker}
use Rattle.cap_summary.proofs.effect.Effect.take.Goals as goal

pub take_rows-requires-clause-rows : goal.take_rows-requires-clause-rows
take_rows-requires-clause-rows c = rw c.entries.ensures.all (all_rows c.args.self.now c.requires)

pub returns : goal.returns
returns c =
    let s : State = start_state c.args.machine.now in
    let r : State = start_state c.take_rows.new.machine in
    on_ok_weaker c.take_rows.result (λ taken. all_taken c.args.last.now c.args.at c.args.self.now s r
    (rw c.entries.ensures.all at taken)) c.take_rows.ensures
