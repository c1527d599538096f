use Rattle.std.proofs.Common.{rules, ◌<◌, length, refl, ap, ◌∙◌}
use Rattle.cap_machine.specs.declared.table.Process.{Process}
use Rattle.cap_machine.specs.Code.Table.{place_in, StandsAt}
use Rattle.cap_machine.proofs.Owners.{put_at}
use Rattle.cap_machine.proofs.table.Table.store.Goals as goal

pub returns-in-Some-clause-ok : goal.returns-in-Some-clause-ok
returns-in-Some-clause-ok c =
    let stands : StandsAt c.args.self.now c.args.process.pid c.in-Some.place = c.in-Some.ensures.some in
    let within : c.in-Some.place < length c.args.self.now.processes.items = search rules in
    let was : Process = c.index_mut-old.result.now in
    λ r. put_at (place_in c.args.self.now.places.items) c.args.self.now.processes.items c.args.process.pid
    c.in-Some.place was c.args.process r stands.place within c.index_mut-old.ensures.value
    (ap (λ (x : Process). x.pid) c.index_mut-old.ensures.value ∙ stands.owner was) refl
