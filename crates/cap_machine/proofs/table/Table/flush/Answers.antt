use Rattle.std.proofs.Common.{rules, ◌<◌, ◌==◌, length, refl, ◌∙◌}
use Rattle.cap_machine.specs.declared.cell.Cell.{Cell}
use Rattle.cap_machine.specs.declared.cell.Cell.TheVariants.{Unknown}
use Rattle.cap_machine.specs.declared.cell.Mode.{Mode}
use Rattle.cap_machine.specs.declared.cell.Mode.TheVariants.{Unsure}
use Rattle.cap_machine.specs.declared.table.Process.{Process}
use Rattle.cap_machine.specs.Code.Table.{cell_in, cell_of, mode_of, place_in, StandsAt}
use Rattle.cap_machine.proofs.Owners.{changed, either_way}
use Rattle.cap_machine.proofs.table.Table.flush.Goals as goal

pub returns-in_ok-flush-in-Some : goal.returns-in_ok-flush-in-Some
returns-in_ok-flush-in-Some c =
    let stands : StandsAt c.args.self.now c.args.pid c.in-Some.place = c.in-Some.ensures.some in
    let within : c.in-Some.place < length c.args.self.now.processes.items = search rules in
    let was : Process = c.index_mut-process.result.now in
    let q : Process = record { pid = was.pid; mode = was.mode; cells = c.flush.new.self } in
    record {
      cells = λ r f. changed (λ x. cell_in x f) Unknown (λ (x : Cell). x)
          (place_in c.args.self.now.places.items) c.args.self.now.processes.items c.args.pid
          c.in-Some.place was q (λ r. cell_of c.args.self.now r f) stands.place within
          c.index_mut-process.ensures.value (stands.owner was) refl
          (c.in_ok-flush-in-Some.ensures f) (λ r. refl) r
          ∙ either_way (r == c.args.pid) (cell_of c.args.self.now r f);
      modes = λ r. changed (λ (x : Process). x.mode) Unsure (λ (m : Mode). m) (place_in c.args.self.now.places.items)
          c.args.self.now.processes.items c.args.pid c.in-Some.place was q
          (mode_of c.args.self.now) stands.place within c.index_mut-process.ensures.value
          (stands.owner was) refl
          refl (λ r. refl) r ∙ either_way (r == c.args.pid) (mode_of c.args.self.now r);
    }
