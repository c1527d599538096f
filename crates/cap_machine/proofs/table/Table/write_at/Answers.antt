use Rattle.std.proofs.Common.{rules, ◌<◌, ◌==◌, if◌then◌else◌, length, refl, ◌∙◌}
use Rattle.cap_machine.specs.declared.cell.Cell.{Cell}
use Rattle.cap_machine.specs.declared.cell.Cell.TheVariants.{Unknown}
use Rattle.cap_machine.specs.declared.cell.Mode.{Mode}
use Rattle.cap_machine.specs.declared.cell.Mode.TheVariants.{Unsure}
use Rattle.cap_machine.specs.declared.table.Process.{Process}
use Rattle.cap_machine.specs.Code.Table.{cell_in, cell_of, mode_of, place_in, StandsAt}
use Rattle.cap_machine.proofs.Owners.{changed, both_tests, either_way}
use Rattle.cap_machine.proofs.table.Table.write_at.Goals as goal

pub returns : goal.returns
returns c =
    let stands : StandsAt c.args.self.now c.args.pid c.args.place = c.requires.place in
    let within : c.args.place < length c.args.self.now.processes.items = search rules in
    let was : Process = c.index_mut-process.result.now in
    let q : Process = record { pid = was.pid; mode = was.mode; cells = c.write.new.self } in
    record {
      cells = λ r f. changed (λ x. cell_in x f) Unknown (λ (x : Cell). if f == c.args.fd then c.args.cell else x)
          (place_in c.args.self.now.places.items) c.args.self.now.processes.items c.args.pid
          c.args.place c.index_mut-process.result.now q (λ r. cell_of c.args.self.now r f) stands.place within
          c.index_mut-process.ensures.value (stands.owner c.index_mut-process.result.now) refl
          (c.in_ok-write.ensures f) (λ r. refl) r
          ∙ both_tests (r == c.args.pid) (f == c.args.fd) c.args.cell (cell_of c.args.self.now r f);
      modes = λ r. changed (λ (x : Process). x.mode) Unsure (λ (m : Mode). m) (place_in c.args.self.now.places.items)
          c.args.self.now.processes.items c.args.pid c.args.place c.index_mut-process.result.now q
          (mode_of c.args.self.now) stands.place within c.index_mut-process.ensures.value
          (stands.owner c.index_mut-process.result.now) refl
          refl (λ r. refl) r ∙ either_way (r == c.args.pid) (mode_of c.args.self.now r);
    }
