use Rattle.std.proofs.Common.{rules, ◌≡◌, ℕ, ◌<◌, ◌==◌, if◌then◌else◌, length, refl, ap, sym, ◌∙◌}
use Rattle.std.specs.Option.{option_map_or}
use Rattle.cap_machine.specs.State.{listed_cell}
use Rattle.cap_machine.specs.declared.cell.Cell.{Cell}
use Rattle.cap_machine.specs.declared.cell.Cell.TheVariants.{Unknown}
use Rattle.cap_machine.specs.declared.cell.Mode.{Mode}
use Rattle.cap_machine.specs.declared.cell.Mode.TheVariants.{Unsure}
use Rattle.cap_machine.specs.declared.table.Process.{Process}
use Rattle.cap_machine.specs.Code.Table.{cell_in, cell_of, mode_of, place_in, Keeps, StandsAt, state_of}
use Rattle.cap_machine.proofs.Owners.{changed, own_there}
use Rattle.cap_machine.proofs.table.Table.set.Goals as goal

pub returns : goal.returns
returns c =
    let pid : ℕ = c.args.pid in
    let i : ℕ = c.in_ok-place.place in
    let stands : StandsAt c.enter.new.self pid i = c.in_ok-place.ensures.place in
    let kept : Keeps c.enter.new.self (state_of c.args.self.now) = c.in_ok-place.ensures.kept in
    let within : i < length c.enter.new.self.processes.items = search rules in
    let was : Process = c.index_mut-process.result.now in
    let q : Process = c.set.new.self in
    let mine : was.pid ≡ pid = ap (λ (x : Process). x.pid) c.index_mut-process.ensures.value ∙ stands.owner was in
    let there = own_there (place_in c.enter.new.self.places.items) c.enter.new.self.processes.items pid i was stands.place
    within c.index_mut-process.ensures.value mine in
    record {
      cells = λ r f.
          let own : cell_in was f ≡ cell_of c.args.self.now pid f =
          sym (ap (λ o. option_map_or (λ x. cell_in x f) o Unknown) there) ∙ kept.cells pid f in
          changed (λ x. cell_in x f) Unknown (λ (x : Cell). cell_in q f)
          (place_in c.enter.new.self.places.items) c.enter.new.self.processes.items pid i was q
          (λ r. cell_of c.args.self.now r f) stands.place within c.index_mut-process.ensures.value
          (stands.owner was) c.in_ok-set.ensures.pid refl (λ r. kept.cells r f) r
          ∙ ap (λ (x : Cell). if r == pid then x else cell_of c.args.self.now r f)
          (c.in_ok-set.ensures.cells f ∙ ap (λ (x : Cell). listed_cell x c.args.cells.now f) own);
      modes = λ r. changed (λ (x : Process). x.mode) Unsure (λ (m : Mode). q.mode)
          (place_in c.enter.new.self.places.items) c.enter.new.self.processes.items pid i was q
          (mode_of c.args.self.now) stands.place within c.index_mut-process.ensures.value
          (stands.owner was) c.in_ok-set.ensures.pid refl kept.modes r
          ∙ ap (λ (m : Mode). if r == pid then m else mode_of c.args.self.now r) c.in_ok-set.ensures.mode;
    }
