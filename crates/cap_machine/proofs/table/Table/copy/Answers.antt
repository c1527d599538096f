use Rattle.std.proofs.Common.{rules, ◌≡◌, ℕ, List, ap, ◌∙◌}
use Rattle.std.specs.Option.{option_map_or}
use Rattle.cap_machine.specs.declared.cell.Cell.TheVariants.{Unknown}
use Rattle.cap_machine.specs.declared.cell.Mode.TheVariants.{Unsure}
use Rattle.cap_machine.specs.declared.table.Process.{Process}
use Rattle.cap_machine.specs.Code.Table.{cell_in, own_at, place_in}
use Rattle.cap_machine.proofs.Owners.{asked_of_copies}
use Rattle.cap_machine.proofs.table.Table.copy.Goals as goal

pub returns : goal.returns
returns c =
    let same : c.in_ok-places.places.items ≡ c.args.self.now.places.items = search rules in
    let at : (p : ℕ) → place_in c.in_ok-places.places.items p ≡ place_in c.args.self.now.places.items p =
    λ p. ap (λ (r : List ℕ). place_in r p) same in
    record {
      cells = λ p f. asked_of_copies (λ q. cell_in q f) Unknown c.args.self.now.processes.items
          c.in_ok-processes.processes.items (place_in c.in_ok-places.places.items p) p (λ a b same. same.0 f)
          c.in_ok-processes.ensures.cases.0
          ∙ ap (λ i. option_map_or (λ q. cell_in q f) (own_at c.args.self.now.processes.items i p) Unknown) (at p);
      modes = λ p. asked_of_copies (λ (q : Process). q.mode) Unsure c.args.self.now.processes.items
          c.in_ok-processes.processes.items (place_in c.in_ok-places.places.items p) p (λ a b same. same.1)
          c.in_ok-processes.ensures.cases.0
          ∙ ap (λ i. option_map_or (λ (q : Process). q.mode) (own_at c.args.self.now.processes.items i p) Unsure)
          (at p);
    }
