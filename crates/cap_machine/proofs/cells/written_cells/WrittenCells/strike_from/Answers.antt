use Rattle.std.proofs.Common.{rules, ◌≡◌, nat_lt}
use Rattle.std.specs.List.{filter}
use Rattle.std.proofs.lemmas.Fn.{filter_same}
use Rattle.cap_machine.proofs.WrittenCells.{only_below}
use Rattle.cap_machine.proofs.cells.written_cells.WrittenCells.strike_from.Goals as goal

pub returns : goal.returns
returns c =
    let left : c.retain.new.self.items ≡ filter (λ one. nat_lt one.fd c.args.fd) c.args.self.now.cells.items =
    filter_same _ _ _ (λ x b f' k. search rules) _ _ c.retain.ensures.filtered in
    λ below f. only_below c.args.self.now.cells.items c.retain.new.self.items c.args.fd f below left
