use Rattle.std.proofs.Common.{rules, ◌≡◌, ◌==◌, not}
use Rattle.std.specs.List.{filter}
use Rattle.std.proofs.lemmas.Fn.{filter_same}
use Rattle.cap_machine.proofs.WrittenCells.{without}
use Rattle.cap_machine.proofs.cells.written_cells.WrittenCells.strike.Goals as goal

pub returns : goal.returns
returns c =
    let left : c.retain.new.self.items ≡ filter (λ one. not (one.fd == c.args.fd)) c.args.self.now.cells.items =
    filter_same _ _ _ (λ x b f' k. search rules) _ _ c.retain.ensures.filtered in
    λ below f. without c.args.self.now.cells.items c.retain.new.self.items c.args.fd f below left
