use Rattle.std.proofs.Common.{◌≡◌, ℕ, ◌+◌, ◌<◌, ◌==◌, if◌then◌else◌, List, [], ◌∷◌, ◌++◌, length, take, arith, ap, sym}
use Rattle.std.proofs.Common.{◌∙◌}
use Rattle.std.proofs.lemmas.List.{take_more, take_all}
use Rattle.cap_machine.specs.declared.cell.Cell.{Cell}
use Rattle.cap_machine.specs.Code.Cells.{cell_in_cells}
use Rattle.cap_machine.specs.State.{listed_cell}
use Rattle.cap_machine.proofs.Tables.{listed-more}
use Rattle.cap_machine.proofs.table.write_all.Goals as goal

pub loop-fd-preserved : goal.loop-fd-preserved
loop-fd-preserved c = λ f.
    let entry : ℕ × Cell = c.loop-fd-item.result in
    let before : List (ℕ × Cell) = take c.loop-fd.fd-index c.args.listed.now in
    let rest : Cell = cell_in_cells c.args.cells.now f in
    let within : c.loop-fd.fd-index < length c.args.listed.now = omega arith in
    let more : take (c.loop-fd.fd-index + 1) c.args.listed.now ≡ before ++ entry ∷ [] =
    take_more c.args.listed.now c.loop-fd.fd-index entry within
    ∙ ap (λ (r : ℕ × Cell). before ++ r ∷ []) (sym c.loop-fd-item.is) in
    let next : listed_cell rest (take (c.loop-fd.fd-index + 1) c.args.listed.now) f
    ≡ (if f == entry.0 then entry.1 else listed_cell rest before f) =
    ap (λ (r : List (ℕ × Cell)). listed_cell rest r f) more ∙ listed-more rest before entry f in
    let was : cell_in_cells c.loop-fd.cells f ≡ listed_cell rest before f = c.loop-fd.invariant f in
    c.in_ok-write.ensures f ∙ ap (λ (r : Cell). if f == entry.0 then entry.1 else r) was ∙ sym next

pub returns : goal.returns
returns c = λ f.
    c.loop-fd.invariant f
    ∙ ap (λ (r : List (ℕ × Cell)). listed_cell (cell_in_cells c.args.cells.now f) r f)
    (take_all c.loop-fd.fd-index c.args.listed.now c.loop-fd-test.false)
