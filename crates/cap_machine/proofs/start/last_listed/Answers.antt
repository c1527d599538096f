use Rattle.std.proofs.Common.{ℕ, ◌==◌, List, [], map, take, ap, sym, ◌∙◌, arith, eq-eqb, Bor}
use Rattle.std.proofs.lemmas.Bool.{cond-true, cond-false, ne_eqb}
use Rattle.cap_machine.specs.declared.cell.Cell.{Cell}
use Rattle.cap_machine.specs.Code.Starts.{added_by}
use Rattle.cap_machine.specs.State.{last_cells}
use Rattle.cap_machine.proofs.Starts.{last_taken}
use Rattle.cap_machine.proofs.start.last_listed.Goals as goal
use Rattle.cap_machine.proofs.start.last_listed.Goals.{then-pid-entry, else-pid-entry}

pub loop-entry-preserved : goal.loop-entry-preserved
loop-entry-preserved c =
    let p : ℕ = c.args.pid in
    let here : List (ℕ × Cell) = c.entry-item.result.cells.items in
    let before : List (ℕ × Cell) = last_cells [] (map added_by (take c.loop-entry.entry-index c.args.entries.now)) p in
    let more = last_taken c.args.entries.now c.loop-entry.entry-index c.entry-item.result p
    (omega (arith, c.loop-entry-test.true)) c.entry-item.is in
    elim c.if-pid-entry.branch [
      | then-pid-entry w ↦ (ap (λ (r : Bor (List (ℕ × Cell))). r.now) w.last-is ∙ w.deref-last.ensures.value
          ∙ sym (cond-true (p == c.entry-item.result.pid) here before
          (eq-eqb p c.entry-item.result.pid w.if-pid-entry.true))
          ∙ sym more)
      | else-pid-entry w ↦ (ap (λ (r : Bor (List (ℕ × Cell))). r.now) w.last-is ∙ c.loop-entry.invariant
          ∙ sym (cond-false (p == c.entry-item.result.pid) here before
          (ne_eqb p c.entry-item.result.pid w.if-pid-entry.false))
          ∙ sym more)
    ]
