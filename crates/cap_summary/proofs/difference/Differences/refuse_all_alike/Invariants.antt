use Rattle.cap_summary.specs.{Differing.DifferAt, Keys.Cells, All, Preconditions.is_wrongful, ◌≡◌, take}
use Rattle.cap_summary.proofs.difference.Differences.refuse_all_alike.Given as goal

abbrev pub invariant-loop-refusal : goal.invariant-loop-refusal
invariant-loop-refusal l = record {
  alike : (old new : Cells) → DifferAt l.self.cells.items old new → All (λ refusal. is_wrongful old refusal ≡ is_wrongful new refusal) (take l.refusal-index l.refusals);
}
