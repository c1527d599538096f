use Rattle.cap_summary.specs.{list_any, All, false, take, ◌≡◌}
use Rattle.cap_summary.specs.Preconditions.{IsRefusalSaid, IsWithMore, is_wrongful}
use Rattle.cap_summary.proofs.precondition.Precondition.refuse_all_after.Given as goal

abbrev pub invariant-loop-refusal : goal.invariant-loop-refusal
invariant-loop-refusal l = record {
  more : IsWithMore l.first (λ cells. list_any (is_wrongful cells) (take l.refusal-index l.refusals))
      (λ s r. All (λ refusal. is_wrongful s refusal ≡ is_wrongful r refusal) (take l.refusal-index l.refusals))
      (λ said. All (IsRefusalSaid said) l.refusals) l.refusal-index l.refusal-index l.initial.self l.self;
  asks : l.self.asks ≡ l.initial.self.asks;
  certain : l.self.certain ≡ false → l.initial.self.certain ≡ false;
}
