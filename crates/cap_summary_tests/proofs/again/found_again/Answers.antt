use Rattle.std.specs.Prelude.{List, [], drop, length, refl, take, ◌++◌, ◌<◌, ◌∷◌, ◌≡◌}
use Rattle.std.proofs.Common.{ap, append_assoc, arith, length-append, sym, ◌∙◌}
use Rattle.std.proofs.lemmas.List.Elements.{All-cons, All-nil}
use Rattle.cap_machine.specs.declared.step.Step.{Step}
use Rattle.cap_summary.specs.KeptRuns.{AreKeptRuns, IsKeptRun, steps_of}
use Rattle.cap_summary.specs.declared.kept_run.KeptRun.{KeptRun}
use Rattle.cap_summary_tests.proofs.again.found_again.Goals as goal

drop_front : (a c : List Step) → drop (length a) (a ++ c) ≡ c
drop_front [] c = refl
drop_front (x ∷ a) c = drop_front a c

take_front : (b c : List Step) → take (length b) (b ++ c) ≡ b
take_front [] c = refl
take_front (x ∷ b) c = ap (λ (l : List Step). x ∷ l) (take_front b c)

-- the middle of three
middle : (a b c : List Step) → steps_of ((a ++ b) ++ c) (length a) (length b) ≡ b
middle a b c = ap (λ (l : List Step). take (length b) (drop (length a) l)) (append_assoc a b c)
    ∙ ap (λ (l : List Step). take (length b) l) (drop_front a (b ++ c)) ∙ take_front b c

kept_middle : (a b c d e old new : List Step) (run : KeptRun) → old ≡ (a ++ b) ++ c → new ≡ (d ++ b) ++ e
    → run.was ≡ length a → run.at ≡ length d → run.len ≡ length b → 0 < length b → AreKeptRuns old new (run ∷ [])
kept_middle a b c d e old new run before now was at len some = record {
  each = All-cons (IsKeptRun old new) run [] (record {
    some = omega (arith, len, some);
    within_old = rw before (omega (arith, was, len, length-append (a ++ b) c, length-append a b));
    within_new = rw now (omega (arith, at, len, length-append (d ++ b) e, length-append d b));
    same = rw (before, now, was, at, len) (middle d b e ∙ sym (middle a b c));
  }) (All-nil (IsKeptRun old new));
  follow = (omega arith, omega arith, tt);
}

pub resolve_again-requires-clause-kept : goal.resolve_again-requires-clause-kept
resolve_again-requires-clause-kept c = kept_middle c.args.was.0.now c.args.middle.now c.args.was.1.now c.args.now.0.now
    c.args.now.1.now _ _ _ c.in_ok-old.ensures c.in_ok-new.ensures c.len-2.ensures c.len-3.ensures c.len-4.ensures
    (omega (arith, c.len.ensures, c.if-len-eq0.false))
