use Rattle.std.specs.Prelude.{length, ◌+◌, ◌≤◌}
use Rattle.cap_summary.specs.{Lasts.AreNotedFor, List, Positions.last_of, get_or, slice_range, ℕ}
use Rattle.cap_summary.proofs.{LastPlaces.noted_next, LastPlaces.on_both, arith, on_ok_weaker, subst, sym}
use Rattle.std.proofs.lemmas.Slice.{first_rest}
use Rattle.cap_summary.proofs.last_steps.LastSteps.+note_run.Goals as goal

pub returns-clause-noted : goal.returns-clause-noted
returns-clause-noted t c =
    let pids : List ℕ = c.args.pids.now in
    let pid : ℕ = get_or pids 0 0 in
    on_ok_weaker c.note_run.result (λ done. subst (AreNotedFor c.note_run.new.self c.args.at)
    (sym (first_rest pids 0 (omega arith))) (noted_next c.note_run.new.self c.args.at pid
    (slice_range pids 1 (length pids)) (omega (arith, c.in_ok-note.ensures.noted, done.0 pid)) done.1))
    (on_both _ _ c.note_run.result c.note_run.ensures.kept c.note_run.ensures.noted)
