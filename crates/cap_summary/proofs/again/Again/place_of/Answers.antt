use Rattle.cap_summary.specs.{KeptRuns.IsKeptRun, Again.new_steps, Again.old_steps, declared.kept_run.KeptRun.KeptRun}
use Rattle.std.specs.Prelude.{◌+◌, ◌-◌, ◌≡◌}
use Rattle.cap_summary.proofs.{Searching.steps_part, arith, subst, sym}
use Rattle.cap_summary.proofs.again.Again.place_of.Goals as goal

pub returns : goal.returns
returns c =
    let again = c.args.self.now in
    let run : KeptRun = c.in_ok-run.run'.now in
    let at = c.args.at in
    let there = c.in_ok-run.ensures.lookup in
    let kept : IsKeptRun (old_steps again) (new_steps again) run =
    subst (IsKeptRun (old_steps again) (new_steps again)) (sym (there.3.1 run)) (c.requires.kept c.last_to.result run there.3.0) in
    let place : run.at + (at - run.at) ≡ at = omega (arith, c.if-at-run.false) in record {
      within_old = omega (arith, kept.within_old, c.if-at-run.false, c.if-run-at.false, c.if-run-at-2.false);
      within_new = omega (arith, kept.within_new, c.if-at-run.false, c.if-run-at.false, c.if-run-at-2.false);
      same = rw place at (steps_part (new_steps again) (old_steps again) run.at run.was run.len (at - run.at) c.args.len
          (omega (arith, c.if-run-at.false, c.if-run-at-2.false)) kept.same);
    }
