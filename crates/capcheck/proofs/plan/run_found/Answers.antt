use Rattle.std.proofs.Common.{◌≡◌, ◌∙◌, Some, None, ap, sym, option_and_then, option_map}
use Rattle.std.specs.Prelude.{Option}
use Rattle.clap.specs.Words.{found_of, rows_of, subcommand_rows_of}
use Rattle.capcheck.specs.Plans.{run_for, run_in}
use Rattle.capcheck.proofs.plan.run_found.Goals as goal

-- both parts of what is there
both : {A B C : Type 0} (x : Option C) (f : C → A) (g : C → B) (a : A) (b : B) → option_map f x ≡ Some a
    → option_map (λ (p : A × B). p.1) (option_map {U = A × B} (λ c. (f c, g c)) x) ≡ Some b
    → option_map {U = A × B} (λ c. (f c, g c)) x ≡ Some (a, b)
both None f g a b first second = cc
both (Some c) f g a b first second = cc

pub returns : goal.returns
returns c =
    let rows = rows_of (found_of c.in_ok-name.found.now) in
    let here = c.in_ok-name.ensures.ok_part in
    let named : subcommand_rows_of c.args.matches.now ≡ Some (c.in_ok-name.name.now, rows) =
    both _ _ _ c.in_ok-name.name.now rows (sym c.subcommand.ensures.name ∙ ap (option_map (λ p. p.0.now)) here)
    (sym c.subcommand.ensures.rows ∙ ap (option_map (λ p. rows_of (found_of p.1.now))) here) in
    c.run_for.ensures ∙ ap (option_and_then (run_for rows)) c.in_ok-task_in.ensures
    ∙ ap (option_and_then run_in) (sym named)
