use Rattle.std.proofs.Common.{List, ℕ, ◌++◌, ap, sym, subst, ◌∙◌}
use Rattle.cap_trace.specs.Entry.{Entry}
use Rattle.cap_trace.specs.Spelling.{Spells, canon}
use Rattle.cap_trace.proofs.Kept.{canon_read}
use Rattle.cap_session.proofs.steps.copy_of.Goals as goal

pub to_line-requires : goal.to_line-requires
to_line-requires c =
    let line = c.args.line.now in
    let written = c.as_slice.ensures.value ∙ c.in_ok-write_line.ensures.ok
    ∙ ap (λ (before : List ℕ). before ++ canon line) c.new-text.ensures.items ∙ ap canon (sym c.view.ensures) in
    let spelled = subst (λ (e : Entry). Spells (canon e) e) (sym c.view.ensures) c.in_ok-write_line.ensures.spelled in
    record { spelled = canon_read c.as_slice.result.now c.view.result written (canon c.view.result, spelled) }
