use Rattle.std.proofs.Common.{◌≡◌, ◌+◌, ◌++◌, arith, refl, sym, ap, subst, ◌∙◌}
use Rattle.std.proofs.lemmas.List.{append-nil}
use Rattle.cap_machine.specs.Code.Checked.{CheckerState, IsAsked}
use Rattle.cap_machine.specs.Questions.{line_count, LineHasNoEntry}
use Rattle.cap_machine.specs.Code.Table.{state_of}
use Rattle.cap_machine.proofs.OneMore.{asked_more, silent_count, silent_text}
use Rattle.cap_machine.proofs.checker.Checker.line_ref.Goals as goal

pub returns : goal.returns
returns c = record {
  checked = λ question profile s trace before.
      let was = state_of c.self.inside.table in
      let silent : LineHasNoEntry c.self.inside.question c.args.line.now was = c.if-not-has_no_entry.ensures refl in
      let none : line_count c.self.inside.question c.args.line.now was ≡ 0 =
      silent_count c.self.inside.question c.args.line.now was silent in
      asked_more _ _ c.self.inside.table c.apply_line.new.self c.args.line.now question profile s trace
      refl refl refl refl refl (omega arith)
      (sym (append-nil c.self.inside.text.items)
      ∙ ap (λ r. c.self.inside.text.items ++ r)
      (sym (silent_text c.self.inside.question (c.self.inside.lines + 1) c.args.line.now was silent)))
      c.in_ok-apply_line.ensures
      (subst (λ (r : CheckerState). IsAsked r question profile s trace) (sym c.self.view_is) before);
}
