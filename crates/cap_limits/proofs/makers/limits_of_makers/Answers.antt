use Rattle.std.proofs.Common.{◌≡◌, ℕ, ◌+◌, List, [], ◌∷◌, ◌++◌, sym, ap, ◌∙◌, subst, length, append_assoc}
use Rattle.std.proofs.Common.{length-append}
use Rattle.cap_trace.specs.Entry.{Entry}
use Rattle.cap_machine.specs.declared.step.Step.{Step}
use Rattle.cap_limits.specs.declared.makers.MakerRow.{MakerRow}
use Rattle.cap_machine.specs.Steps.{step, steps}
use Rattle.cap_machine.specs.State.{State}
use Rattle.cap_machine.specs.History.{ended}
use Rattle.cap_machine.specs.State.{start_state}
use Rattle.cap_limits.specs.Code.Wanted.{wanted}
use Rattle.cap_limits.specs.Makers.{AreMakerRows}
use Rattle.cap_limits.specs.Code.Made.{cells_along}
use Rattle.cap_machine.proofs.OneMore.{steps-more}
use Rattle.cap_limits.proofs.MakerLimits.{cells_more, maker_step}
use Rattle.cap_limits.proofs.makers.limits_of_makers.Goals as goal

pub loop-line-preserved : goal.loop-line-preserved
loop-line-preserved c =
    let s : State = start_state c.args.start.now in
    let line : Entry = c.in-Some.line.now in
    let before : List Entry = c.in-Some.before.now in
    let rest : List Entry = c.loop-line.rest.now in
    let t : List Step = steps c.args.profile before in
    let l : Step = step c.args.profile line in
    let inv = c.loop-line.invariant in
    let later : List Step = inv.0 in
    let split : rest ≡ before ++ line ∷ [] = c.in-Some.ensures.cases.0 in
    let more : steps c.args.profile rest ≡ t ++ l ∷ [] =
    ap (steps c.args.profile) split ∙ steps-more c.args.profile before line in
    let long : length rest ≡ length before + 1 = ap length split ∙ length-append before (line ∷ []) in
    let there : State = ended s (t ++ l ∷ []) in
    let passed = c.in_ok-pass_line.ensures.rows there (cells_along s t)
    (inv.2 ∙ ap (cells_along s) more ∙ cells_more s t l) in (
      l ∷ later,
      sym (append_assoc t (l ∷ []) later) ∙ ap (λ (r : List Step). r ++ later) (sym more) ∙ inv.1,
      passed.0,
      c.in_ok-pass_line.ensures.live later inv.3,
      subst (λ (n : ℕ). AreMakerRows (ended s t) n (l ∷ later) c.pass_line.new.rows.items) long
          (subst (λ (r : List MakerRow). AreMakerRows (ended s t) (length rest) (l ∷ later) r) (sym passed.1)
          (maker_step s t l later (length rest) (wanted c.loop-line.live line.pid) c.loop-line.rows.items
          (inv.3 line.pid)
          (subst (λ (u : List Step). AreMakerRows (ended s u) (length rest + 1) later c.loop-line.rows.items) more
          inv.4))),
    )
