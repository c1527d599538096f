use Rattle.std.proofs.Common.{◌≡◌, ℕ, ◌+◌, ◌≤◌, List, [], ◌∷◌, ◌++◌, arith, sym, ap, ◌∙◌, subst, length, append_assoc}
use Rattle.std.proofs.Common.{length-append}
use Rattle.std.proofs.lemmas.List.{append-nil}
use Rattle.cap_trace.specs.Entry.{Entry}
use Rattle.cap_machine.specs.declared.step.Step.{Step}
use Rattle.cap_machine.specs.Steps.{step, steps}
use Rattle.cap_limits.specs.Code.LiveRights.{AreBlocked}
use Rattle.cap_machine.proofs.OneMore.{steps-more}
use Rattle.cap_limits.proofs.limits.live_after.Goals as goal

pub loop-line-init : goal.loop-line-init
loop-line-init c = (
  [],
  append-nil (steps c.args.profile c.args.lines.now),
  omega arith,
  c.none-live.ensures.rights,
  λ p. c.none-live.ensures.blocked (c.args.before + length c.args.lines.now + 1) p,
)

pub loop-line-preserved : goal.loop-line-preserved
loop-line-preserved c =
    let line : Entry = c.in-Some.line.now in
    let earlier : List Entry = c.in-Some.earlier.now in
    let rest : List Entry = c.loop-line.rest.now in
    let t : List Step = steps c.args.profile earlier in
    let l : Step = step c.args.profile line in
    let inv = c.loop-line.invariant in
    let later : List Step = inv.0 in
    let split : rest ≡ earlier ++ line ∷ [] = c.in-Some.ensures.cases.0 in
    let more : steps c.args.profile rest ≡ t ++ l ∷ [] =
    ap (steps c.args.profile) split ∙ steps-more c.args.profile earlier line in
    let long : length rest ≡ length earlier + 1 = ap length split ∙ length-append earlier (line ∷ []) in
    let at : c.args.before + length rest ≡ c.args.before + length earlier + 1 = omega (arith, long) in
    let fits : length earlier ≤ length c.args.lines.now = omega (arith, long, inv.2) in (
      l ∷ later,
      sym (append_assoc t (l ∷ []) later) ∙ ap (λ (r : List Step). r ++ later) (sym more) ∙ inv.1,
      fits,
      c.in_ok-pass.ensures.rights later inv.3,
      subst (λ (n : ℕ). AreBlocked c.pass.new.self n (l ∷ later)) at (c.in_ok-pass.ensures.blocked later inv.4),
    )
