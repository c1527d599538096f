use Rattle.std.proofs.Common.{◌≡◌, ℕ, ◌<◌, ◌==◌, ◌||◌, true, false, List, [], ◌∷◌, refl, ap, sym, ◌∙◌, subst, reverse, length, arith}
use Rattle.std.proofs.lemmas.List.{reverse-append}
use Rattle.std.proofs.Math.Path.{fun_ext}
use Rattle.std.specs.List.{list_any}
use Rattle.cap_trace.specs.Entry.{Entry}
use Rattle.cap_machine.specs.declared.cell.Cell.{Cell}
use Rattle.cap_machine.specs.declared.step.Step.{Step}
use Rattle.cap_machine.specs.declared.rule.Effect.{Effect}
use Rattle.cap_machine.specs.State.{State}
use Rattle.cap_machine.specs.Steps.{step, steps}
use Rattle.cap_machine.specs.State.{start_state}
use Rattle.cap_machine.specs.Touch.{touch}
use Rattle.cap_machine.specs.Effect.{effect_touch}
use Rattle.cap_limits.specs.Code.Singles.{has_fd}
use Rattle.cap_machine.proofs.OneMore.{steps-more}
use Rattle.cap_limits.proofs.StandingBack.{SoFar, at_start, over_line}
use Rattle.cap_limits.proofs.standing.standing_fds.Goals as goal

none_left : (rest : List Entry) → (0 < length rest → false ≡ true) → rest ≡ []
none_left [] is = refl
none_left (line ∷ rest) is = let wrong : false ≡ true = is (omega arith) in cc

pub loop-line-preserved : goal.loop-line-preserved
loop-line-preserved c = λ f.
    let s : State = start_state c.args.start.now in
    let line : Entry = c.in-Some.line.now in
    let earlier : List Entry = c.in-Some.earlier.now in
    let whole : List Step = reverse (steps c.args.profile c.args.lines.now) in
    let older : List Step = reverse (steps c.args.profile earlier) in
    let l : Step = step c.args.profile line in
    let effect : Effect = c.effect_of_line-effect.result in
    let back : reverse (steps c.args.profile c.loop-line.rest.now) ≡ l ∷ older =
    ap (λ (r : List Entry). reverse (steps c.args.profile r)) c.in-Some.ensures.cases.0
    ∙ ap reverse (steps-more c.args.profile earlier line)
    ∙ reverse-append (steps c.args.profile earlier) (l ∷ []) in
    let owner : c.view.inside.pid ≡ c.view-view.result.pid = ap (λ (e : Entry). e.pid) c.view.view_is in
    let same_touch : effect_touch effect c.view.inside.pid ≡ touch l =
    fun_ext (λ p. fun_ext (λ g. ap (λ (me : ℕ). effect_touch effect me p g) owner ∙ c.effect_of_line-effect.ensures.cells p g
    ∙ ap (λ (e : Entry). touch (step c.args.profile e) p g) c.view-view.ensures)) in
    subst (λ (from : ℕ). SoFar s c.args.start.now whole c.args.pid older from (has_fd c.add_single.new.fds) f)
    (sym c.source-own.ensures)
    (over_line s c.args.start.now whole c.args.pid older l c.loop-line.own effect c.view.inside.pid
    (has_fd c.loop-line.fds) (has_fd c.add_single.new.fds) same_touch c.in_ok-add_single.ensures
    (λ g. subst (λ (h : List Step).
    SoFar s c.args.start.now whole c.args.pid h c.loop-line.own (has_fd c.loop-line.fds) g) back
    (c.loop-line.invariant g))
    f)

pub returns : goal.returns
returns c = λ f held.
    let s : State = start_state c.args.start.now in
    let whole : List Step = reverse (steps c.args.profile c.args.lines.now) in
    let none : c.loop-line.rest.now ≡ [] = none_left c.loop-line.rest.now c.in_default.ensures.variant.1 in
    at_start s c.args.start.now whole c.args.pid c.loop-line.own (has_fd c.loop-line.fds) (has_fd c.add_listed.new.fds) f
    (c.in_ok-add_listed.ensures f
    ∙ ap (λ (cells : List (ℕ × Cell)). list_any (λ (entry : ℕ × Cell). f == entry.0) cells || has_fd c.loop-line.fds f)
    c.listed.ensures)
    (subst (λ (r : List Entry). SoFar s c.args.start.now whole c.args.pid (reverse (steps c.args.profile r)) c.loop-line.own
    (has_fd c.loop-line.fds) f) none (c.loop-line.invariant f))
    held
