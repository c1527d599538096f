use Rattle.std.proofs.Common.{◌≡◌, ℕ, ◌+◌, ◌<◌, ◌≤◌, List, ◌++◌, Result, Err, length, ap, subst, ◌∙◌}
use Rattle.std.proofs.lemmas.Result.{err_from_is_err_and}
use Rattle.cap_session.proofs.Fed.{fed_cut, cut_stopped, fed_piece, fed_long}
use Rattle.cap_session.proofs.Reach.{reached_good}
use Rattle.cap_session.specs.declared.lines.StopReason.{StopReason}
use Rattle.cap_session.proofs.lines.LineReader.feed.Goals as goal

same_stop : (x y : StopReason) → ◌≡◌ {A = Result (Unit {0}) StopReason} (Err x) (Err y) → x ≡ y
same_stop x y is = cc

pub returns-in_err-complete-clause-feeds : goal.returns-in_err-complete-clause-feeds
returns-in_err-complete-clause-feeds g c =
    let p = err_from_is_err_and c.from_residual.result c.from_residual.ensures.1 in
    let here = c.loop-line in
    rw (p.1, p.2)
    (cut_stopped (Unit {0}) g.L.Lines.next _ _
    (g.L.Lines.follows c.complete.new.self.lines) _ _ _ _ _ here.ends _ _ _ c.complete.new.self.number
    c.complete.new.self.held here.invariant c.in-Some.ensures c.in_err-complete.ensures.completes)

pub loop-line-preserved : goal.loop-line-preserved
loop-line-preserved g c =
    let here = c.loop-line in
    let done = c.in_ok-complete.ensures in
    rw (done.held, done.number)
    (fed_cut g.L.Lines.next _ _ (g.L.Lines.follows c.complete.new.self.lines) _ _ _ _ _ here.ends _ _
    here.invariant c.in-Some.ensures done.completes)

pub returns-in_err-hold-clause-feeds : goal.returns-in_err-hold-clause-feeds
returns-in_err-hold-clause-feeds g c =
    let p = err_from_is_err_and c.from_residual-in_err-hold.result c.from_residual-in_err-hold.ensures.1 in
    let here = c.loop-line in
    let rest : c.rest.result.now ≡ here.ends = c.rest.ensures ∙ c.in_default.ensures.1 in
    let why = c.in_err-hold.ensures in
    rw (p.1, p.2, same_stop _ _ why.stops)
    (fed_long g.L.Lines.next _ (g.L.Lines.follows here.self.lines) _ _ _ _ _ here.ends here.invariant
    c.in_default.ensures.0 (subst (λ (l : List ℕ). 1024 < length here.self.held + length l) rest why.long))

pub returns-then-is_out_of_memory-clause-feeds : goal.returns-then-is_out_of_memory-clause-feeds
returns-then-is_out_of_memory-clause-feeds g c = λ start given r.
    let here = c.loop-line in
    let rest : c.rest.result.now ≡ here.ends = c.rest.ensures ∙ c.in_default.ensures.1 in
    let held = c.in_ok-hold.ensures in
    reached_good g.L.Lines.next start (g.L.Lines.follows here.self.lines) (given ++ c.args.piece.now) _ _
    (fed_piece g.L.Lines.next _ (g.L.Lines.follows here.self.lines) _ _ _ _ _ here.ends _ here.invariant
    c.in_default.ensures.0 (held.held ∙ ap (λ (l : List ℕ). here.self.held ++ l) rest)
    (subst (λ (l : List ℕ). length here.self.held + length l ≤ 1024) rest held.short) start given r)

pub returns-clause-feeds : goal.returns-clause-feeds
returns-clause-feeds g c =
    let here = c.loop-line in
    let rest : c.rest.result.now ≡ here.ends = c.rest.ensures ∙ c.in_default.ensures.1 in
    let held = c.in_ok-hold.ensures in
    rw (held.lines, held.number)
    (fed_piece g.L.Lines.next _ (g.L.Lines.follows here.self.lines) _ _ _ _ _ here.ends _ here.invariant
    c.in_default.ensures.0 (held.held ∙ ap (λ (l : List ℕ). here.self.held ++ l) rest)
    (subst (λ (l : List ℕ). length here.self.held + length l ≤ 1024) rest held.short))
