use Rattle.cap_summary.specs.{Again.IsPassed, Again.begins, Again.new_steps, Effects.state_before, Kept.IsKept}
use Rattle.cap_summary.specs.{Kept.content_steps, List, State, Step, ended, length, values, ◌++◌, ◌+◌, ◌≡◌}
use Rattle.cap_summary.proofs.{Judged.known_ends, Runs.same_steps, Searching.all_state, Searching.placed_parts, ap}
use Rattle.cap_summary.proofs.{length-append, rules, sym, ◌∙◌}
use Rattle.cap_summary.proofs.node.Node.+find_again.Goals as goal

pub find_again-requires : goal.find_again-requires
find_again-requires t c =
    let a : List Step = c.in-Both.a.value.steps in
    let b : List Step = c.in-Both.b.value.steps in
    let parts : a ++ b ≡ c.args.self.now.steps = sym (ap content_steps c.in-Both.is) ∙ same_steps c.self.view_is in
    let size : length a + length b ≡ length c.args.self.now.steps = sym (length-append a b) ∙ ap (λ r. length r) parts in
    let placed = (placed_parts c.args.again.now c.args.at a b (rw parts c.requires.placed)).0 in
    let passed : IsPassed c.args.again.now c.match-place_of.passed c.args.at = elim c.match-place_of.branch [
      | goal.in-Some+in_ok-keep_node+else-branch w ↦ rw w.passed-is (w.in_ok-keep_node.ensures.left w.if-branch.false)
      | goal.in_default w ↦ rw w.passed-is c.requires.passed
    ] in
    rw c.deref-left.ensures (search rules, (c.requires.again, (search rules, (placed, (c.requires.here, passed)))))

pub find_again-requires-in-Both : goal.find_again-requires-in-Both
find_again-requires-in-Both t c =
    let a : List Step = c.in-Both.a.value.steps in
    let b : List Step = c.in-Both.b.value.steps in
    let parts : a ++ b ≡ c.args.self.now.steps = sym (ap content_steps c.in-Both.is) ∙ same_steps c.self.view_is in
    let size : length a + length b ≡ length c.args.self.now.steps = sym (length-append a b) ∙ ap (λ r. length r) parts in
    let len : c.len-in-Both.result ≡ length a = cc in
    let both = placed_parts c.args.again.now c.args.at a b (rw parts c.requires.placed) in
    let kept : IsKept c.unwrap-first.result.now a =
    rw (c.unwrap-first.ensures, c.deref-left.ensures) at c.known.ensures.kept in
    let ends = known_ends c.unwrap-first.result.now a kept.knows (state_before c.args.before.now) in
    let here = ends ∙ ap (λ (s : State). ended s a) c.requires.here ∙ all_state (begins c.args.again.now)
    (new_steps c.args.again.now) a c.args.at (length a) both.0.same in
    let first = rw c.deref-left.ensures at c.in_ok-find_again-in-Both.ensures in
    rw (c.deref-right.ensures, len, c.deref-effect.ensures)
    (search rules, (c.requires.again, (search rules, (both.1, (here, first)))))

pub pass_run-requires : goal.pass_run-requires
pass_run-requires t c =
    let run : values c.deref.result.now ≡ c.args.self.now.steps =
    ap values c.deref.ensures.value ∙ sym (ap content_steps c.in-Run.is) ∙ same_steps c.self.view_is in
    let passed : IsPassed c.args.again.now c.match-place_of.passed c.args.at = elim c.match-place_of.branch [
      | goal.in-Some+in_ok-keep_node+else-branch w ↦ rw w.passed-is (w.in_ok-keep_node.ensures.left w.if-branch.false)
      | goal.in_default w ↦ rw w.passed-is c.requires.passed
    ] in
    record { again = c.requires.again; placed = rw run c.requires.placed; here = c.requires.here; passed = passed }
