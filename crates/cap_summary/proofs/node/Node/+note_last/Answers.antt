use Rattle.cap_summary.proofs.{LastPlaces.all_noted, on_ok_weaker}
use Rattle.cap_summary.specs.{Lasts.AreNotedFor, Lasts.pids_of, values}
use Rattle.cap_summary.proofs.{Agreeing.noted_both, Agreeing.noted_later, Runs.same_steps, ap, arith, subst, sym, ◌∙◌}
use Rattle.cap_summary.specs.{Kept.content_steps, Positions.AreNoted, Step, List, length, ◌++◌, ◌+◌, ◌≡◌}
use Rattle.cap_summary.proofs.node.Node.+note_last.Goals as goal

pub returns-in_ok-note_last-in-Both-2-clause-noted : goal.returns-in_ok-note_last-in-Both-2-clause-noted
returns-in_ok-note_last-in-Both-2-clause-noted t c =
    let a : List Step = c.in-Both.a.value.steps in
    let b : List Step = c.in-Both.b.value.steps in
    let parts : a ++ b ≡ c.args.self.now.steps = sym (ap content_steps c.in-Both.is) ∙ same_steps c.self.view_is in
    let len : c.len.result ≡ length a = rw c.deref-left.ensures at c.len.ensures.count in
    let first : AreNoted c.note_last.new.last c.args.at a =
    rw c.deref-left.ensures at c.in_ok-note_last-in-Both.ensures.noted in
    let second : AreNoted c.note_last-in-Both.new.last (c.args.at + c.len.result) b =
    rw c.deref-right.ensures at c.in_ok-note_last-in-Both-2.ensures.noted in
    subst (λ (r : List Step). AreNoted c.note_last-in-Both.new.last c.args.at r) parts
    (noted_both c.note_last-in-Both.new.last c.args.at c.len.result a b len (noted_later c.note_last.new.last
    c.note_last-in-Both.new.last c.args.at a c.in_ok-note_last-in-Both-2.ensures.kept first) second)

pub returns-in-Run-clause-noted : goal.returns-in-Run-clause-noted
returns-in-Run-clause-noted t c =
    let run : List Step = values c.in-Run.field-0.items in
    let steps : run ≡ c.args.self.now.steps = sym (ap content_steps c.in-Run.is) ∙ same_steps c.self.view_is in
    let pids : c.in-Run.pids.items ≡ pids_of run = rw c.in-Run.is at c.self.invariant.processes in
    on_ok_weaker c.note_run.result (λ noted. subst (AreNoted c.note_run.new.self c.args.at) steps
    (all_noted c.note_run.new.self c.args.at run (subst (AreNotedFor c.note_run.new.self c.args.at) pids
    (rw c.deref.ensures.value at noted)))) c.note_run.ensures.noted
