use Rattle.std.specs.Prelude.{refl, ◌≡◌}
use Rattle.cap_summary.specs.{Closed, Listing.moved, State, Unknown, start_state}
use Rattle.cap_summary.specs.declared.base.DefaultCells.{DefaultCells}
use Rattle.cap_summary.proofs.{Taking.is_put, Taking.is_set, Taking.others, Taking.own_others, Taking.within}
use Rattle.cap_summary.proofs.{on_ok_weaker, ◌∙◌}
use Rattle.cap_summary.proofs.effect.Effect.take_row.Goals as goal

pub put-requires : goal.put-requires
put-requires c = rw (c.deref.ensures.value, c.in_ok-mode.ensures.cells)
    (within (moved c.args.self.now (start_state c.args.machine.now)) c.args.pid c.args.row.now.cells c.requires.lists.within)

pub put-requires-in-Closed : goal.put-requires-in-Closed
put-requires-in-Closed c = rw (c.deref-in-Closed.ensures.value, c.in_ok-mode.ensures.cells)
    (within (moved c.args.self.now (start_state c.args.machine.now)) c.args.pid c.args.row.now.cells c.requires.lists.within)

pub set-requires : goal.set-requires
set-requires c = rw (c.deref-in_default.ensures.value, c.in_ok-mode.ensures.cells)
    (within (moved c.args.self.now (start_state c.args.machine.now)) c.args.pid c.args.row.now.cells c.requires.lists.within)

pub returns-in-Unknown : goal.returns-in-Unknown
returns-in-Unknown c =
    let s : State = start_state c.args.machine.now in
    on_ok_weaker c.put.result (λ is. rw is (is_put c.args.self.now c.args.pid c.args.row.now s c.requires.row Unknown
    c.in_ok-mode.mode c.deref.result.now
    (λ f. others s c.args.pid c.args.row.now f Unknown c.requires.lists.not_closed (rw c.in-Unknown.is refl))
    c.in_ok-mode.ensures.mode (c.deref.ensures.value ∙ c.in_ok-mode.ensures.cells))) c.put.ensures

pub returns-in-Closed : goal.returns-in-Closed
returns-in-Closed c =
    let s : State = start_state c.args.machine.now in
    on_ok_weaker c.put-in-Closed.result (λ is. rw is (is_put c.args.self.now c.args.pid c.args.row.now s c.requires.row
    Closed c.in_ok-mode.mode c.deref-in-Closed.result.now
    (λ f. others s c.args.pid c.args.row.now f Closed c.requires.lists.not_closed (rw c.in-Closed.is refl))
    c.in_ok-mode.ensures.mode (c.deref-in-Closed.ensures.value ∙ c.in_ok-mode.ensures.cells))) c.put-in-Closed.ensures

pub returns : goal.returns
returns c =
    let s : State = start_state c.args.machine.now in
    let own : c.args.row.now.base.others ≡ DefaultCells.Own = own_others c.args.row.now.base.others
    c.requires.lists.others c.in_default.not-Unknown c.in_default.not-Closed in
    on_ok_weaker c.set.result (λ is. rw is (is_set c.args.self.now c.args.pid c.args.row.now s c.requires.row
    c.in_ok-mode.mode c.deref-in_default.result.now
    (λ f. others s c.args.pid c.args.row.now f (s.cell c.args.pid f) c.requires.lists.not_closed (rw own refl))
    c.in_ok-mode.ensures.mode (c.deref-in_default.ensures.value ∙ c.in_ok-mode.ensures.cells))) c.set.ensures
