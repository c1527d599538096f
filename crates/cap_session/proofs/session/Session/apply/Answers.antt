use Rattle.std.proofs.Common.{rules}
use Rattle.cap_session.proofs.Applied.{does, made_none, made_next}
use Rattle.cap_session.proofs.JoinsCounted.{counted_none, counted_next}
use Rattle.cap_session.proofs.session.Session.apply.Goals as goal

pub loop-edit-init : goal.loop-edit-init
loop-edit-init c = record {
  made = rw c.in_ok-answered.ensures.items (made_none c.args.self.now);
  counted = rw c.in_ok-answered.ensures.items (counted_none c.args.self.now);
  room = search rules;
}

pub loop-edit-preserved : goal.loop-edit-preserved
loop-edit-preserved c =
    let ask = c.edit-answer.ensures in
    let pushed = rw c.unwrap.ensures at c.push.ensures.items in
    record {
      made = rw pushed (made_next _ _ _ _ _ _ _ _ c.loop-edit.invariant.made c.loop-edit-test.true ask.limit ask.setting
          (does _ _ _ _ ask.accepted ask.refused ask.memory ask.unchanged));
      counted = rw pushed (counted_next _ _ _ _ _ _ c.loop-edit.invariant.counted ask.accepted ask.joins ask.unchanged);
      room = search rules;
    }
