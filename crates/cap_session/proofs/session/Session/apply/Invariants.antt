use Rattle.std.proofs.Common.{◌≤◌, length, take, vec_capacity}
use Rattle.cap_session.specs.Joins.{JoinsAfter}
use Rattle.cap_session.proofs.Applied.{HasMade}
use Rattle.cap_session.proofs.session.Session.apply.Given as goal

abbrev pub invariant-loop-edit : goal.invariant-loop-edit
invariant-loop-edit l = record {
  made : HasMade l.fn.self l.self (take l.edit-index l.edits) l.answered.items;
  counted : JoinsAfter l.fn.self l.self l.answered.items;
  room : length l.edits ≤ vec_capacity l.answered;
}
