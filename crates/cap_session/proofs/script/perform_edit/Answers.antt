use Rattle.cap_session.proofs.Performed.{edit_made, edit_refused}
use Rattle.cap_session.specs.declared.script.Reply.TheVariants.{Short}
use Rattle.cap_session.proofs.script.perform_edit.Goals as goal

pub returns-in-Err-clause-performs : goal.returns-in-Err-clause-performs
returns-in-Err-clause-performs c =
    (edit_refused _ _ _ c.in-Err.refused c.requires c.in-Err.ensures.refused c.in-Err.ensures.memory
    c.in-Err.ensures.unchanged)

pub returns-in-Ok-clause-performs : goal.returns-in-Ok-clause-performs
returns-in-Ok-clause-performs c =
    edit_made c.args.session.now c.edit.new.self c.args.edit.now (Short c.numbered.result) c.in-Ok.count c.requires
    c.in-Ok.ensures.accepted.0 c.in-Ok.ensures.accepted.1 c.numbered.ensures c.in-Ok.ensures.base
