use Rattle.cap_session.specs.Code.Performs.{state_of}
use Rattle.cap_session.specs.declared.script.Reply.TheVariants.{Long}
use Rattle.cap_session.proofs.Performed.{explained_is}
use Rattle.cap_session.proofs.script.perform_explain.Goals as goal

pub returns : goal.returns
returns c = explained_is c.args.session.now.setting (state_of c.args.session.now) c.args.position
    c.in_ok-line.line.links c.in_ok-line.line.text.items (Long c.put_between.new.out) c.in_ok-line.ensures.text
    c.in_ok-line.ensures.links c.in_ok-put_between.ensures
