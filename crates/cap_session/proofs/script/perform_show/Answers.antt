use Rattle.std.proofs.Common.{refl}
use Rattle.cap_session.specs.Code.Performs.{state_of}
use Rattle.cap_session.specs.Commands.{show_line}
use Rattle.cap_session.specs.Refusal.{line_feed}
use Rattle.cap_session.specs.Shown.{shown}
use Rattle.cap_session.specs.declared.script.Reply.TheVariants.{Long}
use Rattle.cap_session.proofs.Performed.{shown_is}
use Rattle.cap_session.proofs.script.perform_show.Goals as goal

pub returns : goal.returns
returns c =
    shown_is c.args.session.now.setting (state_of c.args.session.now) (show_line c.args.position) line_feed
    c.in_ok-text.text.items (shown c.args.session.now.trace c.args.position) (Long c.push.new.self) refl
    c.in_ok-text.ensures.text c.in_ok-push.ensures.items
