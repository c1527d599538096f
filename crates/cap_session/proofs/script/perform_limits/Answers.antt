use Rattle.std.proofs.Common.{◌++◌, ◌∙◌, ap}
use Rattle.std.specs.Prelude.{codes, decimal}
use Rattle.cap_session.specs.Code.Performs.{state_of}
use Rattle.cap_session.specs.Refusal.{line_feed}
use Rattle.cap_session.specs.Trace.{counted_lines}
use Rattle.cap_session.specs.declared.script.Reply.TheVariants.{Long}
use Rattle.cap_session.proofs.Performed.{limits_are}
use Rattle.cap_session.proofs.script.perform_limits.Goals as goal

pub returns : goal.returns
returns c =
    let script = c.in_ok-text.text.items in
    limits_are c.args.session.now.setting (state_of c.args.session.now) c.args.at script (Long c.put_between.new.out)
    c.in_ok-text.ensures.text (λ out. let refused = c.in_ok-text.ensures.position.1 out in cc)
    (c.in_ok-put_between.ensures ∙ ap (λ n. script ++ (codes "limits " ++ (decimal n ++ line_feed)))
    (c.count_lines-count.ensures ∙ ap counted_lines c.as_slice.ensures.value))
