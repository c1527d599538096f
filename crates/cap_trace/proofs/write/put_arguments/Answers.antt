use Rattle.std.proofs.Common.{◌++◌, ◌∙◌, ap, map, List}
use Rattle.cap_trace.specs.declared.args.ArgRef.{ArgRef}
use Rattle.cap_trace.specs.Code.Writing.{shown_text, with_commas}
use Rattle.cap_trace.proofs.Written.{put_first, on_ok, rest_is}
use Rattle.cap_trace.proofs.write.put_arguments.Goals as goal

pub returns-in_ok-put_argument-in-len1-up-clause-ok : goal.returns-in_ok-put_argument-in-len1-up-clause-ok
returns-in_ok-put_argument-in-len1-up-clause-ok c =
    on_ok c.put_others.result _ _
    (λ h. put_first shown_text c.args.arguments.now c.first-item.result c.args.out.now.items
    c.put_argument.new.out.items c.put_others.new.out.items c.in-len1-up.len_at_least c.first-item.is
    c.in_ok-put_argument-in-len1-up.ensures.ok (h ∙ ap (λ (rest : List ArgRef). c.put_argument.new.out.items
    ++ with_commas (map shown_text rest)) (rest_is c.args.arguments.now))) c.put_others.ensures.ok
