use Rattle.std.proofs.Common.{◌++◌, ◌∙◌, ap, get_or, map, ℕ, List}
use Rattle.std.specs.Fmt.{decimal}
use Rattle.std.specs.List.{join_with_byte}
use Rattle.std.proofs.lemmas.List.{get_or_default}
use Rattle.cap_trace.specs.Code.Writing.{with_commas}
use Rattle.cap_trace.proofs.Written.{put_first, on_ok, rest_is, err_kept, fds_text}
use Rattle.cap_trace.proofs.write.put_fds.Goals as goal

pub returns-in_ok-put_number-in-len1-up-clause-ok : goal.returns-in_ok-put_number-in-len1-up-clause-ok
returns-in_ok-put_number-in-len1-up-clause-ok c =
    let x : ℕ = get_or c.args.fds.now 0 0 in
    on_ok c.put_other_fds.result _ _
    (λ h. put_first decimal c.args.fds.now x c.args.out.now.items c.put_number.new.out.items
    c.put_other_fds.new.out.items c.in-len1-up.len_at_least
    (get_or_default c.args.fds.now 0 0 x c.in-len1-up.len_at_least)
    (c.in_ok-put_number-in-len1-up.ensures.ok ∙ ap (λ (n : ℕ). c.args.out.now.items ++ decimal n) c.from.ensures)
    (h ∙ ap (λ (rest : List ℕ). c.put_number.new.out.items ++ with_commas (map decimal rest)) (rest_is c.args.fds.now))
    ∙ ap (λ (ts : List (List ℕ)). c.args.out.now.items ++ join_with_byte 44 ts) (fds_text c.args.fds.now))
    c.put_other_fds.ensures.ok

pub returns-in_ok-put_number-in-len1-up-clause-err : goal.returns-in_ok-put_number-in-len1-up-clause-err
returns-in_ok-put_number-in-len1-up-clause-err c =
    err_kept c.put_other_fds.result c.args.out.now.items c.put_number.new.out.items
    c.put_other_fds.new.out.items _ c.in_ok-put_number-in-len1-up.ensures.ok c.put_other_fds.ensures.err
