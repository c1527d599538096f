use Rattle.std.proofs.Common.{◌≡◌, arith, ap, ◌∙◌, sym, nat_cmp}
use Rattle.std.specs.Option.{option_map_or}
use Rattle.cap_rights.specs.Rights.{join}
use Rattle.std.proofs.lemmas.Grind.{common_steps}
use Rattle.std.specs.BTreeMap.{is_at}
use Rattle.cap_limits.specs.declared.live.fd_rights.ByFlag.{ByFlag}
use Rattle.cap_limits.specs.Code.Wanted.{flag_rights, rights_of}
use Rattle.cap_limits.proofs.JoinedRights.{moved_over, join_none, none_in_empty, is_empty_from}
use Rattle.cap_limits.proofs.live.fd_rights.FdRights.add_all.Goals as goal

pub loop-entry-preserved : goal.loop-entry-preserved
loop-entry-preserved c = λ f x.
    moved_over (λ g. rights_of c.loop-entry.self g x) (λ g. rights_of c.loop-entry.other g x)
    (λ g. rights_of c.add.new.self g x) (λ g. rights_of (record { map = c.pop_first.new.self }) g x)
    c.in-Some.entry.0 (flag_rights c.in-Some.entry.1 x) f (c.in_ok-add.ensures f x)
    (ap (λ o. option_map_or (λ (own : ByFlag). flag_rights own x) o 0) c.in-Some.ensures.value)
    (ap (λ o. option_map_or (λ (own : ByFlag). flag_rights own x) o 0) c.in-Some.ensures.updates.1)
    (λ ne. ap (λ o. option_map_or (λ (own : ByFlag). flag_rights own x) o 0)
    (c.in-Some.ensures.updates.2 f (grind (arith, common_steps, ne))))
    ∙ c.loop-entry.invariant f x

pub returns-clause-added : goal.returns-clause-added
returns-clause-added c = λ f x.
    let empty : rights_of c.loop-entry.other f x ≡ 0 =
    none_in_empty (is_at (nat_cmp f)) c.loop-entry.other.map.entries x
    (is_empty_from _ c.in_default.ensures.variant.1) in
    sym (join_none (rights_of c.loop-entry.self f x)) ∙ ap (join (rights_of c.loop-entry.self f x)) (sym empty)
    ∙ c.loop-entry.invariant f x
