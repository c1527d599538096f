use Rattle.std.proofs.Common.{◌≡◌, true, ap, sym, ◌∙◌}
use Rattle.std.specs.Prelude.{codes}
use Rattle.cap_rights.specs.Names.{table}
use Rattle.cap_rights.specs.Rights.{join}
use Rattle.cap_machine.specs.Flags.{all_known}
use Rattle.cap_machine.specs.Needs.{named}
use Rattle.cap_machine.proofs.OpenFlags.{reading_flags, reading_needs}
use Rattle.cap_machine.proofs.needs.openat_needs_of.Goals as goal

pub returns-then-all_known_of : goal.returns-then-all_known_of
unfolding named table
returns-then-all_known_of c =
    let all : all_known reading_flags c.args.flags.now ≡ true = sym c.all_known_of.ensures ∙ c.if-all_known_of.true in
    c.join.ensures.either
    ∙ ap (λ r. join r c.named.result) c.named-lookup.ensures.value
    ∙ ap (join (named (codes "CAP_LOOKUP"))) c.named.ensures.value
    ∙ sym (reading_needs c.args.flags.now all)
