use Rattle.std.proofs.Common.{◌∙◌, refl}
use Rattle.cap_machine.proofs.KnownTables.{state_known}
use Rattle.cap_machine.proofs.OneMore.{state_kept}
use Rattle.cap_machine.proofs.checker.Checker.over.Goals as goal

pub returns : goal.returns
returns c = λ s keeps. record {
  asked = refl;
  in_profile = refl;
  state = state_known c.args.table ∙ state_kept c.args.table s keeps;
  lines = refl;
  said = refl;
  text = c.new.ensures.items;
}
