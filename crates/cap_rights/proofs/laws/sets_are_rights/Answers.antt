use Rattle.cap_rights.proofs.Members.{all_holds, none_holds, all_named_hold, full_is_all, same_rights}
use Rattle.cap_rights.proofs.laws.sets_are_rights.Goals as goal

pub returns : goal.returns
returns c = record {
  all = all_holds;
  none = none_holds;
  named = all_named_hold;
  full = full_is_all;
  same = same_rights;
}
