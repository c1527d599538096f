use Rattle.std.proofs.Common.{rules, tests, ◌==◌, map}
use Rattle.std.proofs.lemmas.Iterator.Search.{all_from_yields_List}
use Rattle.std.proofs.lemmas.Iterator.Splits.{YieldsList-from_slice_split}
use Rattle.cap_machine.specs.Flags.{is_one_of}
use Rattle.cap_machine.proofs.flags.all_known_of.Goals as goal

pub returns : goal.returns
returns c =
    all_from_yields_List (is_one_of (map (λ name. name.now) c.args.known.now)) _ _ _ c.all.ensures.ran
    (YieldsList-from_slice_split _ (λ x. x == 124) c.args.flags.now c.split.ensures.rest c.split.ensures.done
    c.split.ensures.closure (λ x b q k. search (rules, tests)))
    (λ x b q k. search (rules, tests))
