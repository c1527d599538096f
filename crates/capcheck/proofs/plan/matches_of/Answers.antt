use Rattle.std.proofs.Common.{refl, ap, ◌∙◌, ◌≡◌, true, map}
use Rattle.std.proofs.lemmas.Result.{IfOk-weaker}
use Rattle.clap.specs.Words.{App, fault_of, is_simple, is_simple_and_free, subcommand_of}
use Rattle.clap.proofs.FaultLemmas.{fails_as}
use Rattle.capcheck.specs.CommandLine.{capcheck}
use Rattle.capcheck.proofs.plan.matches_of.Goals as goal

simple : is_simple_and_free capcheck ≡ true
simple = refl

plain : is_simple capcheck ≡ true
plain = refl

pub returns-clause-found : goal.returns-clause-found
returns-clause-found c =
    let app = c.in_ok-command.ensures in
    let words = map (λ w. w.now) c.args.words.now in
    IfOk-weaker c.try_get_matches_from.result _ _
    (λ m h. (h (ap is_simple app ∙ plain)).1 ∙ ap (λ (a : App). subcommand_of a words) app)
    c.try_get_matches_from.ensures.matches

pub returns-clause-kinds : goal.returns-clause-kinds
returns-clause-kinds c =
    let app = c.in_ok-command.ensures in
    let words = map (λ w. w.now) c.args.words.now in
    fails_as c.try_get_matches_from.result _ _ (ap (λ (a : App). fault_of a words) app)
    (c.try_get_matches_from.ensures.kinds (ap is_simple_and_free app ∙ simple))
