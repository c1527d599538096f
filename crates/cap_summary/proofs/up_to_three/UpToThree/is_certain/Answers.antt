use Rattle.std.proofs.{Common.tests, lemmas.Iterator.Search.any_from_yields_List, lemmas.Iterator.YieldsList-from_slice}
use Rattle.cap_summary.specs.{Asks.asks_of, List, declared.ask.Ask.Ask, list_any, ◌≡◌}
use Rattle.cap_summary.proofs.{Together.is_certain_in, Together.none_holds, Together.one_certain, rules, sym, ◌∙◌}
use Rattle.cap_summary.proofs.up_to_three.UpToThree.is_certain.Goals as goal

pub returns : goal.returns
returns c =
    let asks : List Ask = asks_of c.args.self.now in
    let one : c.any.result ≡ list_any (is_certain_in asks) asks =
    any_from_yields_List (is_certain_in asks) _ _ _ c.any.ensures.ran
    (YieldsList-from_slice asks (rw c.as_slice.ensures.asks at c.iter.ensures.rest))
    (λ x b q k. search (rules, tests)) in
    record { always = λ is. one_certain asks asks (sym one ∙ is); fails = λ is. none_holds asks (sym one ∙ is) }
