use Rattle.std.proofs.{lemmas.List.Sorted.answers_always}
use Rattle.cap_summary.proofs.{rules, SortedFound.searched}
use Rattle.cap_summary.proofs.sorted.map.place_of.Goals as goal

-- the closure gives an entry's key
pub returns : goal.returns
returns g c =
    let facts = c.binary_search_by_key.ensures in
    searched c.args.entries.now c.requires c.args.key c.binary_search_by_key.result facts.bound
    (facts.position (λ entry. entry.0) (answers_always _ _ _ (λ f a r g called. search rules)))
