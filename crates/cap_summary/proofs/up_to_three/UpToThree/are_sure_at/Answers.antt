use Rattle.cap_summary.proofs.{ap, arith, fun_ext, take_all, ◌∙◌}
use Rattle.cap_summary.specs.{Cell, declared.ask.Ask.Ask, list_all, Bool, List, length, ◌≡◌}
use Rattle.cap_summary.specs.Asks.{are_sure_at, asks_of, each_kind, has_kind}
use Rattle.cap_summary.proofs.up_to_three.UpToThree.are_sure_at.Goals as goal

pub returns : goal.returns
returns c =
    let asks : List Ask = asks_of c.args.self.now in
    let same : has_kind c.loop-ask.kinds ≡ are_sure_at asks c.args.at.now.pid c.args.at.now.key = fun_ext (λ cell.
    rw (take_all c.loop-ask.ask-index asks (omega (arith, ap (λ (l : List Ask). length l) c.as_slice-ask-items.ensures.asks))) at
    (c.loop-ask.invariant.sure cell)) in
    c.is_full.ensures ∙ ap (λ (p : Cell → Bool). list_all p each_kind) same
