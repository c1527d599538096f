-- Two states that agree on what is asked.
use Rattle.std.specs.Prelude.{All, List, [], refl, ◌||◌, ◌∷◌, ◌≡◌}
use Rattle.cap_summary.specs.{Asks.AgreeOn, Asks.AreOneTo, Asks.IsAtPlace, Asks.any_holds, Asks.holds, Asks.passes}
use Rattle.cap_summary.specs.{Cell, Keys.Cells, Keys.seen_cell, declared.ask.Ask.Ask, declared.view.Seen.Seen}
use Rattle.cap_summary.proofs.{All-head, All-tail, ap, inl, inr, or_parts, sym, ◌∙◌}

-- an ask holds in both or in neither
agree_holds : (s r : Cells) (ask : Ask) → AgreeOn s r ask → holds s ask ≡ holds r ask
agree_holds s r ask (inl same) = ap (passes ask) same
agree_holds s r ask (inr none) = none.0 ∙ sym none.1

-- and so does one of some
pub agree_any : (s r : Cells) (asks : List Ask) → All (AgreeOn s r) asks → any_holds s asks ≡ any_holds r asks
agree_any s r [] all = refl
agree_any s r (ask ∷ asks) all = rw (
  agree_holds s r ask (All-head (AgreeOn s r) ask asks all),
  agree_any s r asks (All-tail (AgreeOn s r) ask asks all),
) refl

-- where they agree on one that holds where one of two others at its place does, they agree on these
pub agree_either : (s r : Cells) (a b x : Ask) → x.pid ≡ a.pid → x.key ≡ a.key → IsAtPlace a b
    → ((cells : Cells) → holds cells x ≡ (holds cells a || holds cells b)) → AgreeOn s r x
    → AgreeOn s r a × AgreeOn s r b
agree_either s r a b x pid key at either (inl same) =
    let own : s a.pid a.key ≡ r a.pid a.key = rw (pid, key) at same in
    (inl own, inl (rw (at.pid, at.key) at own))
agree_either s r a b x pid key at either (inr none) =
    let first = or_parts (holds s a) (holds s b) (sym (either s) ∙ none.0) in
    let second = or_parts (holds r a) (holds r b) (sym (either r) ∙ none.1) in
    (inr (first.0, second.0), inr (first.1, second.1))

-- where they agree on what an ask is before a segment, its cell after it is one to it
pub agree_seen : (ask before : Ask) (seen : Seen) (op : Cell → Cell)
    → ((cells : Cells) → seen_cell cells seen ≡ op (cells before.pid before.key))
    → ((c : Cell) → passes before c ≡ passes ask (op c)) → (s r : Cells) → AgreeOn s r before
    → AreOneTo ask (seen_cell s seen) (seen_cell r seen)
agree_seen ask before seen op is same s r (inl one) = inl (is s ∙ ap op one ∙ sym (is r))
agree_seen ask before seen op is same s r (inr none) = inr (
  ap (passes ask) (is s) ∙ sym (same (s before.pid before.key)) ∙ none.0,
  ap (passes ask) (is r) ∙ sym (same (r before.pid before.key)) ∙ none.1,
)
