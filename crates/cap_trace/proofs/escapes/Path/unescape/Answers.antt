use Rattle.std.proofs.Common.{◌≡◌, [], true, ap, sym, subst, ◌∙◌, List, ℕ, ◌++◌}
use Rattle.std.proofs.lemmas.List.{append-nil}
use Rattle.cap_trace.specs.Fields.{are_items}
use Rattle.cap_trace.specs.Code.Escaping.{escaped}
use Rattle.cap_trace.proofs.PathBytes.{Unescaped, unescaped_none, unescaped_more, first_none}
use Rattle.cap_trace.proofs.escapes.Path.unescape.Goals as goal

pub loop-byte-init : goal.loop-byte-init
loop-byte-init c =
    let text = c.as_slice-text.ensures.value in
    let items : are_items c.as_slice-text.result.now ≡ true = ap are_items text ∙ c.self.invariant in
    let whole : c.as_slice-text.result.now ≡ c.args.self.now = text ∙ c.self.view_is in
    subst (λ (bs : List ℕ). Unescaped bs c.as_slice-text.result.now c.args.self.now) (sym c.new-bytes.ensures.items)
    (subst (λ (all : List ℕ). Unescaped [] c.as_slice-text.result.now all) whole
    (unescaped_none c.as_slice-text.result.now items))

pub loop-byte-preserved : goal.loop-byte-preserved
loop-byte-preserved c =
    subst (λ (bs : List ℕ). Unescaped bs c.in-Some.rest.now c.args.self.now) (sym c.in_ok-push.ensures.items)
    (unescaped_more c.loop-byte.bytes.items c.loop-byte.text.now c.args.self.now c.loop-byte.invariant c.in-Some.byte
    c.in-Some.rest.now c.in-Some.ensures).0

pub loop-byte-smaller : goal.loop-byte-smaller
loop-byte-smaller c = (unescaped_more c.loop-byte.bytes.items c.loop-byte.text.now c.args.self.now c.loop-byte.invariant
    c.in-Some.byte c.in-Some.rest.now c.in-Some.ensures).1

pub returns : goal.returns
returns c =
    let none : c.loop-byte.text.now ≡ [] =
    first_none c.loop-byte.text.now c.loop-byte.invariant.items c.in_default.ensures in (
      sym c.loop-byte.invariant.whole ∙ ap (λ (s : List ℕ). escaped c.loop-byte.bytes.items ++ s) none
          ∙ append-nil (escaped c.loop-byte.bytes.items),
      c.loop-byte.invariant.some,
    )
