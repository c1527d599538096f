use Rattle.std.proofs.Common.{◌++◌, ◌∙◌, ap, get_or, ℕ, List, sym}
use Rattle.std.proofs.lemmas.List.{get_or_default, drop_all}
use Rattle.cap_trace.specs.Code.Escaping.{escaped}
use Rattle.cap_trace.proofs.EscapedBytes.{escaped_more, escaped_end}
use Rattle.cap_trace.proofs.escapes.escaped_bytes.Goals as goal

pub loop-byte-preserved : goal.loop-byte-preserved
loop-byte-preserved c =
    let x : ℕ = get_or c.args.bytes.now c.loop-byte.byte-index 0 in
    escaped_more c.args.bytes.now c.loop-byte.byte-index x c.loop-byte.items.items c.put_escaped.new.out.items
    (escaped c.args.bytes.now)
    c.loop-byte-test.true (get_or_default c.args.bytes.now c.loop-byte.byte-index 0 x c.loop-byte-test.true)
    c.loop-byte.invariant c.in_ok-put_escaped.ensures

pub returns : goal.returns
returns c =
    escaped_end c.loop-byte.items.items (escaped c.args.bytes.now)
    (ap (λ (s : List ℕ). c.loop-byte.items.items ++ escaped s)
    (sym (drop_all c.loop-byte.byte-index c.args.bytes.now c.loop-byte-test.false)) ∙ c.loop-byte.invariant)
