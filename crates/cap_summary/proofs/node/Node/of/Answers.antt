use Rattle.cap_summary.specs.{Composing.NodeView, List, length, Step, Kept.content_steps, refl, ◌≡◌}
use Rattle.cap_summary.proofs.{arith, Keeping.node_keeps, Keeping.node_names, Keeping.keeps_parts, Keeping.stands_for}
use Rattle.cap_summary.proofs.node.Node.of.Goals as goal

pub invariant_of-node : goal.invariant_of-node
invariant_of-node c =
    let t : List Step = content_steps c.args.content in
    let within = rw c.len-len.ensures at c.kept-known.ensures.within in
    let large = rw c.len-len.ensures at c.kept-known.ensures.large in
    record {
      len = c.len-len.ensures;
      parts = c.requires.parts;
      processes = c.requires.processes;
      below = keeps_parts c.args.known c.kept-known.result c.args.content (length t) c.requires.kept within;
      few = omega (arith, c.requires.few, c.len-len.ensures);
      known = node_keeps c.args.known c.kept-known.result t c.requires.knows c.requires.settled within;
      many = node_names c.args.known c.kept-known.result t c.requires.knows c.requires.settled c.requires.many large;
    }

pub returns-clause-stands : goal.returns-clause-stands
returns-clause-stands c =
    let t : List Step = content_steps c.args.content in
    let view : NodeView = record { steps = t; known = c.kept-known.result } in
    let is : c.in_ok-new.field-0.value ≡ view = c.in_ok-new.ensures.ok in
    let within = rw c.len-len.ensures at c.kept-known.ensures.within in
    let large = rw c.len-len.ensures at c.kept-known.ensures.large in
    rw is (stands_for view c.kept-known.result t refl refl
    (node_keeps c.args.known c.kept-known.result t c.requires.knows c.requires.settled within)
    (node_names c.args.known c.kept-known.result t c.requires.knows c.requires.settled c.requires.many large))
