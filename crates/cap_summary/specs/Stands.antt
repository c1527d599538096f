-- What a summary stands for.
use Rattle.std.specs.Prelude.{length, max, ◌≤◌}
use Rattle.std.proofs.Common.{arith, length-append}
use Rattle.cap_summary.specs.{Kept.HasParts, Kept.StandsFor, Kept.content_steps, List, Option, Step, declared.known.Known.Known}
use Rattle.cap_summary.specs.declared.{node.Content.Content, node.Node.TheDeep.deep-Content, summary.Summary.Summary}

-- the steps that a summary sums up, from the first
abbrev pub summed_up : Summary → List Step
summed_up z = z.node.value.steps

-- what is kept of them
abbrev pub kept_of : Summary → Option Known
kept_of z = z.node.value.known

-- a summary stands for a list of steps as its node does: it has just these, says what they do and where something is
-- found in them, and says so wherever they name little
abbrev pub Stands : Summary → List Step → Type 0
Stands z = StandsFor z.node.value

-- each part is shorter than its node
pub deep_le_length : (c : Content) → HasParts c → max (deep-Content c) 0 ≤ length (content_steps c)
deep_le_length (Content.Run run pids) has = omega arith
deep_le_length (Content.Both a b) has = omega (arith, length-append a.value.steps b.value.steps)
