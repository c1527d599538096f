-- What is left of cells that no process has any more.
use Rattle.std.specs.Prelude.{ℕ, ◌+◌, ◌*◌}
use Rattle.std.specs.Vec.{vec_len}
use Rattle.cap_machine.specs.declared.cells.deferred_free.DeferredFree.{DeferredFree}

-- at most so many nodes are still to be freed: a node of the lowest kind is one, and any other at most one more than
-- eight of the next lower kind
unfoldable pub left_at_most : DeferredFree → ℕ
left_at_most deferred_free = 37449 * vec_len deferred_free.highs + 4681 * vec_len deferred_free.upper + 585 * vec_len
    deferred_free.regions
    + 73 * vec_len deferred_free.middle + 9 * vec_len deferred_free.blocks + vec_len deferred_free.lower
