use Rattle.std.proofs.Common.{◌≡◌, ℕ, ◌==◌, ◌||◌, take}
use Rattle.std.specs.List.{list_any}
use Rattle.cap_limits.specs.Code.Singles.{has_fd}
use Rattle.cap_limits.proofs.standing.add_all.Given as goal

abbrev pub invariant-loop-fd : goal.invariant-loop-fd
invariant-loop-fd l =
    (f : ℕ) → has_fd l.fds f ≡ (list_any (λ g. f == g) (take l.fd-index l.more) || has_fd l.fn.fds f)
