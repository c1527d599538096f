-- Which descriptors an effect changes one by one, and whose it hands on, as the code has them.
use Rattle.std.specs.Prelude.{ℕ, ◌==◌, ◌&&◌, ◌||◌, Bool, false, if◌then◌else◌}
use Rattle.std.specs.List.{list_any}
use Rattle.std.specs.Ordering.{nat_cmp}
use Rattle.std.specs.BTreeSet.{BTreeSet, contains}
use Rattle.cap_trace.specs.Views.{fds_spelled}
use Rattle.cap_machine.specs.declared.rule.Effect.{Effect}
use Rattle.cap_machine.specs.declared.rule.Effect.TheVariants.{Start, Give, GiveTwo, Change, Fork, ForkAs}

abbrev pub has_fd : BTreeSet ℕ → ℕ → Bool
has_fd fds f = contains nat_cmp fds f

-- an effect of a line of process me gives or changes this descriptor of process p alone, or lists it
abbrev pub is_single : Effect → ℕ → ℕ → ℕ → Bool
is_single (Start fds) me p f = p == me && list_any (λ g. f == g) (fds_spelled fds.now)
is_single (Give g c) me p f = p == me && f == g
is_single (GiveTwo g h c) me p f = p == me && (f == g || f == h)
is_single (Change g op h) me p f = p == me && f == g
is_single effect me p f = false

-- the process from which process p has what else it has after an effect of a line of process me
abbrev pub source_of : Effect → ℕ → ℕ → ℕ
source_of (Fork child) me p = if p == child then me else p
source_of (ForkAs child g) me p = if p == child then me else p
source_of effect me p = p
