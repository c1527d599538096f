-- What an effect does to one cell and to one mode; me is the process of the line.
use Rattle.std.specs.Prelude.{Bool, false, true, ℕ, ◌==◌, ◌&&◌, ◌||◌, nat_le, if◌then◌else◌, List, [], ◌∷◌}
use Rattle.cap_trace.specs.Entry.{IsFd, Arg, an_fd}
use Rattle.cap_trace.specs.Views.{fds_spelled}
use Rattle.cap_trace.specs.declared.line.Answer.{Answer}
use Rattle.cap_trace.specs.declared.line.Answer.TheVariants as answers
use Rattle.cap_machine.specs.declared.cell.Cell.{Cell}
use Rattle.cap_machine.specs.declared.cell.Cell.TheVariants.{Unknown, Closed}
use Rattle.cap_machine.specs.declared.cell.Mode.{Mode}
use Rattle.cap_machine.specs.declared.cell.Mode.TheVariants.{Inside, Outside, Unsure}
use Rattle.cap_machine.specs.declared.rule.Effect.{Effect}
use Rattle.cap_machine.specs.declared.rule.Effect.TheVariants.{Keep, Start, Exit, Forget, Exec, CloseFrom, Enter, Give}
use Rattle.cap_machine.specs.declared.rule.Effect.TheVariants.{GiveTwo, Change, Fork, ForkAs}
use Rattle.cap_machine.specs.Op.{applied, same, exec}
use Rattle.cap_machine.specs.Touch.{Touch, kept, given, taken, Turn, stays, turns, follows, started}

abbrev pub effect_touch : Effect → ℕ → ℕ → ℕ → Touch
effect_touch Keep me p f = kept
effect_touch Enter me p f = kept
effect_touch (Start fds) me p f = if p == me then given (started (fds_spelled fds.now) f) else kept
effect_touch Exit me p f = if p == me then given Unknown else kept
effect_touch Forget me p f = if p == me then given Unknown else kept
effect_touch Exec me p f = if p == me then taken exec me f else kept
effect_touch (CloseFrom n) me p f = if p == me && nat_le n f then given Closed else kept
effect_touch (Give g c) me p f = if p == me && f == g then given c else kept
effect_touch (GiveTwo g h c) me p f = if p == me && (f == g || f == h) then given c else kept
effect_touch (Change g op h) me p f = if p == me && f == g then taken op me h else kept
effect_touch (Fork child) me p f = if p == child then taken same me f else kept
effect_touch (ForkAs child g) me p f = if (p == me || p == child) && f == g then given Unknown
    else (if p == child then taken same me f else kept)

abbrev pub effect_turn : Effect → ℕ → ℕ → Turn
effect_turn (Start fds) me p = if p == me then turns Outside else stays
effect_turn Exit me p = if p == me then turns Unsure else stays
effect_turn Enter me p = if p == me then turns Inside else stays
effect_turn (Fork child) me p = if p == child then follows me else stays
effect_turn (ForkAs child g) me p = if p == child then follows me else stays
effect_turn Keep me p = stays
effect_turn Forget me p = stays
effect_turn Exec me p = stays
effect_turn (CloseFrom n) me p = stays
effect_turn (Give g c) me p = stays
effect_turn (GiveTwo g h c) me p = stays
effect_turn (Change g op h) me p = stays

-- the child that an effect makes
abbrev pub is_child : Effect → ℕ → Bool
is_child (Fork child) p = p == child
is_child (ForkAs child g) p = p == child
is_child effect p = false

-- it makes no child, and leaves something of its process known
abbrev pub IsOwn : Effect → Type 0
IsOwn Exit = ⊥
IsOwn Forget = ⊥
IsOwn (Fork child) = ⊥
IsOwn (ForkAs child g) = ⊥
IsOwn _ = Unit {0}

-- what such an effect of its own line makes of the cells of a process, and of its mode
abbrev pub own_cell : Effect → (ℕ → Cell) → ℕ → Cell
own_cell (Start fds) cell f = started (fds_spelled fds.now) f
own_cell Exec cell f = applied exec (cell f)
own_cell (CloseFrom n) cell f = if nat_le n f then Closed else cell f
own_cell (Give g c) cell f = if f == g then c else cell f
own_cell (GiveTwo g h c) cell f = if f == g || f == h then c else cell f
own_cell (Change g op h) cell f = if f == g then applied op (cell h) else cell f
own_cell _ cell f = cell f

abbrev pub own_mode : Effect → Mode → Mode
own_mode (Start fds) m = Outside
own_mode Enter m = Inside
own_mode _ m = m

-- the descriptors that it writes, or closes from, are within the limit
abbrev pub IsWithin : Effect → Type 0
IsWithin (CloseFrom n) = IsFd n
IsWithin (Give g c) = IsFd g
IsWithin (GiveTwo g h c) = IsFd g × IsFd h
IsWithin (Change g op h) = IsFd g
IsWithin (ForkAs child g) = IsFd g
IsWithin _ = Unit {0}

-- so are those among arguments
abbrev pub ArgWithin : Arg → Type 0
ArgWithin (an_fd f) = IsFd f
ArgWithin _ = Unit {0}

abbrev pub FdsWithin : List Arg → Type 0
FdsWithin [] = Unit {0}
FdsWithin (a ∷ others) = ArgWithin a × FdsWithin others

-- the effect gives single cells within the limit a value, and nothing else
abbrev pub OnlyCells : Effect → Type 0
OnlyCells Keep = Unit {0}
OnlyCells (Give g c) = IsFd g
OnlyCells (GiveTwo g h c) = IsFd g × IsFd h
OnlyCells (Change g op h) = IsFd g
OnlyCells _ = ⊥

-- the effect hands a whole table of cells on, or closes all of one from a descriptor on
abbrev pub is_on_table : Effect → Bool
is_on_table Exec = true
is_on_table (CloseFrom n) = true
is_on_table (Fork child) = true
is_on_table (ForkAs child g) = true
is_on_table _ = false

-- what a call made is a descriptor, or a pid, and none is as large as the largest descriptor
abbrev pub FitsMade : Answer → Type 0
FitsMade (answers.Made n) = IsFd n
FitsMade _ = Unit {0}

abbrev pub FitsPair : Answer → Type 0
FitsPair (answers.Pair n m) = IsFd n × IsFd m
FitsPair _ = Unit {0}
