-- What a start keeps: what was added to it, and a table of it.
use Rattle.std.specs.Prelude.{List, map}
use Rattle.cap_machine.specs.declared.start.Entry.{Entry}
use Rattle.cap_machine.specs.declared.start.Start.TheInside.{Inside}
use Rattle.cap_machine.specs.State.{Added}
use Rattle.cap_machine.specs.Code.Table.{Keeps}
use Rattle.cap_machine.specs.State.{start_state}

abbrev pub added_by : Entry → Added
added_by entry = record { pid = entry.pid; mode = entry.mode; rest = entry.rest; cells = entry.cells.items }

abbrev pub all_added : Inside → List Added
all_added start = map added_by start.added.items

-- the table keeps the state that the list says
abbrev pub IsKept : Inside → Type 0
IsKept start = Keeps start.table (start_state (all_added start))
