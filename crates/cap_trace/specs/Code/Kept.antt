-- The line that is kept as its text.
use Rattle.std.specs.Prelude.{◌≡◌, ℕ, List, Ok, Err}
use Rattle.cap_trace.specs.Item as items
use Rattle.cap_trace.specs.Entry.{Entry}
use Rattle.cap_trace.specs.Reading.{line_of}

-- the line that the bytes spell; of other bytes it doesn't matter which
unfoldable pub entry_of : List ℕ → Entry
entry_of bytes = elim (line_of bytes) [ Ok e ↦ e | Err f ↦ record { pid = 0; item = items.Exit } ]

-- the bytes spell a line
abbrev pub SpellsALine : List ℕ → Type 0
SpellsALine bytes = line_of bytes ≡ Ok (entry_of bytes)
