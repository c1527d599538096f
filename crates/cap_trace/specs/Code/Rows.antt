-- The code's table of names and its heads, seen as those of Names.
use Rattle.cap_trace.specs.declared.calls.Form.{Form}
use Rattle.cap_trace.specs.declared.names.Row as code
use Rattle.cap_trace.specs.declared.names.Head as heads
use Rattle.cap_trace.specs.declared.names.Head.TheVariants as heads_are
use Rattle.cap_trace.specs.Names.{Row, row, row_of, Head, listed, unlisted}

-- a form with its row: of the code's table, and of Names
abbrev pub table_row : code.Row → Form × Row
table_row r = (r.1, row r.0.now r.2)

abbrev pub in_table : Form → Form × Row
in_table f = (f, row_of f)

abbrev pub head_view : heads.Head → Head
head_view (heads_are.Listed f) = listed f
head_view (heads_are.Unlisted n) = unlisted n.now
