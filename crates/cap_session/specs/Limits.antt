-- The limits of what is read and kept.
use Rattle.std.specs.Prelude.{ℕ}

-- A line of a trace or of a start has at most so many bytes, its LF not counted.
abbrev pub longest_line : ℕ
longest_line = 1024

-- A line of a script has at most so many bytes, its LF not counted.
abbrev pub longest_script_line : ℕ
longest_script_line = 1056

-- Of a line of a script that is begun at most so many bytes are kept: with those it is too long.
abbrev pub most_held : ℕ
most_held = 1057

-- A trace has at most so many lines, those that are skipped not counted.
abbrev pub most_lines : ℕ
most_lines = 1000000

-- At most so many bytes are read at a time.
abbrev pub longest_piece : ℕ
longest_piece = 65536
