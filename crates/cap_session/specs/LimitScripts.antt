-- The script that `limits` answers: limits to put into a trace, and comments. Its lines end with LF.
--
--     # process 2101 before line 4
--     insert 4 2101 cap_rights_limit(3,CAP_READ|CAP_SEEK) RET 0
--     # descriptor 5 isn't known; later calls need CAP_READ
--     # no cap_enter: line 5, openat of process 2102
--
-- Before the line where a process begins nothing is inserted:
--
--     # process 2101 before line 1
--     # line 1 is where process 2101 begins
--
-- Without a line, for each descriptor that a line made:
--
--     insert 4 2101 cap_rights_limit(4,CAP_READ) RET 0
--     # descriptor 5 of process 2101, made at line 2, isn't known; later calls need CAP_READ
use Rattle.std.specs.Prelude.{ℕ, ◌+◌, ◌-◌, List, [], ◌∷◌, ◌++◌, length, map, flat_map, codes, decimal}
use Rattle.std.specs.Prelude.{Option, Some, None}
use Rattle.std.specs.List.{slice_get, join_with_byte}
use Rattle.cap_rights.specs.Text.{text}
use Rattle.cap_trace.specs.Item as items
use Rattle.cap_trace.specs.Call as calls
use Rattle.cap_trace.specs.declared.line.Answer.TheVariants as answers
use Rattle.cap_trace.specs.declared.calls.BareCall.TheVariants.{CapEnter}
use Rattle.cap_trace.specs.Entry.{Entry, head_of}
use Rattle.cap_trace.specs.Names.{name_of}
use Rattle.cap_trace.specs.Spelling.{canon}
use Rattle.cap_limits.specs.Limits.{Row}
use Rattle.cap_machine.specs.Report.{line_of_words}
use Rattle.cap_limits.specs.declared.limits.Entering.{Entering}
use Rattle.cap_limits.specs.declared.limits.Entering.TheVariants.{Inside, Blocked, May}
use Rattle.cap_limits.specs.declared.makers.MakerLimit.{MakerLimit}
use Rattle.cap_limits.specs.declared.makers.MakerRow.{MakerRow}
use Rattle.cap_limits.specs.declared.makers.MakerRow.TheVariants as made

-- ---- lines of a script

-- a comment, by what follows its `#`; and a line that is inserted at a position
pub data ScriptLine : Type 0 where
  comment : List (List ℕ) → ScriptLine
  insertion : ℕ → Entry → ScriptLine

abbrev pub words_of : ScriptLine → List (List ℕ)
words_of (comment words) = codes "#" ∷ words
words_of (insertion at line) = codes "insert" ∷ decimal at ∷ canon line ∷ []

-- the bytes of a line, without LF
abbrev pub bytes_of : ScriptLine → List ℕ
bytes_of line = join_with_byte 32 (words_of line)

abbrev pub script_text : List ScriptLine → List ℕ
script_text script = flat_map (λ (line : ScriptLine). line_of_words (words_of line)) script

-- lines inserted one after the other, the first at a position
abbrev pub insertions : ℕ → List Entry → List ScriptLine
insertions at [] = []
insertions at (line ∷ lines) = insertion at line ∷ insertions (at + 1) lines

-- ---- what is inserted

-- `2101 cap_rights_limit(4,CAP_READ) RET 0`: a process limits a descriptor to rights
abbrev pub limit_line : ℕ → Row → Entry
limit_line p row = record { pid = p; item = items.Call (calls.RightsLimit row.0 row.1) (answers.Made 0) }

-- `2101 cap_enter() RET 0`: a process enters capability mode
abbrev pub enter_line : ℕ → Entry
enter_line p = record { pid = p; item = items.Call (calls.Bare CapEnter) (answers.Made 0) }

-- ---- right after each line that made a descriptor

-- `descriptor 5 of process 2101, made at line 2, isn't known; later calls need CAP_READ`
abbrev pub made_words : MakerLimit → List (List ℕ)
made_words limit =
    codes "descriptor" ∷ decimal limit.fd ∷ codes "of process" ∷ (decimal limit.pid ++ codes ", made at line")
    ∷ (decimal limit.at ++ codes ", isn't known; later calls need") ∷ text limit.rights ∷ []

abbrev pub maker_line : MakerRow → ScriptLine
maker_line (made.Held limit) = insertion (limit.at + 1) (limit_line limit.pid (limit.fd, limit.rights))
maker_line (made.Unknown limit) = comment (made_words limit)

abbrev pub makers_script : List MakerRow → List ScriptLine
makers_script rows = map maker_line rows

-- its text, as the code has it
abbrev pub maker_lines : List MakerRow → List ℕ
maker_lines rows = flat_map (λ (row : MakerRow). line_of_words (words_of (maker_line row))) rows

-- ---- of one process, before a line

-- `process 2101 before line 4`
abbrev pub place_words : ℕ → ℕ → List (List ℕ)
place_words p k = codes "process" ∷ decimal p ∷ codes "before line" ∷ decimal k ∷ []

-- `descriptor 5 isn't known; later calls need CAP_READ`
abbrev pub unknown_words : Row → List (List ℕ)
unknown_words row =
    codes "descriptor" ∷ decimal row.0 ∷ codes "isn't known; later calls need" ∷ text row.1 ∷ []

-- `process 2101 is in capability mode already`
abbrev pub inside_words : ℕ → List (List ℕ)
inside_words p = codes "process" ∷ decimal p ∷ codes "is in capability mode already" ∷ []

-- `, openat of process 2102`
abbrev pub call_text : Option Entry → List ℕ
call_text None = []
call_text (Some line) = codes ", " ++ name_of (head_of line.item) ++ codes " of process " ++ decimal line.pid

-- `no cap_enter: line 5, openat of process 2102`
abbrev pub blocked_words : ℕ → Option Entry → List (List ℕ)
blocked_words n line = codes "no cap_enter: line" ∷ (decimal n ++ call_text line) ∷ []

-- what is said of entering, or its line inserted at a position
abbrev pub entering_line : List Entry → ℕ → ℕ → Entering → ScriptLine
entering_line trace p at May = insertion at (enter_line p)
entering_line trace p at Inside = comment (inside_words p)
entering_line trace p at (Blocked n) = comment (blocked_words n (slice_get trace (n - 1)))

abbrev pub unknown_lines : List Row → List ScriptLine
unknown_lines unknown = map (λ (row : Row). comment (unknown_words row)) unknown

-- Process p before line k of a trace: the limit of each of these descriptors, what later calls need of those that
-- aren't known, and whether it may enter capability mode.
abbrev pub process_script : List Entry → ℕ → ℕ → List Row → List Row → Entering → List ScriptLine
process_script trace p k rows unknown entering =
    comment (place_words p k) ∷ insertions k (map (limit_line p) rows)
    ++ (unknown_lines unknown ++ entering_line trace p (k + length rows) entering ∷ [])

-- ---- of one process, before the line where it begins

-- `line 1 is where process 2101 begins`
abbrev pub begins_words : ℕ → ℕ → List (List ℕ)
begins_words p k = codes "line" ∷ decimal k ∷ codes "is where process" ∷ decimal p ∷ codes "begins" ∷ []

abbrev pub beginning_script : ℕ → ℕ → List ScriptLine
beginning_script p k = comment (place_words p k) ∷ comment (begins_words p k) ∷ []
