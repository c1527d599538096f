-- What `edit` answers to the script of `limits`, and the trace that it leaves.
use Rattle.std.specs.Prelude.{◌≡◌, ℕ, ◌+◌, ◌-◌, ◌≤◌, ◌⊎◌, List, [], ◌∷◌, ◌++◌, length, codes, decimal, insert, Ok, Some}
use Rattle.cap_rights.specs.Text.{names}
use Rattle.cap_trace.specs.Entry.{Entry}
use Rattle.cap_trace.specs.Reading.{line_of}
use Rattle.cap_session.specs.Limits.{most_lines}
use Rattle.cap_session.specs.LimitScripts.{ScriptLine, comment, insertion}
use Rattle.cap_session.specs.Refusal.{refused_text, line_feed}
use Rattle.cap_trace.specs.Spelling.{canon}

-- ---- what a script does to a trace

-- the reply to an insertion that leaves so many lines
abbrev pub ok_text : ℕ → List ℕ
ok_text count = codes "ok " ++ decimal count ++ line_feed

-- Each insertion is accepted, up to the first for which the trace is full or memory ran out; comments are skipped.
-- Where none is refused, the trace that is left has each line at its position, as reading it again gives it.
abbrev pub Accepts : List Entry → List ScriptLine → List ℕ → List Entry → Type 0
Accepts t [] replies left = (replies ≡ []) × (left ≡ t)
Accepts t (comment words ∷ more) replies left = Accepts t more replies left
Accepts t (insertion at line ∷ more) replies left =
    ((put : Entry) × (rest : List ℕ) × (line_of (canon line) ≡ Ok put) × (replies ≡ ok_text (length t + 1) ++ rest)
    × Accepts (insert t (at - 1) put) more rest left)
    ⊎ ((rest : List ℕ) × ((replies ≡ refused_text 8 ++ rest) × (most_lines ≤ length t)
    ⊎ (replies ≡ refused_text 9 ++ rest)))

-- ---- the trace that is left

-- the replies where each insertion is accepted
abbrev pub all_ok : List Entry → List ScriptLine → List ℕ
all_ok t [] = []
all_ok t (comment words ∷ more) = all_ok t more
all_ok t (insertion at line ∷ more) = ok_text (length t + 1) ++ all_ok (insert t (at - 1) line) more

-- a trace with the lines of a script in it
abbrev pub with_script : List Entry → List ScriptLine → List Entry
with_script t [] = t
with_script t (comment words ∷ more) = with_script t more
with_script t (insertion at line ∷ more) = with_script (insert t (at - 1) line) more

-- ---- rights that can be spelled

-- some text names them
abbrev pub IsNamed : ℕ → Type 0
IsNamed rights = (bytes : List ℕ) × (names bytes ≡ Some rights)
