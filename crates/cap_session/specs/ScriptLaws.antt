-- Laws of scripts, in every profile and from every start: the trace that a script leaves, and the trace that each report tells of.
use Rattle.std.specs.Prelude.{◌≡◌, ◌⊎◌, ℕ, nat_lt, Bool, false, List, [], ◌∷◌, ◌++◌, length, flat_map, codes, decimal}
use Rattle.std.specs.Prelude.{Result, Ok, Err, ⊤}
use Rattle.cap_trace.specs.Entry.{Entry}
use Rattle.cap_session.specs.declared.session.Setting.{Setting}
use Rattle.cap_session.specs.declared.edit.Edit.{Edit}
use Rattle.cap_session.specs.declared.refused.Refused.{Refused}
use Rattle.cap_session.specs.Limits.{longest_script_line, most_lines}
use Rattle.cap_session.specs.Trace.{is_skipped}
use Rattle.cap_session.specs.Refused.{code_of}
use Rattle.cap_session.specs.Edits.{after, answers}
use Rattle.cap_session.specs.Commands.{asked, edit_asked}
use Rattle.cap_session.specs.Refusal.{refused_text, line_feed}
use Rattle.cap_session.specs.Replies.{ScriptState}
use Rattle.cap_session.specs.Scripts.{Run}
use Rattle.cap_session.specs.Settings.{report_by}

-- A line that is neither too long nor a comment asks for an edit.
abbrev pub Asks : List ℕ → Edit → Type 0
Asks line edit =
    (nat_lt longest_script_line (length line) ≡ false) × (is_skipped line ≡ false) × (asked line ≡ edit_asked edit)

-- The lines ask for the edits, each for one.
abbrev pub AskAll : List (List ℕ) → List Edit → Type 0
AskAll [] [] = ⊤
AskAll (line ∷ lines) (edit ∷ edits) = Asks line edit × AskAll lines edits
AskAll [] (edit ∷ edits) = ⊥
AskAll (line ∷ lines) [] = ⊥

-- the reply to an edit, by its answer
abbrev pub answer_text : Result ℕ Refused → List ℕ
answer_text (Ok count) = codes "ok " ++ decimal count ++ line_feed
answer_text (Err e) = refused_text (code_of e)

-- The report of a trace, or the reply where memory ran out for it.
abbrev pub ReportOrOutOfMemory : Setting → List Entry → List ℕ → Type 0
ReportOrOutOfMemory setting trace text = (text ≡ report_by setting trace) ⊎ (text ≡ refused_text 9)

-- After the lines of any edits, `report` is replied to with the report of the trace that the edits leave, one after the
-- other. Before it come the answers of the edits. For which of them memory ran out is left open.
abbrev pub ScriptReportsWhatEditsGive : Type 0
ScriptReportsWhatEditsGive =
    (setting : Setting) (t left : ScriptState) (lines : List (List ℕ)) (edits : List Edit) (text : List ℕ) →
    AskAll lines edits → Run setting t (lines ++ codes "report" ∷ []) text left →
    (ran_out : List Bool) × (last : List ℕ) × (length ran_out ≡ length edits)
    × (left.trace ≡ after most_lines t.trace edits ran_out) ×
    (text ≡ flat_map answer_text (answers most_lines t.trace edits ran_out) ++ last)
    × ReportOrOutOfMemory setting left.trace last

-- A line asks for no edit.
abbrev pub AsksNone : List ℕ → Type 0
AsksNone line = (edit : Edit) → Asks line edit → ⊥

-- These are the edits that the lines ask for, in order. The other lines are passed over.
abbrev pub AreEditsOf : List (List ℕ) → List Edit → Type 0
AreEditsOf [] [] = ⊤
AreEditsOf [] (edit ∷ edits) = ⊥
AreEditsOf (line ∷ lines) [] = AsksNone line × AreEditsOf lines []
AreEditsOf (line ∷ lines) (edit ∷ edits) =
    (AsksNone line × AreEditsOf lines (edit ∷ edits)) ⊎ (Asks line edit × AreEditsOf lines edits)

-- A trace becomes the one that the edits among the lines leave, one after the other. For which of them memory ran
-- out is left open.
pub record LeavesEdits (trace : List Entry) (lines : List (List ℕ)) (left : List Entry) : Type 0 where
  pub edits : List Edit
  pub asked : AreEditsOf lines edits
  pub ran_out : List Bool
  pub each : length ran_out ≡ length edits
  pub leaves : left ≡ after most_lines trace edits ran_out

-- Whatever the lines of a script are, they leave the trace that the edits among them leave.
abbrev pub ScriptLeavesWhatEditsGive : Type 0
ScriptLeavesWhatEditsGive = (setting : Setting) (t left : ScriptState) (lines : List (List ℕ)) (text : List ℕ)
    → Run setting t lines text left → LeavesEdits t.trace lines left.trace

-- `now` is what the script works on at a line `report`, `reply` is the reply to it, and `first` and `rest` are those to the lines
-- before and after it.
pub record ReportsThen (setting : Setting) (t left : ScriptState) (before others : List (List ℕ))
    (text : List ℕ) : Type 0 where
  pub now : ScriptState
  pub later : ScriptState
  pub first : List ℕ
  pub reply : List ℕ
  pub rest : List ℕ
  pub text_is : text ≡ first ++ reply ++ rest
  pub edits : LeavesEdits t.trace before now.trace
  pub lines : Run setting t before first now
  pub report : ReportOrOutOfMemory setting now.trace reply
  pub same : later.trace ≡ now.trace
  pub more : Run setting later others rest left

-- Each `report` in a script is replied to with the report of the trace that the edits before it leave, whatever else
-- comes before it and after it.
abbrev pub EachReportIsOfItsTrace : Type 0
EachReportIsOfItsTrace = (setting : Setting) (t left : ScriptState) (before others : List (List ℕ)) (text : List ℕ) →
    Run setting t (before ++ codes "report" ∷ others) text left → ReportsThen setting t left before others text
