-- The reply to a command, by a profile and a start, and the trace that it leaves.
use Rattle.std.specs.Prelude.{◌≡◌, ℕ, Bool, true, false, List, [], ◌++◌, length, codes, decimal, if◌then◌else◌}
use Rattle.std.specs.Prelude.{Result, Ok, Err, Option, None, Some}
use Rattle.cap_trace.specs.Entry.{Entry}
use Rattle.cap_machine.specs.DenialReport.{denial_report}
use Rattle.cap_machine.specs.Steps.{steps}
use Rattle.cap_session.specs.Limits.{most_lines}
use Rattle.cap_session.specs.Edits.{is_position, inserted, deleted, replaced}
use Rattle.cap_session.specs.Explaining.{explained_line, explained_links}
use Rattle.cap_session.specs.LimitStreams.{IsLimitsText}
use Rattle.cap_session.specs.Refusal.{line_feed}
use Rattle.cap_session.specs.Refused.{code_of}
use Rattle.cap_session.specs.Commands.{Asked, insert_line, replace_line, delete_line, show_line, count_lines}
use Rattle.cap_session.specs.Commands.{report_all, report_lines, tell_changes, explain_line, tell_denials, tell_limits, unknown}
use Rattle.cap_session.specs.Changes.{changes}
use Rattle.cap_session.specs.Origins.{Base, base_of, made_new, moved, put_in, taken_out}
use Rattle.cap_session.specs.Settings.{report_by, state_before}
use Rattle.cap_session.specs.Shown.{ranged, shown}
use Rattle.cap_session.specs.Trace.{counted_lines}
use Rattle.cap_session.specs.declared.refused.Refused.{Refused}
use Rattle.cap_session.specs.declared.session.Setting.{Setting}

-- What a script works on: the trace, and what is kept of its last report.
pub record ScriptState : Type 0 where
  pub trace : List Entry
  pub base : Option Base

-- a trace that a script begins with
abbrev pub begun : List Entry → ScriptState
begun trace = record { trace = trace; base = None }

-- What becomes of what is kept: it stays, or becomes this, unless memory is refused for it.
pub data Keeping : Type 0 where
  stays : Keeping
  becomes : Option Base → Keeping

-- What a reply says: this text; or the script of limits after the lines that made descriptors, or before a line.
pub data Saying : Type 0 where
  exactly : List ℕ → Saying
  limits_of : Setting → List Entry → Option ℕ → Saying

-- The script of limits, and then how many lines it puts in: each of its lines does that or is a comment.
pub record SaysLimits (setting : Setting) (t : List Entry) (at : Option ℕ) (text : List ℕ) : Type 0 where
  pub script : List ℕ
  pub limits : IsLimitsText setting.profile at setting.start t script
  pub is : text ≡ script ++ (codes "limits " ++ (decimal (counted_lines script) ++ line_feed))

-- The text says that.
abbrev pub Says : Saying → List ℕ → Type 0
Says (exactly said) text = text ≡ said
Says (limits_of setting t at) text = SaysLimits setting t at text

-- a reply, the trace that the command leaves, and what becomes of what is kept
pub record Done : Type 0 where
  pub reply : Saying
  pub trace : List Entry
  pub keeping : Keeping

-- an edit is replied to with the new count
abbrev pub edit_done : (List (Option ℕ) → List (Option ℕ)) → Option Base → Result (List Entry) Refused → Result Done ℕ
edit_done edit base (Ok next) = Ok (record {
  reply = exactly (codes "ok " ++ decimal (length next) ++ line_feed);
  trace = next;
  keeping = becomes (moved edit base);
})
edit_done edit base (Err e) = Err (code_of e)

-- what was asked for is replied, and all stays
abbrev pub shown_done : List Entry → List ℕ → Result (List ℕ) Refused → Result Done ℕ
shown_done trace end (Ok text) = Ok (record { reply = exactly (text ++ end); trace = trace; keeping = stays })
shown_done trace end (Err e) = Err (code_of e)

-- a report is replied, and kept
abbrev pub told_done : List Entry → List ℕ → Result Done ℕ
told_done trace text = Ok (record { reply = exactly text; trace = trace; keeping = becomes (Some (base_of trace)) })

-- an explanation, and then how many lines it rests on
abbrev pub with_links : Result (List ℕ) Refused → Result ℕ Refused → Result (List ℕ) Refused
with_links (Ok text) (Ok links) = Ok (text ++ (codes "explained " ++ (decimal links ++ line_feed)))
with_links (Ok text) (Err e) = Err e
with_links (Err e) links = Err e

abbrev pub explained_with_links : Setting → List Entry → ℕ → Result (List ℕ) Refused
explained_with_links setting t k = with_links (explained_line (state_before setting) setting.profile t k)
    (explained_links (state_before setting) setting.profile t k)

-- no line is asked for, or one that there is
abbrev pub has_place : Option ℕ → ℕ → Bool
has_place None count = true
has_place (Some k) count = is_position k count

-- limits are replied, and all stays
abbrev pub limits_done : Setting → List Entry → Option ℕ → Result Done ℕ
limits_done setting t at = if has_place at (length t)
    then Ok (record { reply = limits_of setting t at; trace = t; keeping = stays }) else Err 7

-- what a command does, or the number in the reply where it isn't done; a script's session holds as many lines as a trace
-- may have
abbrev pub commanded : Setting → ScriptState → Asked → Result Done ℕ
commanded setting t (insert_line k line) = edit_done (put_in k) t.base (inserted most_lines t.trace k line)
commanded setting t (replace_line k line) = edit_done (made_new k) t.base (replaced t.trace k line)
commanded setting t (delete_line k) = edit_done (taken_out k) t.base (deleted t.trace k)
commanded setting t (show_line k) = shown_done t.trace line_feed (shown t.trace k)
commanded setting t count_lines = shown_done t.trace line_feed (Ok (decimal (length t.trace)))
commanded setting t report_all = told_done t.trace (report_by setting t.trace)
commanded setting t (report_lines a b) = shown_done t.trace [] (ranged setting t.trace a b)
commanded setting t tell_changes = told_done t.trace (changes setting t.base t.trace)
commanded setting t (explain_line k) = shown_done t.trace [] (explained_with_links setting t.trace k)
commanded setting t tell_denials =
    shown_done t.trace [] (Ok (denial_report (state_before setting) (steps setting.profile t.trace)))
commanded setting t (tell_limits at) = limits_done setting t.trace at
commanded setting t unknown = Err 10

-- Memory may run out for every command that isn't refused, but for `count`.
abbrev pub may_run_out : Asked → Bool
may_run_out count_lines = false
may_run_out (insert_line k line) = true
may_run_out (replace_line k line) = true
may_run_out (delete_line k) = true
may_run_out (show_line k) = true
may_run_out report_all = true
may_run_out (report_lines a b) = true
may_run_out tell_changes = true
may_run_out (explain_line k) = true
may_run_out tell_denials = true
may_run_out (tell_limits at) = true
may_run_out unknown = false
