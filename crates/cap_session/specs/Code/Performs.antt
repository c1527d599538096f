-- What each part of the code of a script's session does. Only the code's contracts use this; Scripts says what a script
-- is replied to.
use Rattle.std.specs.Prelude.{◌≡◌, List, ℕ, Result, Ok, Err, IsOk, IsTrue, ◌⊎◌, Option, None, Some}
use Rattle.cap_session.specs.declared.session.Setting.{Setting}
use Rattle.cap_session.specs.Commands.{Asked, show_line, count_lines, report_all, report_lines, tell_changes, explain_line}
use Rattle.cap_session.specs.Commands.{tell_denials, tell_limits, unknown, edit_asked}
use Rattle.cap_session.specs.Replies.{Done, ScriptState, commanded, may_run_out}
use Rattle.cap_session.specs.Scripts.{Does}
use Rattle.cap_session.specs.Session.{SessionState}
use Rattle.cap_session.specs.Refused.{code_of}
use Rattle.cap_session.specs.declared.refused.Refused.{Refused}
use Rattle.cap_session.specs.declared.refused.Refused.TheVariants.{Memory}
use Rattle.cap_session.specs.declared.script.Reply.{Reply}
use Rattle.cap_session.specs.declared.script.Reply.TheVariants.{Short, Long}
use Rattle.cap_session.specs.declared.command.Command.{Command}
use Rattle.cap_session.specs.declared.command.Command.TheVariants as commands

-- what a command asks for
abbrev pub command_asked : Command → Asked
command_asked (commands.Edit edit) = edit_asked edit
command_asked (commands.Show position) = show_line position
command_asked commands.Count = count_lines
command_asked commands.Report = report_all
command_asked (commands.ReportRange first last) = report_lines first last
command_asked commands.Changes = tell_changes
command_asked (commands.Explain position) = explain_line position
command_asked commands.Denials = tell_denials
command_asked (commands.Limits at) = tell_limits at

-- what a line asks for, by its command
abbrev pub asked_by : Option Command → Asked
asked_by (Some command) = command_asked command
asked_by None = unknown

abbrev pub text_of : Reply → List ℕ
text_of (Short text) = text
text_of (Long text) = text.items

-- what a script works on, of a session
abbrev pub state_of : SessionState → ScriptState
state_of session = record { trace = session.trace; base = session.base }

-- A command was done and has its reply, or it is refused, or memory ran out for it. The script's state goes from t to u.
abbrev pub Performs : Setting → ScriptState → Asked → Result Reply Refused → ScriptState → Type 0
Performs setting t ask (Ok reply) u = (done : Done) × (commanded setting t ask ≡ Ok done) × Does t done (text_of reply) u
Performs setting t ask (Err why) u = (u ≡ t) × ((commanded setting t ask ≡ Err (code_of why))
    ⊎ ((why ≡ Memory) × IsOk (commanded setting t ask) × IsTrue (may_run_out ask)))
