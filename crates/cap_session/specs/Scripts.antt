-- The replies to a script in a setting.
use Rattle.std.specs.Prelude.{◌≡◌, ℕ, nat_lt, ◌⊎◌, List, [], ◌∷◌, ◌++◌, length, if◌then◌else◌, MatchBool, IsTrue, IsOk}
use Rattle.std.specs.Prelude.{Result, Ok, Err, Option}
use Rattle.cap_session.specs.declared.session.Setting.{Setting}
use Rattle.cap_session.specs.Devices.{SinkState}
use Rattle.cap_session.specs.Limits.{longest_script_line}
use Rattle.cap_session.specs.Lines.{whole_lines, last_piece, line_if_any}
use Rattle.cap_session.specs.Trace.{is_skipped}
use Rattle.cap_session.specs.Writes.{Wrote, WrotePrefix}
use Rattle.cap_session.specs.Commands.{Asked, asked}
use Rattle.cap_session.specs.Refusal.{refused_text}
use Rattle.cap_session.specs.Replies.{Done, Keeping, Says, ScriptState, becomes, commanded, may_run_out, stays}
use Rattle.cap_session.specs.Origins.{Base, IsKeptAs}

-- What is kept stays, or becomes this, or is lost where memory is refused for it.
abbrev pub Keeps : Keeping → Option Base → Option Base → Type 0
Keeps stays old new = new ≡ old
Keeps (becomes base) old new = IsKeptAs base new

-- A command was done: this is its reply, and what it leaves.
pub record Does (t : ScriptState) (done : Done) (text : List ℕ) (u : ScriptState) : Type 0 where
  pub reply : Says done.reply text
  pub trace : u.trace ≡ done.trace
  pub keeps : Keeps done.keeping t.base u.base

-- The command was done, and its reply is this; or it was refused, and left all as it was.
abbrev pub RepliesTo : ScriptState → Result Done ℕ → List ℕ → ScriptState → Type 0
RepliesTo t (Ok done) text u = Does t done text u
RepliesTo t (Err code) text u = (text ≡ refused_text code) × (u ≡ t)

-- Memory ran out for a command that isn't refused, and all was left as it was.
abbrev pub RunsOut : Setting → ScriptState → Asked → List ℕ → ScriptState → Type 0
RunsOut setting t ask text u = IsTrue (may_run_out ask) × IsOk (commanded setting t ask) × (text ≡ refused_text 9) × (u ≡ t)

abbrev pub Commands : Setting → ScriptState → Asked → List ℕ → ScriptState → Type 0
Commands setting t ask text u = RepliesTo t (commanded setting t ask) text u ⊎ RunsOut setting t ask text u

-- This may be written of the line, and t becomes u. A line that is too long is refused with 1, whatever it
-- holds; an empty line and a comment are skipped.
abbrev pub Answers : Setting → ScriptState → List ℕ → List ℕ → ScriptState → Type 0
Answers setting t line text u =
    MatchBool (nat_lt longest_script_line (length line)) ((text ≡ refused_text 1) × (u ≡ t))
    (MatchBool (is_skipped line) ((text ≡ []) × (u ≡ t)) (Commands setting t (asked line) text u))

-- These may be the replies to the lines, one after the other.
abbrev pub Run : Setting → ScriptState → List (List ℕ) → List ℕ → ScriptState → Type 0
Run setting t [] text u = (text ≡ []) × (u ≡ t)
Run setting t (line ∷ more) text u =
    (first : List ℕ) × (mid : ScriptState) × (rest : List ℕ) × Answers setting t line first mid
    × Run setting mid more rest u × (text ≡ first ++ rest)

-- a last piece that is too long is replied to before its LF
abbrev pub long_piece : List ℕ → List (List ℕ)
long_piece held = if nat_lt longest_script_line (length held) then held ∷ [] else []

-- The lines of a script that is not at its end which are replied to: those with LF, and a last piece that is too long.
-- (`script_lines []` takes a whole script; `held` begins its first line.)
abbrev pub script_lines : List ℕ → List ℕ → List (List ℕ)
script_lines held bytes = whole_lines held bytes ++ long_piece (last_piece held bytes)

-- These lines were replied to.
pub record Replied (setting : Setting) (t : ScriptState) (w0 w1 : SinkState) (lines : List (List ℕ))
    (u : ScriptState) : Type 0 where
  pub text : List ℕ
  pub run : Run setting t lines text u
  pub wrote : Wrote w0 w1 text

-- The writer failed in the replies to the first of these lines.
pub record Broken (setting : Setting) (t : ScriptState) (w0 w1 : SinkState) (lines : List (List ℕ)) : Type 0 where
  pub first : List (List ℕ)
  pub others : List (List ℕ)
  pub cut : lines ≡ first ++ others
  pub text : List ℕ
  pub left : ScriptState
  pub run : Run setting t first text left
  pub wrote : WrotePrefix w0 w1 text

-- ---- while a script comes

-- What is known: the setting, what the script works on, and the beginning of the next line, no more of it than `most_held`
-- bytes are kept.
pub record Scripting : Type 0 where
  pub setting : Setting
  pub state : ScriptState
  pub held : List ℕ

abbrev pub tail : List (List ℕ) → List (List ℕ)
tail [] = []
tail (line ∷ more) = more

-- what is still to be replied to: a beginning that is too long was replied to
abbrev pub due : List ℕ → List ℕ → List (List ℕ)
due held bytes = if nat_lt longest_script_line (length held) then tail (script_lines held bytes)
    else script_lines held bytes

-- what completing the begun line leaves to reply to
abbrev pub due_line : List ℕ → List ℕ → List (List ℕ)
due_line held bytes = if nat_lt longest_script_line (length held) then [] else (held ++ bytes) ∷ []

-- what going on with it does
abbrev pub due_piece : List ℕ → List ℕ → List (List ℕ)
due_piece held bytes = if nat_lt longest_script_line (length held) then [] else long_piece (held ++ bytes)

-- what the end leaves to reply to
abbrev pub due_end : List ℕ → List (List ℕ)
due_end held = if nat_lt longest_script_line (length held) then [] else line_if_any held
