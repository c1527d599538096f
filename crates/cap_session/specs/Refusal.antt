-- The text of a refused line, and of a refused command.
use Rattle.std.specs.Prelude.{ℕ, List, ◌++◌, codes, decimal}
use Rattle.cap_session.specs.Refused.{code_of}
use Rattle.cap_session.specs.declared.refused.Input.{Input}
use Rattle.cap_session.specs.declared.refused.Input.TheVariants.{Start, Trace}
use Rattle.cap_session.specs.declared.refused.Refusal.{Refusal}

-- the text that has the line
abbrev pub input_words : Input → List ℕ
input_words Start = codes " start line "
input_words Trace = codes " line "

-- `refused E2 line 7` and LF, or `refused E4 start line 2` and LF: the code, and the number of the line among all lines of
-- its text
unfoldable pub refusal_text : Input → Refusal → List ℕ
refusal_text input e = codes "refused E" ++ decimal (code_of e.reason) ++ input_words input ++ decimal e.line ++ codes "\n"

abbrev pub line_feed : List ℕ
line_feed = codes "\n"

-- `refused E7` and LF
abbrev pub refused_text : ℕ → List ℕ
refused_text code = codes "refused E" ++ decimal code ++ line_feed
