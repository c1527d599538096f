-- What a text of lines gives, from its first line to the first that is refused.
-- `next` says of a line what becomes of what is known, or why the line is refused.
use Rattle.std.specs.Prelude.{ℕ, ◌+◌, nat_lt, List, [], ◌∷◌, length, if◌then◌else◌, Result, Ok, Err, Option, None, Some}
use Rattle.cap_session.specs.Limits.{longest_line}
use Rattle.cap_session.specs.Lines.{lines, lines_so_far}
use Rattle.cap_session.specs.declared.refused.Refusal.{Refusal}
use Rattle.cap_session.specs.declared.refused.Refused.{Refused}
use Rattle.cap_session.specs.declared.refused.Refused.TheVariants.{LongLine}

-- a line that is too long is refused so, whatever it holds
abbrev pub with_line : {A : Type 0} → (A → List ℕ → Result A Refused) → A → List ℕ → Result A Refused
with_line next known line = if nat_lt longest_line (length line) then Err LongLine else next known line

-- the lines one after the other, where `before` lines stand before them
unfoldable pub with_lines : {A : Type 0} → (A → List ℕ → Result A Refused) → A → ℕ → List (List ℕ) → Result A Refusal
with_lines next known before [] = Ok known
with_lines next known before (line ∷ more) = elim (with_line next known line) [
  | Ok now ↦ with_lines next now (before + 1) more
  | Err reason ↦ Err (record { reason = reason; line = before + 1 })
]

-- a whole text
abbrev pub whole_text : {A : Type 0} → (A → List ℕ → Result A Refused) → A → List ℕ → Result A Refusal
whole_text next start text = with_lines next start 0 (lines text)

abbrev pub refusal_of : {A : Type 0} → Result A Refusal → Option Refusal
refusal_of (Ok known) = None
refusal_of (Err e) = Some e

-- the first refused line of a text whose end isn't reached
abbrev pub refused_so_far : {A : Type 0} → (A → List ℕ → Result A Refused) → A → List ℕ → Option Refusal
refused_so_far next start text = refusal_of (with_lines next start 0 (lines_so_far text))
