-- What is known while a text comes, piece by piece: which bytes were worked through, and that none of their lines is
-- refused. Only the code's contracts use this.
use Rattle.std.specs.Prelude.{◌≡◌, ℕ, ◌+◌, ◌≤◌, List, [], length, Result, Ok, Err, None, Some}
use Rattle.cap_session.specs.Limits.{longest_line}
use Rattle.cap_session.specs.Lines.{whole_lines, last_piece}
use Rattle.cap_session.specs.Texts.{with_lines, whole_text, refused_so_far}
use Rattle.cap_session.specs.declared.refused.Refused.{Refused}
use Rattle.cap_session.specs.declared.lines.StopReason.{StopReason}
use Rattle.cap_session.specs.declared.lines.StopReason.TheVariants as stops

-- A line did what the definition says: what is known then follows, or the line is refused.
abbrev pub TakesLine : {A T : Type 0} → Result A Refused → (A → Type 0) → Result T Refused → Type 0
TakesLine {A = A} says follows (Ok _) = (now : A) × (says ≡ Ok now) × follows now
TakesLine says follows (Err reason) = says ≡ Err reason

-- The line after the first `number` did what the definition says, or reading stopped at it.
abbrev pub Completes : {A T : Type 0} → Result A Refused → (A → Type 0) → ℕ → Result T StopReason → Type 0
Completes {A = A} says follows number (Ok _) = (now : A) × (says ≡ Ok now) × follows now
Completes says follows number (Err (stops.Refused e)) = (says ≡ Err e.reason) × (e.line ≡ number + 1)
Completes says follows number (Err stops.Memory) = ⊥
Completes says follows number (Err stops.ReadFault) = ⊥
Completes says follows number (Err stops.WriteFault) = ⊥
Completes says follows number (Err stops.TooLong) = ⊥

-- These bytes were worked through: their whole lines, none of them refused, and the beginning of the next.
pub record Reached {A : Type 0} (next : A → List ℕ → Result A Refused) (start : A) (follows : A → Type 0)
    (given : List ℕ) (number : ℕ) (held : List ℕ) : Type 0 where
  pub known : A
  pub does : follows known
  pub lines : with_lines next start 0 (whole_lines [] given) ≡ Ok known
  pub count : number ≡ length (whole_lines [] given)
  pub begun : held ≡ last_piece [] given
  pub short : length held ≤ longest_line

-- The bytes were worked through, or one of their lines is refused. Memory runs out only where none is.
abbrev pub Feeds : {A T : Type 0} → (A → List ℕ → Result A Refused) → A → (A → Type 0) → List ℕ → ℕ → List ℕ
    → Result T StopReason → Type 0
Feeds next start follows given number held (Ok _) = Reached next start follows given number held
Feeds next start follows given number held (Err (stops.Refused e)) = refused_so_far next start given ≡ Some e
Feeds next start follows given number held (Err stops.Memory) = refused_so_far next start given ≡ None
Feeds next start follows given number held (Err stops.ReadFault) = ⊥
Feeds next start follows given number held (Err stops.WriteFault) = ⊥
Feeds next start follows given number held (Err stops.TooLong) = ⊥

-- The last line was taken: the whole text is good, or a line of it is refused.
abbrev pub Finishes : {A T : Type 0} → (A → List ℕ → Result A Refused) → A → (A → Type 0) → List ℕ
    → Result T StopReason → Type 0
Finishes {A = A} next start follows given (Ok _) =
    (known : A) × (whole_text next start given ≡ Ok known) × follows known
Finishes next start follows given (Err (stops.Refused e)) = whole_text next start given ≡ Err e
Finishes next start follows given (Err stops.Memory) = ⊥
Finishes next start follows given (Err stops.ReadFault) = ⊥
Finishes next start follows given (Err stops.WriteFault) = ⊥
Finishes next start follows given (Err stops.TooLong) = ⊥

-- The end came after these bytes: the whole text is good, or a line of it is refused. Memory runs out only where it is
-- good.
abbrev pub Ends : {A T : Type 0} → (A → List ℕ → Result A Refused) → A → (A → Type 0) → List ℕ → Result T StopReason
    → Type 0
Ends {A = A} next start holds given (Ok _) = (known : A) × (whole_text next start given ≡ Ok known) × holds known
Ends next start holds given (Err (stops.Refused e)) = whole_text next start given ≡ Err e
Ends {A = A} next start holds given (Err stops.Memory) = (known : A) × (whole_text next start given ≡ Ok known)
Ends next start holds given (Err stops.ReadFault) = ⊥
Ends next start holds given (Err stops.WriteFault) = ⊥
Ends next start holds given (Err stops.TooLong) = ⊥
