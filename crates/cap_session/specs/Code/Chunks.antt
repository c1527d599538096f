-- What a text and a script take of what they are given, piece by piece.
use Rattle.std.specs.Prelude.{◌≡◌, ℕ, List, [], ◌++◌, take, Result, Err, OnOk, IfErr, None}
use Rattle.cap_session.specs.Devices.{SinkState}
use Rattle.cap_session.specs.Code.Feeds.{Reached, Feeds, Ends}
use Rattle.cap_session.specs.Limits.{most_held}
use Rattle.cap_session.specs.Lines.{last_piece, lines}
use Rattle.cap_session.specs.Scripts.{Scripting, Replied, Broken, script_lines}
use Rattle.cap_session.specs.Texts.{refused_so_far}
use Rattle.cap_session.specs.declared.lines.StopReason.{StopReason}
use Rattle.cap_session.specs.declared.lines.StopReason.TheVariants.{WriteFault}
use Rattle.cap_session.specs.declared.refused.Refused.{Refused}

-- These bytes of a text were worked through, whatever began them.
abbrev pub TookText : {A : Type 0} → (A → List ℕ → Result A Refused) → (A → Type 0) → (A → Type 0) → ℕ → List ℕ
    → List ℕ → Type 0
TookText {A = A} next before after number held given = (start : A) → before start
    → Reached next start after given number held

-- The first bytes have no refused line, and the piece after them stopped it.
abbrev pub StoppedText : {A : Type 0} → (A → List ℕ → Result A Refused) → (A → Type 0) → (A → Type 0) → ℕ → List ℕ
    → List ℕ → List ℕ → StopReason → Type 0
StoppedText {A = A} next before after number held front piece stop =
    (start : A) → before start → (refused_so_far next start front ≡ None)
    × Feeds {T = Unit {0}} next start after (front ++ piece) number held (Err stop)

-- The end came after bytes that have no refused line.
abbrev pub EndedText : {A : Type 0} → (A → List ℕ → Result A Refused) → (A → Type 0) → (A → Type 0) → List ℕ
    → Result (Unit {0}) StopReason → Type 0
EndedText {A = A} next before holds given result = (start : A) → before start
    → (refused_so_far next start given ≡ None) × Ends next start holds given result

-- These bytes of a script were replied to. Before and after them this is known.
pub record TookScript (before after : Scripting) (w0 w1 : SinkState) (given : List ℕ) : Type 0 where
  pub setting : after.setting ≡ before.setting
  pub replied : Replied before.setting before.state w0 w1 (script_lines [] given) after.state
  pub held : after.held ≡ take most_held (last_piece [] given)
  pub failure : w1.room ≡ w0.room

-- The writer failed in the replies to these bytes of a script.
pub record StoppedScript (before after : Scripting) (w0 w1 : SinkState) (given : List ℕ)
    (stop : StopReason) : Type 0 where
  pub is : stop ≡ WriteFault
  pub setting : after.setting ≡ before.setting
  pub broken : Broken before.setting before.state w0 w1 (script_lines [] given)

-- The script ended after these bytes, and all its lines were replied to, or the writer failed in that.
pub record EndedScript (before after : Scripting) (w0 w1 : SinkState) (given : List ℕ)
    (result : Result (Unit {0}) StopReason) : Type 0 where
  pub setting : after.setting ≡ before.setting
  pub replied : OnOk result (Replied before.setting before.state w0 w1 (lines given) after.state)
  pub broken : IfErr result (λ stop. (stop ≡ WriteFault) × Broken before.setting before.state w0 w1 (lines given))
