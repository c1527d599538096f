-- Where the lines of a text end, as the code keeps it. Only the code's contracts use this.
use Rattle.std.specs.Prelude.{◌≡◌, ℕ, ◌+◌, ◌<◌, ◌≤◌, List, length, take, drop, Some}
use Rattle.std.specs.Int.{bit_at}
use Rattle.memchr.specs.Find.{IsFirstByte, Nowhere, Passes, is_byte}

-- LF is at this place
abbrev pub ends_at : List ℕ → ℕ → Type 0
ends_at text k = Passes (is_byte 10) text k

-- no LF is before this place
abbrev pub IsWithin : List ℕ → ℕ → Type 0
IsWithin text n = Nowhere (ends_at text) 0 n

-- of the first `seen` bytes, which are at most 64, bit k is set where byte k is LF
pub record AreMarks (text : List ℕ) (seen marks : ℕ) : Type 0 where
  pub few : seen ≤ 64
  pub within : seen ≤ length text
  pub set : (k : ℕ) → k < seen → ends_at text k → bit_at marks k ≡ 1
  pub only : (k : ℕ) → bit_at marks k ≡ 1 → (k < seen) × ends_at text k

-- the first line of a text, without its LF, and what follows the LF
pub record IsCut (text line rest : List ℕ) : Type 0 where
  pub first : IsFirstByte (is_byte 10) text (Some (length line))
  pub begins : line ≡ take (length line) text
  pub leaves : rest ≡ drop (length line + 1) text
