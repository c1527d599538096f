-- A path of any bytes but 0, as the text between quotes.
use Rattle.std.specs.Prelude.{◌≡◌, IsTrue, ℕ, ◌+◌, ◌-◌, ◌*◌, ◌/◌, ◌%◌, ◌==◌, ◌||◌, Bool, not, List, [], ◌∷◌, ◌++◌}
use Rattle.std.specs.Prelude.{Option, Some, None, nat_lt, if◌then◌else◌}
use Rattle.std.specs.List.{list_all}
use Rattle.cap_trace.specs.Fields.{is_plain, hex_digit}

-- 0 to 9, a to f
abbrev pub hex_of : ℕ → ℕ
hex_of d = if nat_lt d 10 then 48 + d else 97 + (d - 10)

-- a printable byte stands for itself, but for `"` and `\`, which follow a `\`; any other is written by its number
abbrev pub escape_of : ℕ → List ℕ
escape_of b = if is_plain b then b ∷ [] else if (b == 34) || (b == 92) then 92 ∷ b ∷ []
    else 92 ∷ 120 ∷ hex_of (b / 16) ∷ hex_of (b % 16) ∷ []

unfoldable pub escaped : List ℕ → List ℕ
escaped [] = []
escaped (b ∷ bs) = escape_of b ++ escaped bs

-- no path has a byte 0
abbrev pub lacks_zero : List ℕ → Bool
lacks_zero bs = list_all (λ b. not (b == 0)) bs

-- the text of a path that spells these bytes
abbrev pub SpellsBytes : List ℕ → List ℕ → Type 0
SpellsBytes text bytes = (text ≡ escaped bytes) × IsTrue (lacks_zero bytes)

-- a text spells the bytes of one path at most
abbrev pub OnePath : Type 0
OnePath = (text a b : List ℕ) → SpellsBytes text a → SpellsBytes text b → a ≡ b

-- ---- a text that is taken byte by byte: the first byte that it spells, and what follows

abbrev pub digits_byte : Option ℕ → Option ℕ → List ℕ → Option (ℕ × List ℕ)
digits_byte None low rest = None
digits_byte (Some h) None rest = None
digits_byte (Some h) (Some l) rest = Some (16 * h + l, rest)

abbrev pub hex_byte : List ℕ → Option (ℕ × List ℕ)
hex_byte [] = None
hex_byte (h ∷ []) = None
hex_byte (h ∷ l ∷ rest) = digits_byte (hex_digit h) (hex_digit l) rest

abbrev pub slash_byte : List ℕ → Option (ℕ × List ℕ)
slash_byte [] = None
slash_byte (b ∷ rest) = if b == 120 then hex_byte rest else Some (b, rest)

abbrev pub first_byte : List ℕ → Option (ℕ × List ℕ)
first_byte [] = None
first_byte (b ∷ rest) = if b == 92 then slash_byte rest else Some (b, rest)
