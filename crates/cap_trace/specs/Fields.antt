-- Flags, commands, paths and the arguments of other calls, byte by byte.
use Rattle.std.specs.Prelude.{ℕ, ◌+◌, ◌*◌, ◌-◌, ◌==◌, ◌&&◌, ◌||◌, Bool, true, false, not, List, [], ◌∷◌, ◌++◌, Option}
use Rattle.std.specs.Prelude.{Some, None, option_map, nat_le, codes, if◌then◌else◌}
use Rattle.std.specs.Str.{bytes_eq}
use Rattle.std.specs.Char.{is_ascii_uppercase, is_ascii_digit}
use Rattle.std.specs.List.{list_all, slice_split}
use Rattle.cap_trace.specs.Steps.{takes_all}
use Rattle.cap_trace.specs.declared.fields.Place.{Place}
use Rattle.cap_trace.specs.declared.fields.Place.TheVariants.{Between, Slash, Digits, OneDigit}

-- ---- flags: `0`, or names joined by a bar

abbrev pub is_flag_byte : ℕ → Bool
is_flag_byte c = is_ascii_uppercase c || is_ascii_digit c || (c == 95)

-- A to Z, then any of A to Z, 0 to 9, _
abbrev pub is_word : List ℕ → Bool
is_word [] = false
is_word (c ∷ cs) = is_ascii_uppercase c && list_all is_flag_byte cs

abbrev pub is_flags : List ℕ → Bool
is_flags t = bytes_eq t (codes "0") || list_all is_word (slice_split (λ c. c == 124) t)

-- ---- paths: items between quotes

-- a printable byte other than `"` and `\` stands for itself
abbrev pub is_plain : ℕ → Bool
is_plain c = nat_le 32 c && nat_le c 126 && not (c == 34) && not (c == 92)

-- 0 to 9, a to f
abbrev pub hex_digit : ℕ → Option ℕ
hex_digit c = if is_ascii_digit c then Some (c - 48) else if nat_le 97 c && nat_le c 102 then Some (c - 87) else None

-- any other byte but 0 is written as `\x` and two digits
abbrev pub is_escaped : ℕ → Bool
is_escaped b = (nat_le 1 b && nat_le b 31) || (nat_le 127 b && nat_le b 255)

abbrev pub second_digit : ℕ → Option ℕ → Option Place
second_digit h None = None
second_digit h (Some d) = if is_escaped (16 * h + d) then Some Between else None

abbrev pub item_step : Place → ℕ → Option Place
item_step Between c = if c == 92 then Some Slash else if is_plain c then Some Between else None
item_step Slash c = if (c == 34) || (c == 92) then Some Between else if c == 120 then Some Digits else None
item_step Digits c = option_map OneDigit (hex_digit c)
item_step (OneDigit h) c = second_digit h (hex_digit c)

abbrev pub is_between : Place → Bool
is_between Between = true
is_between Slash = false
is_between Digits = false
is_between (OneDigit h) = false

abbrev pub are_items : List ℕ → Bool
are_items t = takes_all item_step is_between Between t

abbrev pub quoted : List ℕ → List ℕ
quoted p = 34 ∷ (p ++ (34 ∷ []))

-- ---- the arguments of a call that has no form of its own: any bytes but `(`, `)` and LF

abbrev pub is_free : ℕ → Bool
is_free c = not (c == 40) && not (c == 41) && not (c == 10)
