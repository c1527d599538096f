-- Looking a name up without trying every row: each name of the table has a slot of its own, by its first and last bytes.
use Rattle.std.specs.Prelude.{ℕ, ◌+◌, ◌*◌, ◌-◌, ◌%◌, ◌/◌, List, [], ◌∷◌, length, slice_index, Option, Some, None}
use Rattle.std.specs.Prelude.{if◌then◌else◌}
use Rattle.std.specs.Prelude.{◌^◌, nat_le, take, drop}
use Rattle.std.specs.Int.{w16, w32, w64, from_le_bytes}
use Rattle.std.specs.List.{slice_get}
use Rattle.std.specs.Str.{bytes_eq}
use Rattle.cap_trace.specs.declared.calls.Form.{Form}
use Rattle.cap_trace.specs.Names.{all_forms, row_of}

-- the first bytes of a text as one number: eight of them, or four or two of a shorter text
abbrev pub first_word : List ℕ → ℕ
first_word t =
    if nat_le 8 (length t) then from_le_bytes w64 (take 8 t)
    else if nat_le 4 (length t) then from_le_bytes w32 (take 4 t) else from_le_bytes w16 (take 2 t)

-- the last bytes, in the same way
abbrev pub last_word : List ℕ → ℕ
last_word t =
    if nat_le 8 (length t) then from_le_bytes w64 (take 8 (drop (length t - 8) t))
    else if nat_le 4 (length t) then from_le_bytes w32 (take 4 (drop (length t - 4) t))
    else from_le_bytes w16 (take 2 (drop (length t - 2) t))

-- by slot, the number of the form in all_forms, or 255
-- tools/calls.py: slots
unfoldable pub slots : List ℕ
slots =
    255 ∷ 255 ∷ 255 ∷ 60 ∷ 255 ∷ 23 ∷ 255 ∷ 255 ∷ 255 ∷ 255 ∷ 255 ∷ 255 ∷ 255 ∷ 255 ∷ 255 ∷ 255 ∷ 255 ∷
    255 ∷ 77 ∷ 255 ∷ 62 ∷ 255 ∷ 255 ∷ 255 ∷ 53 ∷ 255 ∷ 255 ∷ 255 ∷ 61 ∷ 255 ∷ 255 ∷ 255 ∷ 255 ∷ 255 ∷ 255 ∷
    255 ∷ 255 ∷ 255 ∷ 255 ∷ 66 ∷ 255 ∷ 255 ∷ 255 ∷ 255 ∷ 255 ∷ 45 ∷ 255 ∷ 255 ∷ 255 ∷ 10 ∷ 255 ∷ 255 ∷
    255 ∷ 255 ∷ 255 ∷ 17 ∷ 255 ∷ 33 ∷ 255 ∷ 255 ∷ 40 ∷ 255 ∷ 255 ∷ 255 ∷ 255 ∷ 36 ∷ 255 ∷ 255 ∷ 255 ∷ 8 ∷
    255 ∷ 255 ∷ 255 ∷ 255 ∷ 255 ∷ 255 ∷ 69 ∷ 255 ∷ 255 ∷ 255 ∷ 255 ∷ 255 ∷ 255 ∷ 11 ∷ 255 ∷ 255 ∷ 255 ∷
    255 ∷ 255 ∷ 255 ∷ 255 ∷ 46 ∷ 85 ∷ 255 ∷ 50 ∷ 255 ∷ 255 ∷ 19 ∷ 26 ∷ 255 ∷ 255 ∷ 255 ∷ 255 ∷ 255 ∷ 255 ∷
    255 ∷ 255 ∷ 255 ∷ 255 ∷ 255 ∷ 255 ∷ 255 ∷ 255 ∷ 255 ∷ 255 ∷ 255 ∷ 48 ∷ 255 ∷ 255 ∷ 255 ∷ 255 ∷ 255 ∷
    73 ∷ 255 ∷ 43 ∷ 255 ∷ 255 ∷ 255 ∷ 255 ∷ 31 ∷ 255 ∷ 255 ∷ 255 ∷ 255 ∷ 24 ∷ 255 ∷ 255 ∷ 255 ∷ 255 ∷ 255 ∷
    255 ∷ 255 ∷ 79 ∷ 255 ∷ 49 ∷ 255 ∷ 0 ∷ 255 ∷ 255 ∷ 64 ∷ 255 ∷ 255 ∷ 255 ∷ 15 ∷ 255 ∷ 255 ∷ 255 ∷ 255 ∷
    255 ∷ 255 ∷ 255 ∷ 255 ∷ 255 ∷ 88 ∷ 255 ∷ 255 ∷ 44 ∷ 255 ∷ 255 ∷ 255 ∷ 255 ∷ 59 ∷ 255 ∷ 255 ∷ 255 ∷
    255 ∷ 255 ∷ 255 ∷ 255 ∷ 255 ∷ 255 ∷ 4 ∷ 255 ∷ 255 ∷ 255 ∷ 255 ∷ 255 ∷ 255 ∷ 47 ∷ 255 ∷ 255 ∷ 255 ∷
    255 ∷ 255 ∷ 255 ∷ 255 ∷ 57 ∷ 255 ∷ 255 ∷ 255 ∷ 255 ∷ 255 ∷ 255 ∷ 255 ∷ 20 ∷ 255 ∷ 63 ∷ 255 ∷ 7 ∷ 255 ∷
    255 ∷ 255 ∷ 255 ∷ 255 ∷ 255 ∷ 97 ∷ 70 ∷ 255 ∷ 255 ∷ 255 ∷ 255 ∷ 255 ∷ 99 ∷ 255 ∷ 255 ∷ 12 ∷ 255 ∷ 255 ∷
    255 ∷ 255 ∷ 255 ∷ 255 ∷ 255 ∷ 255 ∷ 255 ∷ 255 ∷ 255 ∷ 255 ∷ 255 ∷ 255 ∷ 255 ∷ 255 ∷ 255 ∷ 42 ∷ 255 ∷
    255 ∷ 255 ∷ 255 ∷ 255 ∷ 255 ∷ 39 ∷ 89 ∷ 83 ∷ 255 ∷ 86 ∷ 255 ∷ 255 ∷ 255 ∷ 255 ∷ 255 ∷ 255 ∷ 255 ∷ 255 ∷
    255 ∷ 255 ∷ 84 ∷ 255 ∷ 255 ∷ 255 ∷ 255 ∷ 75 ∷ 255 ∷ 255 ∷ 255 ∷ 255 ∷ 255 ∷ 255 ∷ 255 ∷ 255 ∷ 255 ∷
    255 ∷ 58 ∷ 255 ∷ 6 ∷ 255 ∷ 255 ∷ 255 ∷ 255 ∷ 255 ∷ 255 ∷ 255 ∷ 255 ∷ 255 ∷ 255 ∷ 21 ∷ 91 ∷ 255 ∷ 255 ∷
    255 ∷ 255 ∷ 255 ∷ 255 ∷ 255 ∷ 255 ∷ 255 ∷ 255 ∷ 255 ∷ 255 ∷ 255 ∷ 255 ∷ 255 ∷ 255 ∷ 255 ∷ 255 ∷ 255 ∷
    255 ∷ 255 ∷ 255 ∷ 255 ∷ 255 ∷ 16 ∷ 255 ∷ 255 ∷ 255 ∷ 255 ∷ 255 ∷ 255 ∷ 255 ∷ 255 ∷ 255 ∷ 25 ∷ 255 ∷
    255 ∷ 55 ∷ 255 ∷ 255 ∷ 27 ∷ 255 ∷ 255 ∷ 94 ∷ 13 ∷ 255 ∷ 54 ∷ 255 ∷ 255 ∷ 255 ∷ 255 ∷ 255 ∷ 100 ∷ 255 ∷
    255 ∷ 255 ∷ 255 ∷ 255 ∷ 255 ∷ 255 ∷ 255 ∷ 255 ∷ 255 ∷ 255 ∷ 255 ∷ 67 ∷ 255 ∷ 255 ∷ 255 ∷ 74 ∷ 255 ∷
    255 ∷ 37 ∷ 255 ∷ 255 ∷ 255 ∷ 1 ∷ 255 ∷ 90 ∷ 92 ∷ 82 ∷ 255 ∷ 255 ∷ 255 ∷ 255 ∷ 255 ∷ 255 ∷ 255 ∷ 255 ∷
    255 ∷ 255 ∷ 255 ∷ 255 ∷ 255 ∷ 255 ∷ 3 ∷ 255 ∷ 255 ∷ 255 ∷ 71 ∷ 255 ∷ 255 ∷ 255 ∷ 255 ∷ 255 ∷ 255 ∷
    255 ∷ 255 ∷ 255 ∷ 41 ∷ 255 ∷ 5 ∷ 255 ∷ 255 ∷ 255 ∷ 255 ∷ 255 ∷ 255 ∷ 255 ∷ 255 ∷ 78 ∷ 255 ∷ 255 ∷ 93 ∷
    98 ∷ 255 ∷ 255 ∷ 255 ∷ 255 ∷ 255 ∷ 38 ∷ 255 ∷ 255 ∷ 76 ∷ 255 ∷ 255 ∷ 255 ∷ 255 ∷ 22 ∷ 80 ∷ 255 ∷ 255 ∷
    255 ∷ 14 ∷ 18 ∷ 255 ∷ 255 ∷ 35 ∷ 255 ∷ 255 ∷ 32 ∷ 255 ∷ 255 ∷ 95 ∷ 2 ∷ 255 ∷ 255 ∷ 255 ∷ 255 ∷ 255 ∷
    96 ∷ 255 ∷ 255 ∷ 81 ∷ 255 ∷ 255 ∷ 255 ∷ 255 ∷ 255 ∷ 29 ∷ 255 ∷ 255 ∷ 255 ∷ 255 ∷ 30 ∷ 34 ∷ 28 ∷ 72 ∷
    255 ∷ 56 ∷ 255 ∷ 255 ∷ 51 ∷ 255 ∷ 255 ∷ 255 ∷ 255 ∷ 255 ∷ 255 ∷ 255 ∷ 255 ∷ 255 ∷ 255 ∷ 255 ∷ 255 ∷
    255 ∷ 87 ∷ 255 ∷ 255 ∷ 255 ∷ 255 ∷ 255 ∷ 255 ∷ 255 ∷ 255 ∷ 52 ∷ 255 ∷ 65 ∷ 255 ∷ 9 ∷ 255 ∷ 68 ∷ 255 ∷
    255 ∷ 255 ∷ 255 ∷ []

-- end

-- the slot of a name of 3 to 16 bytes, by its two words
-- tools/calls.py: slot by the two words
abbrev pub slot_by : ℕ → ℕ → ℕ
slot_by first last =
    ((first * 15740383897854124937) % 2 ^ 64 + (last * 12311954015914930279) % 2 ^ 64) % 2 ^ 64 / 2 ^ 55

-- end

abbrev pub slot_at : List ℕ → ℕ
slot_at name = slot_by (first_word name) (last_word name)

-- the form in the slot of a name
abbrev pub form_at : List ℕ → Option Form
form_at name = slice_get all_forms (slice_index slots (slot_at name))

-- the form, where it has the name
abbrev pub if_named : List ℕ → Option Form → Option Form
if_named name None = None
if_named name (Some f) = if bytes_eq (row_of f).name name then Some f else None
