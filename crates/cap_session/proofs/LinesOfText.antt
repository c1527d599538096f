-- A text of lines that each end with LF: cut at LF, it gives those lines.
use Rattle.std.proofs.Common.{◌≡◌, ℕ, suc, ◌+◌, ◌<◌, ◌≤◌, Bool, true, false, not, List, [], ◌∷◌, ◌++◌, length}
use Rattle.std.proofs.Common.{map, refl, sym, ap, ◌∙◌, append_assoc, arith, tests, length-append}
use Rattle.std.specs.Prelude.{◌==◌, ◌^◌, decimal}
use Rattle.std.specs.List.{list_all, join_with_byte}
use Rattle.std.specs.Char.{is_ascii_digit}
use Rattle.std.proofs.lemmas.List.{append-nil}
use Rattle.std.proofs.lemmas.List.Folds.{list_all-append}
use Rattle.std.proofs.lemmas.Fmt.{digits_decimal, length-decimal-le}
use Rattle.std.proofs.lemmas.Bool.{and_parts, and_from, not-true}
use Rattle.cap_rights.specs.Rights.{IsRightSet}
use Rattle.cap_rights.specs.Text.{text}
use Rattle.cap_rights.proofs.Again.{written_is_read}
use Rattle.cap_rights.proofs.Plain.{plain, names_plain}
use Rattle.cap_trace.proofs.Numerals.{own}
use Rattle.cap_trace.proofs.Quiet.{weaken}
use Rattle.cap_session.specs.Lines.{whole_lines, last_piece, lines, line_if_any}
use Rattle.cap_session.specs.LimitScripts.{ScriptLine, bytes_of, script_text}

-- ---- no LF

abbrev pub no_lf : ℕ → Bool
no_lf c = not (c == 10)

abbrev pub has_no_lf : List ℕ → Bool
has_no_lf line = list_all no_lf line

pub no_lf_both : (xs ys : List ℕ) → has_no_lf xs ≡ true → has_no_lf ys ≡ true → has_no_lf (xs ++ ys) ≡ true
no_lf_both xs ys h k = list_all-append no_lf xs ys ∙ and_from (has_no_lf xs) (has_no_lf ys) h k

pub no_lf_joined : (words : List (List ℕ)) → list_all has_no_lf words ≡ true
    → has_no_lf (join_with_byte 32 words) ≡ true
no_lf_joined [] h = refl
no_lf_joined (w ∷ []) h = (and_parts (has_no_lf w) true h).0
no_lf_joined (w ∷ u ∷ us) h =
    let k = and_parts (has_no_lf w) (list_all has_no_lf (u ∷ us)) h in
    no_lf_both w (32 ∷ join_with_byte 32 (u ∷ us)) k.0 (no_lf_joined (u ∷ us) k.1)

digit_no_lf : (c : ℕ) → is_ascii_digit c ≡ true → no_lf c ≡ true
digit_no_lf c h = grind (arith, tests)

pub no_lf_decimal : (n : ℕ) → n < 2 ^ 64 → has_no_lf (decimal n) ≡ true
no_lf_decimal n lt = weaken is_ascii_digit no_lf digit_no_lf (decimal n) (digits_decimal own n lt)

plain_no_lf : (c : ℕ) → plain c ≡ true → no_lf c ≡ true
plain_no_lf c h = grind (arith, tests)

pub no_lf_rights : (r : ℕ) → IsRightSet r → has_no_lf (text r) ≡ true
no_lf_rights r is = weaken plain no_lf plain_no_lf (text r) (names_plain (text r) _ (written_is_read r is))

-- ---- how long a line of words is

abbrev pub room : List (List ℕ) → ℕ
room [] = 0
room (w ∷ ws) = suc (length w) + room ws

pub joined_room : (ws : List (List ℕ)) → length (join_with_byte 32 ws) ≤ room ws
joined_room [] = omega arith
joined_room (w ∷ []) = omega arith
joined_room (w ∷ u ∷ us) = omega (arith, length-append w (32 ∷ join_with_byte 32 (u ∷ us)), joined_room (u ∷ us))

pub decimal_short : (n : ℕ) → n < 2 ^ 64 → length (decimal n) ≤ 20
decimal_short n lt = length-decimal-le 20 n (omega arith) (omega (arith, lt)) lt

-- ---- the lines

line_cut : (held xs ys : List ℕ) → has_no_lf xs ≡ true
    → (whole_lines held (xs ++ 10 ∷ ys) ≡ (held ++ xs) ∷ whole_lines [] ys)
    × (last_piece held (xs ++ 10 ∷ ys) ≡ last_piece [] ys)
unfolding whole_lines last_piece
line_cut held [] ys h = (ap (λ l. l ∷ whole_lines [] ys) (sym (append-nil held)), refl)
line_cut held (b ∷ xs) ys h =
    let k = and_parts (no_lf b) (has_no_lf xs) h in
    let none : (b == 10) ≡ false = not-true _ k.0 in
    let rest = line_cut (held ++ b ∷ []) xs ys k.1 in
    (rw none (rest.0 ∙ ap (λ l. l ∷ whole_lines [] ys) (append_assoc held (b ∷ []) xs)), rw none rest.1)

abbrev pub AllHaveNoLf : List ScriptLine → Type 0
AllHaveNoLf [] = Unit {0}
AllHaveNoLf (line ∷ more) = (has_no_lf (bytes_of line) ≡ true) × AllHaveNoLf more

script_cut : (script : List ScriptLine) → AllHaveNoLf script
    → (whole_lines [] (script_text script) ≡ map bytes_of script) × (last_piece [] (script_text script) ≡ [])
unfolding whole_lines last_piece
script_cut [] h = (refl, refl)
script_cut (line ∷ more) h =
    let same : script_text (line ∷ more) ≡ bytes_of line ++ 10 ∷ script_text more =
    append_assoc (bytes_of line) (10 ∷ []) (script_text more) in
    let cut = line_cut [] (bytes_of line) (script_text more) h.0 in
    let rest = script_cut more h.1 in (
      ap (whole_lines []) same ∙ cut.0 ∙ ap (λ (ls : List (List ℕ)). bytes_of line ∷ ls) rest.0,
      ap (last_piece []) same ∙ cut.1 ∙ rest.1,
    )

-- the lines of a script's text are its lines
pub script_lines : (script : List ScriptLine) → AllHaveNoLf script → lines (script_text script) ≡ map bytes_of script
script_lines script h =
    let cut = script_cut script h in
    ap (λ (l : List (List ℕ)). l ++ line_if_any (last_piece [] (script_text script))) cut.0
    ∙ ap (λ (p : List ℕ). map bytes_of script ++ line_if_any p) cut.1 ∙ append-nil (map bytes_of script)
