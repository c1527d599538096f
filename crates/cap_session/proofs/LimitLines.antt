-- The lines that the script of `limits` inserts: what spells them, and what a line of a script with one asks for.
use Rattle.std.proofs.Common.{◌≡◌, ℕ, ◌+◌, ◌<◌, ◌≤◌, Bool, true, false, not, List, [], ◌∷◌, ◌++◌, length, refl, sym}
use Rattle.std.proofs.Common.{ap, ◌∙◌, arith, length-append}
use Rattle.std.specs.Prelude.{◌==◌, ◌^◌, codes, decimal, Ok, Some}
use Rattle.std.specs.List.{list_all}
use Rattle.std.proofs.lemmas.Bool.{and_parts, not-true}
use Rattle.std.proofs.lemmas.Fmt.{digits_decimal}
use Rattle.cap_rights.specs.Text.{names, text, included}
use Rattle.cap_rights.proofs.Again.{written_is_read, named_is_read}
use Rattle.cap_rights.proofs.Short.{text_is_short}
use Rattle.cap_trace.specs.Entry.{Entry, IsPid}
use Rattle.cap_trace.specs.Reading.{line_of}
use Rattle.cap_trace.specs.Spelling.{canon, Spells}
use Rattle.cap_trace.proofs.Numerals.{own, num_again}
use Rattle.cap_trace.proofs.WholeLines.{line_again, digits_lack}
use Rattle.cap_limits.specs.Limits.{Row}
use Rattle.cap_session.specs.Commands.{asked, asked_with, first_word, after_word, position, insert_line}
use Rattle.cap_session.specs.LimitScripts.{limit_line, enter_line, bytes_of, insertion}
use Rattle.cap_session.specs.LimitScriptLaws.{IsNamed}
use Rattle.cap_session.proofs.LimitPremises.{IsRow}
use Rattle.cap_session.proofs.LinesOfText.{has_no_lf, no_lf_both, no_lf_decimal, no_lf_rights, decimal_short}

-- ---- what is inserted

-- a line in its parts
parts_length : (p n a r : List ℕ)
    → length (p ++ (32 ∷ (n ++ (40 ∷ (a ++ (41 ∷ r)))))) ≡ length p + (length n + (length a + (length r + 3)))
parts_length p n a r = simp length-append (omega arith)

two_length : (f t : List ℕ) → length (f ++ (44 ∷ t)) ≡ length f + (length t + 1)
two_length f t = simp length-append (omega arith)

pub limit_short : (p : ℕ) (row : Row) → IsPid p → IsRow row → length (canon (limit_line p row)) ≤ 1024
limit_short p row pid is =
    let long = parts_length (decimal p) (codes "cap_rights_limit") (decimal row.0 ++ (44 ∷ text row.1))
    (codes " RET " ++ decimal 0) in
    let args = two_length (decimal row.0) (text row.1) in
    omega (
      arith,
      long,
      args,
      decimal_short p (omega (arith, pid.1)),
      decimal_short row.0 (omega (arith, is.0)),
      text_is_short row.1,
      decimal_short 0 (omega arith),
    )

pub limit_spelled : (p : ℕ) (row : Row) → IsPid p → IsRow row
    → Spells (canon (limit_line p row)) (limit_line p (row.0, included row.1))
limit_spelled p row pid is = (
  decimal row.0 ∷ text row.1 ∷ [],
  record {
    short = limit_short p row pid is;
    pid = pid;
    head = tt;
    args = ((refl, is.0), (written_is_read row.1 is.1, tt));
    whole = refl;
    parts = refl;
  },
)

pub enter_short : (p : ℕ) → IsPid p → length (canon (enter_line p)) ≤ 1024
enter_short p pid =
    let long = parts_length (decimal p) (codes "cap_enter") [] (codes " RET " ++ decimal 0) in
    omega (arith, long, decimal_short p (omega (arith, pid.1)), decimal_short 0 (omega arith))

pub enter_spelled : (p : ℕ) → IsPid p → Spells (canon (enter_line p)) (enter_line p)
enter_spelled p pid =
    ([], record { short = enter_short p pid; pid = pid; head = tt; args = tt; whole = refl; parts = refl })

pub limit_read : (p : ℕ) (row : Row) → IsPid p → IsRow row
    → line_of (canon (limit_line p row)) ≡ Ok (limit_line p (row.0, included row.1))
limit_read p row pid is = line_again _ _ (limit_spelled p row pid is)

pub enter_read : (p : ℕ) → IsPid p → line_of (canon (enter_line p)) ≡ Ok (enter_line p)
enter_read p pid = line_again _ _ (enter_spelled p pid)

-- rights that a text names are read as they are
pub named_read : (p : ℕ) (row : Row) → IsPid p → IsRow row → IsNamed row.1
    → line_of (canon (limit_line p row)) ≡ Ok (limit_line p row)
named_read p row pid is named =
    let again : names (text row.1) ≡ Some row.1 = named_is_read named.0 row.1 named.1 in
    let read : names (text row.1) ≡ Some (included row.1) = written_is_read row.1 is.1 in
    let same : included row.1 ≡ row.1 = (let both = sym read ∙ again in cc) in
    limit_read p row pid is ∙ ap (λ (r : ℕ). Ok (limit_line p (row.0, r))) same

-- ---- without LF

limit_no_lf_parts : (p f r a : List ℕ) → has_no_lf p ≡ true → has_no_lf f ≡ true → has_no_lf r ≡ true
    → has_no_lf a ≡ true →
    has_no_lf (p ++ (32 ∷ (codes "cap_rights_limit" ++ (40 ∷ ((f ++ (44 ∷ r)) ++ (41 ∷ (codes " RET " ++ a))))))) ≡ true
limit_no_lf_parts p f r a hp hf hr ha =
    let args = no_lf_both f (44 ∷ r) hf hr in
    let rest = no_lf_both (f ++ (44 ∷ r)) (41 ∷ (codes " RET " ++ a)) args ha in
    no_lf_both p (32 ∷ (codes "cap_rights_limit" ++ (40 ∷ ((f ++ (44 ∷ r)) ++ (41 ∷ (codes " RET " ++ a)))))) hp rest

pub limit_no_lf : (p : ℕ) (row : Row) → IsPid p → IsRow row → has_no_lf (canon (limit_line p row)) ≡ true
limit_no_lf p row pid is = limit_no_lf_parts (decimal p) (decimal row.0) (text row.1) (decimal 0)
    (no_lf_decimal p (omega (arith, pid.1))) (no_lf_decimal row.0 (omega (arith, is.0))) (no_lf_rights row.1 is.1)
    (no_lf_decimal 0 (omega arith))

pub enter_no_lf : (p : ℕ) → IsPid p → has_no_lf (canon (enter_line p)) ≡ true
enter_no_lf p pid =
    no_lf_both (decimal p) (codes " cap_enter() RET " ++ decimal 0) (no_lf_decimal p (omega (arith, pid.1)))
    (no_lf_decimal 0 (omega arith))

-- ---- what is asked for

abbrev lacks_space : List ℕ → Bool
lacks_space word = list_all (λ c. not (c == 32)) word

word_cut : (word rest : List ℕ) → lacks_space word ≡ true
    → (first_word (word ++ 32 ∷ rest) ≡ word) × (after_word (word ++ 32 ∷ rest) ≡ Some rest)
unfolding first_word after_word
word_cut [] rest h = (refl, refl)
word_cut (b ∷ word) rest h =
    let k = and_parts (not (b == 32)) (lacks_space word) h in
    let none : (b == 32) ≡ false = not-true _ k.0 in
    let more = word_cut word rest k.1 in
    (rw none (ap (λ (l : List ℕ). b ∷ l) more.0), rw none more.1)

insert_asked : (rest : List ℕ) → asked (codes "insert" ++ (32 ∷ rest)) ≡ asked_with (codes "insert") rest
unfolding first_word after_word
insert_asked rest = refl

pub asks_insert : (at : ℕ) (line : Entry) → at ≤ 9999999999999999999
    → asked (bytes_of (insertion at line)) ≡ insert_line at (canon line)
asks_insert at line le =
    let small : at < 2 ^ 64 = omega (arith, le) in
    let cut = word_cut (decimal at) (canon line) (digits_lack (decimal at) (digits_decimal own at small)) in
    let number : position (decimal at) ≡ Some at = num_again 9999999999999999999 at le small in
    insert_asked (decimal at ++ (32 ∷ canon line)) ∙ (rw (cut.0, cut.1, number) refl)
