-- The script of `limits` is accepted.
use Rattle.std.proofs.Common.{◌≡◌, ℕ, suc, ◌+◌, ◌-◌, ◌<◌, ◌≤◌, ◌⊎◌, ◌&&◌, Bool, true, false, leb, List, [], ◌∷◌, ◌++◌}
use Rattle.std.proofs.Common.{length, map, refl, sym, ap, ◌∙◌, subst, inl, inr, arith}
use Rattle.std.specs.Prelude.{nat_le, nat_lt, codes, decimal, insert, Option, Result, Ok, Err, Some}
use Rattle.std.specs.List.{All, list_all}
use Rattle.std.proofs.lemmas.List.Edits.{length-insert}
use Rattle.std.specs.Str.{bytes_eq}
use Rattle.std.proofs.lemmas.List.{length-append}
use Rattle.std.proofs.lemmas.Bool.{and_from, and_parts, le-leb, le-ltb}
use borrow.Author.Tests.{leb-true, leb-false}
use Rattle.cap_rights.proofs.Short.{text_is_short}
use Rattle.cap_trace.specs.Entry.{Entry, IsPid, head_of, head_of_call}
use Rattle.cap_trace.specs.Item.{Item}
use Rattle.cap_trace.specs.Call.{Call}
use Rattle.cap_trace.specs.declared.line.Answer.{Answer}
use Rattle.cap_trace.specs.declared.calls.Form.TheVariants as forms
use Rattle.cap_trace.specs.Item as items
use Rattle.cap_trace.specs.Call as calls
use Rattle.cap_trace.specs.Names.{Head, name_of, row_of, all_forms, listed}
use Rattle.cap_trace.specs.declared.calls.Form.{Form}
use Rattle.cap_trace.specs.Reading.{line_of}
use Rattle.cap_trace.specs.Spelling.{canon}
use Rattle.cap_trace.proofs.Heads.{find_takes, form_again}
use Rattle.cap_limits.specs.Limits.{Row, row_of as line_row}
use Rattle.cap_limits.specs.declared.limits.Limits.{Limits}
use Rattle.cap_machine.specs.Judge.{is_forbidden}
use Rattle.cap_machine.specs.Rule.{requirement, call_requirement, item_requirement}
use Rattle.cap_session.specs.declared.session.Setting.{Setting}
use Rattle.cap_limits.specs.declared.makers.MakerLimit.{MakerLimit}
use Rattle.cap_limits.specs.declared.makers.MakerRow.{MakerRow}
use Rattle.cap_limits.specs.declared.makers.MakerRow.TheVariants as made
use Rattle.cap_session.specs.declared.edit.Edit.TheVariants.{Insert}
use Rattle.cap_session.specs.declared.refused.Refused.{Refused}
use Rattle.cap_session.specs.declared.refused.Refused.TheVariants.{Full}
use Rattle.cap_session.specs.Commands.{Asked, asked}
use Rattle.cap_session.specs.Edits.{inserted, is_position}
use Rattle.cap_session.specs.Limits.{most_lines}
use Rattle.cap_session.specs.Lines.{lines}
use Rattle.cap_session.specs.Refusal.{refused_text}
use Rattle.cap_session.specs.Replies.{ScriptState, begun}
use Rattle.cap_session.specs.Scripts.{Answers, Commands, Run}
use Rattle.cap_session.specs.Trace.{is_skipped}
use Rattle.cap_session.specs.LimitScripts.{ScriptLine, comment, insertion, bytes_of, words_of, script_text, insertions}
use Rattle.cap_limits.specs.declared.limits.Entering.{Entering}
use Rattle.cap_limits.specs.declared.limits.Entering.TheVariants.{Inside, Blocked, May}
use Rattle.cap_session.specs.LimitScripts.{limit_line, enter_line, made_words, makers_script, process_script}
use Rattle.cap_session.specs.LimitScripts.{place_words, begins_words, beginning_script, unknown_words, inside_words}
use Rattle.cap_session.specs.LimitScripts.{blocked_words, call_text, entering_line, unknown_lines}
use Rattle.cap_session.specs.LimitScriptLaws.{Accepts, ok_text}
use Rattle.cap_session.specs.LimitStreams.{limits_script}
use Rattle.cap_session.proofs.LimitPremises.{IsRow, StandsInTheWay, IsMakerLimit, IsSpelledRow, ProcessFacts}
use Rattle.cap_session.proofs.LimitLines.{limit_short, limit_read, limit_no_lf, enter_short, enter_read, enter_no_lf}
use Rattle.cap_session.proofs.LimitLines.{asks_insert}
use Rattle.cap_session.proofs.LinesOfText.{has_no_lf, no_lf_both, no_lf_joined, no_lf_decimal, no_lf_rights, room}
use Rattle.cap_session.proofs.LinesOfText.{joined_room, decimal_short, AllHaveNoLf, script_lines}
use Rattle.cap_session.proofs.Scripted.{EditReplied, edit_replied}

-- ---- lines that fit a script

record FitsComment (words : List (List ℕ)) : Type 0 where
  no_lf : has_no_lf (bytes_of (comment words)) ≡ true
  short : length (bytes_of (comment words)) ≤ 1056

record FitsTrace (n at : ℕ) (line : Entry) : Type 0 where
  low : 1 ≤ at
  high : at ≤ n + 1
  small : at ≤ 9999999999999999999
  no_lf : has_no_lf (canon line) ≡ true
  short : length (canon line) ≤ 1024
  put : Entry
  read : line_of (canon line) ≡ Ok put

-- each line of a script fits, from a trace of n lines
abbrev Fits : ℕ → List ScriptLine → Type 0
Fits n [] = Unit {0}
Fits n (comment words ∷ more) = FitsComment words × Fits n more
Fits n (insertion at line ∷ more) = FitsTrace n at line × Fits (n + 1) more

-- ---- one line

-- what an insertion does
record Put (t : List Entry) (at : ℕ) (line : Entry) (reply : List ℕ) (u : List Entry) : Type 0 where
  says : reply ≡ ok_text (length t + 1)
  stands : u ≡ insert t (at - 1) line
  fewer : length t < 1000000

abbrev Does : List Entry → ℕ → Entry → List ℕ → List Entry → Type 0
Does t at line reply u = Put t at line reply u
    ⊎ (((reply ≡ refused_text 8) × (most_lines ≤ length t)) ⊎ (reply ≡ refused_text 9))

insertion_room : (at : ℕ) (line : Entry) → at < 18446744073709551616 → length (canon line) ≤ 1024
    → length (bytes_of (insertion at line)) ≤ 1056
insertion_room at line small short =
    omega (arith, joined_room (words_of (insertion at line)), decimal_short at small, short)

-- a position that is one, in a trace with room or without
inserted_is : (full : Bool) (t : List Entry) (at : ℕ) (line put : Entry) → nat_le 1000000 (length t) ≡ full
    → 1 ≤ at → at ≤ length t + 1 → line_of (canon line) ≡ Ok put →
    inserted most_lines t at (canon line) ≡ (elim full as (λ _. Result (List Entry) Refused) [
      | true ↦ Err Full
      | false ↦ Ok (insert t (at - 1) put)
    ])
inserted_is true t at line put full low high read =
    let here : is_position at (length t + 1) ≡ true = and_from _ _ (le-leb 1 at low) (le-leb at (length t + 1) high) in
    rw (here, full) refl
inserted_is false t at line put full low high read =
    let here : is_position at (length t + 1) ≡ true = and_from _ _ (le-leb 1 at low) (le-leb at (length t + 1) high) in
    rw (here, full, read) refl

replied : (full : Bool) (t u : List Entry) (at : ℕ) (put : Entry) (reply : List ℕ) → nat_le 1000000 (length t) ≡ full
    → at ≤ length t + 1 →
    EditReplied t (elim full as (λ _. Result (List Entry) Refused) [
      | true ↦ Err Full
      | false ↦ Ok (insert t (at - 1) put)
    ]) reply u → Does t at put reply u
replied true t u at put reply full high (v, moves, is) = inr (inl (is, leb-true _ _ full))
replied false t u at put reply full high (true, moves, is) = inr (inr is)
replied false t u at put reply full high (false, moves, is) =
    inl (record {
      says = is ∙ ap ok_text (length-insert t (at - 1) put (omega (arith, high)));
      stands = moves;
      fewer = leb-false _ _ full;
    })

inserts : (setting : Setting) (t u : ScriptState) (at : ℕ) (line : Entry) (reply : List ℕ) → length t.trace ≤ 1000000
    → (fits : FitsTrace (length t.trace) at line) → Answers setting t (bytes_of (insertion at line)) reply u →
    Does t.trace at fits.put reply u.trace
inserts setting t u at line reply few fits is =
    let small = fits.small in
    let short : nat_lt 1056 (length (bytes_of (insertion at line))) ≡ false =
    le-ltb _ _ (insertion_room at line (omega (arith, small)) fits.short) in
    let does : Commands setting t (asked (bytes_of (insertion at line))) reply u = rw short at is in
    let edit = edit_replied setting t u reply (Insert at (record { ref_ptr = (0, 0); now = canon line }))
    (subst (λ (a : Asked). Commands setting t a reply u) (asks_insert at line small) does) in
    let made = inserted_is _ t.trace at line fits.put refl fits.low fits.high fits.read in
    replied _ t.trace u.trace at fits.put reply refl fits.high
    (subst (λ (r : Result (List Entry) Refused). EditReplied t.trace r reply u.trace) made edit)

comment_skipped : (words : List (List ℕ)) → is_skipped (bytes_of (comment words)) ≡ true
comment_skipped [] = refl
comment_skipped (w ∷ ws) = refl

skips : (setting : Setting) (t u : ScriptState) (words : List (List ℕ)) (reply : List ℕ) → FitsComment words
    → Answers setting t (bytes_of (comment words)) reply u → (reply ≡ []) × (u ≡ t)
skips setting t u words reply fits is =
    let short : nat_lt 1056 (length (bytes_of (comment words))) ≡ false = le-ltb _ _ fits.short in
    let skipped = comment_skipped words in
    rw (short, skipped) at is

-- ---- all lines

accepts : (setting : Setting) (t left : ScriptState) (script : List ScriptLine) (replies : List ℕ)
    → length t.trace ≤ 1000000 → Fits (length t.trace) script → Run setting t (map bytes_of script) replies left
    → Accepts t.trace script replies left.trace
accepts setting t left [] replies few fits run = (run.0, ap (λ (s : ScriptState). s.trace) run.1)
accepts setting t left (comment words ∷ more) replies few fits run =
    let (first, mid, rest, is, others, cut) = run in
    let none = skips setting t mid words first fits.0 is in
    let same : replies ≡ rest = cut ∙ ap (λ (f : List ℕ). f ++ rest) none.0 in
    subst (λ (r : List ℕ). Accepts t.trace more r left.trace) (sym same) (accepts setting t left more rest few fits.1
    (subst (λ (u : ScriptState). Run setting u (map bytes_of more) rest left) none.1 others))
accepts setting t left (insertion at line ∷ more) replies few fits run =
    let (first, mid, rest, is, others, cut) = run in
    elim (inserts setting t mid at line first few fits.0 is) [
      | inl put ↦
          let fewer = put.fewer in
          let next : List Entry = insert t.trace (at - 1) fits.0.put in
          let high = fits.0.high in
          let long : length mid.trace ≡ length t.trace + 1 = ap length put.stands
          ∙ length-insert t.trace (at - 1) fits.0.put (omega (arith, high)) in
          inl (
            fits.0.put,
            rest,
            fits.0.read,
            cut ∙ ap (λ (f : List ℕ). f ++ rest) put.says,
            subst (λ (u : List Entry). Accepts u more rest left.trace) put.stands
                (accepts setting mid left more rest (omega (arith, long, fewer))
                (subst (λ (n : ℕ). Fits n more) (sym long) fits.1) others),
          )
      | inr stops ↦ elim stops [
        | inl full ↦ inr (rest, inl (cut ∙ ap (λ (f : List ℕ). f ++ rest) full.0, full.1))
        | inr ran_out ↦ inr (rest, inr (cut ∙ ap (λ (f : List ℕ). f ++ rest) ran_out))
      ]
    ]

insertion_no_lf : (at : ℕ) (line : Entry) → at < 18446744073709551616 → has_no_lf (canon line) ≡ true
    → has_no_lf (bytes_of (insertion at line)) ≡ true
insertion_no_lf at line small no_lf = no_lf_both (decimal at) (32 ∷ canon line) (no_lf_decimal at small) no_lf

-- no line of a script that fits has an LF
all_no_lf : (n : ℕ) (script : List ScriptLine) → Fits n script → AllHaveNoLf script
all_no_lf n [] fits = tt
all_no_lf n (comment words ∷ more) fits = (fits.0.no_lf, all_no_lf n more fits.1)
all_no_lf n (insertion at line ∷ more) fits =
    let small = fits.0.small in
    (insertion_no_lf at line (omega (arith, small)) fits.0.no_lf, all_no_lf (n + 1) more fits.1)

text_accepted : (setting : Setting) (t left : ScriptState) (script : List ScriptLine) (replies : List ℕ)
    → length t.trace ≤ 1000000 → Fits (length t.trace) script → Run setting t (lines (script_text script)) replies left
    → Accepts t.trace script replies left.trace
text_accepted setting t left script replies few fits run = accepts setting t left script replies few fits
    (subst (λ (l : List (List ℕ)). Run setting t l replies left)
    (script_lines script (all_no_lf (length t.trace) script fits)) run)

-- ---- after the lines that made descriptors

rest_of : {X : Type 0} (P : X → Type 0) (x : X) (xs : List X) → All P (x ∷ xs) → All P xs
rest_of P x xs all = λ k d lt. all (suc k) d (omega (arith, lt))

first_of : {X : Type 0} (P : X → Type 0) (x : X) (xs : List X) → All P (x ∷ xs) → P x
first_of P x xs all = all 0 x (omega arith)

limit_fits : (n at p : ℕ) (row : Row) → 1 ≤ at → at ≤ n + 1 → at ≤ 9999999999999999999 → IsPid p → IsRow row
    → FitsTrace n at (limit_line p row)
limit_fits n at p row low high small pid is = record {
  low = low;
  high = high;
  small = small;
  no_lf = limit_no_lf p row pid is;
  short = limit_short p row pid is;
  put = _;
  read = limit_read p row pid is;
}

words_fit : (words : List (List ℕ)) → list_all has_no_lf words ≡ true → room words ≤ 1000 → FitsComment words
words_fit words no_lf short =
    let all : list_all has_no_lf (words_of (comment words)) ≡ true = no_lf in
    record {
      no_lf = no_lf_joined (words_of (comment words)) all;
      short = omega (arith, joined_room (words_of (comment words)), short);
    }

made_fits : (t : List Entry) (limit : MakerLimit) → length t ≤ 1000000 → IsMakerLimit t limit
    → FitsComment (made_words limit)
made_fits t limit few (high, pid, row) =
    let own : limit.pid ≤ 99999 = pid.1 in
    let small_pid : limit.pid < 18446744073709551616 = omega (arith, own) in
    let small_at : limit.at < 18446744073709551616 = omega (arith, high, few) in
    let fd = row.0 in
    let small_fd : limit.fd < 18446744073709551616 = omega (arith, fd) in
    words_fit (made_words limit)
    (and_from _ _ (no_lf_decimal limit.fd small_fd)
    (and_from _ _ (no_lf_both (decimal limit.pid) (codes ", made at line") (no_lf_decimal limit.pid small_pid) refl)
    (and_from _ _
    (no_lf_both (decimal limit.at) (codes ", isn't known; later calls need") (no_lf_decimal limit.at small_at) refl)
    (and_from _ _ (no_lf_rights limit.rights row.1) refl))))
    (omega (
      arith,
      length-append (decimal limit.pid) (codes ", made at line"),
      length-append (decimal limit.at) (codes ", isn't known; later calls need"),
      decimal_short limit.fd small_fd,
      decimal_short limit.pid small_pid,
      decimal_short limit.at small_at,
      text_is_short limit.rights,
    ))

makers_fit : (t : List Entry) (n : ℕ) (rows : List MakerRow) → length t ≤ n → length t ≤ 1000000
    → All (IsSpelledRow t) rows → Fits n (makers_script rows)
makers_fit t n [] le few all = tt
makers_fit t n (made.Held limit ∷ more) le few all =
    let one = first_of (IsSpelledRow t) (made.Held limit) more all in
    let at = one.0.0 in (
      limit_fits n (limit.at + 1) limit.pid (limit.fd, limit.rights) (omega arith) (omega (arith, at, le))
          (omega (arith, at, few)) one.0.1 one.0.2,
      makers_fit t (n + 1) more (omega (arith, le)) few (rest_of (IsSpelledRow t) (made.Held limit) more all),
    )
makers_fit t n (made.Unknown limit ∷ more) le few all = (
  made_fits t limit few (first_of (IsSpelledRow t) (made.Unknown limit) more all),
  makers_fit t n more le few (rest_of (IsSpelledRow t) (made.Unknown limit) more all),
)

-- `edit` accepts each line of it, while the trace has room and memory is there
pub makers_accepted : (setting : Setting) (t : List Entry) (left : ScriptState) (rows : List MakerRow) (replies : List ℕ)
    → length t ≤ most_lines → All (IsSpelledRow t) rows
    → Run setting (begun t) (lines (script_text (makers_script rows))) replies left
    → Accepts t (makers_script rows) replies left.trace
makers_accepted setting t left rows replies few all run =
    text_accepted setting (begun t) left (makers_script rows) replies few
    (makers_fit t (length t) rows (omega arith) few all) run

-- ---- of one process

rows_fit : (n at p : ℕ) (rows : List Row) (others : List ScriptLine) → 1 ≤ at → at ≤ n + 1
    → at + length rows ≤ 9999999999999999999 → IsPid p → All IsRow rows → Fits (n + length rows) others →
    Fits n (insertions at (map (limit_line p) rows) ++ others)
rows_fit n at p [] others low high small pid all fits =
    let same : n + 0 ≡ n = omega arith in
    subst (λ (m : ℕ). Fits m others) same fits
rows_fit n at p (row ∷ rows) others low high small pid all fits =
    let same : n + suc (length rows) ≡ n + 1 + length rows = omega arith in (
      limit_fits n at p row low high (omega (arith, small)) pid (first_of IsRow row rows all),
      rows_fit (n + 1) (at + 1) p rows others (omega arith) (omega (arith, high)) (omega (arith, small)) pid
          (rest_of IsRow row rows all) (subst (λ (m : ℕ). Fits m others) same fits),
    )

place_fits : (p k : ℕ) → p ≤ 99999 → k ≤ 1000000 → FitsComment (place_words p k)
place_fits p k pid at = words_fit (place_words p k)
    (and_from _ _ (no_lf_decimal p (omega (arith, pid))) (and_from _ _ (no_lf_decimal k (omega (arith, at))) refl))
    (omega (arith, decimal_short p (omega (arith, pid)), decimal_short k (omega (arith, at))))

unknown_fits : (row : Row) → IsRow row → FitsComment (unknown_words row)
unknown_fits row is =
    let fd = is.0 in
    words_fit (unknown_words row)
    (and_from _ _ (no_lf_decimal row.0 (omega (arith, fd))) (and_from _ _ (no_lf_rights row.1 is.1) refl))
    (omega (arith, decimal_short row.0 (omega (arith, fd)), text_is_short row.1))

inside_fits : (p : ℕ) → p ≤ 99999 → FitsComment (inside_words p)
inside_fits p pid =
    words_fit (inside_words p) (and_from _ _ (no_lf_decimal p (omega (arith, pid))) refl)
    (omega (arith, decimal_short p (omega (arith, pid))))

all_unknown_fit : (n : ℕ) (unknown : List Row) (others : List ScriptLine) → All IsRow unknown → Fits n others
    → Fits n (unknown_lines unknown ++ others)
all_unknown_fit n [] others all fits = fits
all_unknown_fit n (row ∷ rows) others all fits = (
  unknown_fits row (first_of IsRow row rows all),
  all_unknown_fit n rows others (rest_of IsRow row rows all) fits,
)

-- ---- the line in the way

-- no name of the table has an LF, and none is long
abbrev is_short_name : List ℕ → Bool
is_short_name name = has_no_lf name && leb (length name) 40

short_names : list_all (λ f. is_short_name (row_of f).name) all_forms ≡ true
unfolding all_forms
short_names = refl

listed_short : (f : Form) → is_short_name (row_of f).name ≡ true
listed_short f = (find_takes (λ g. bytes_eq (row_of g).name (row_of f).name) (λ g. is_short_name (row_of g).name)
    all_forms f short_names (form_again f)).1

-- a call that capability mode forbids is one of the table
call_listed : (c : Call) (a : Answer) → is_forbidden (call_requirement c a).class ≡ true
    → (f : Form) × (head_of_call c ≡ listed f)
call_listed (calls.OnFd c x) a h = (forms.OnFd c, refl)
call_listed (calls.Send c x) a h = (forms.Send c, refl)
call_listed (calls.SendTo c x) a h = (forms.Send c, refl)
call_listed (calls.Accept4 x y) a h = (forms.Accept4, refl)
call_listed (calls.Dup2 x y) a h = (forms.Dup2, refl)
call_listed (calls.Fcntl x y) a h = (forms.Fcntl, refl)
call_listed (calls.FcntlDup c x y) a h = (forms.Fcntl, refl)
call_listed (calls.FcntlSetFd x y) a h = (forms.Fcntl, refl)
call_listed (calls.Mmap x y z) a h = (forms.Mmap, refl)
call_listed (calls.RightsLimit x y) a h = (forms.RightsLimit, refl)
call_listed (calls.Open x y) a h = (forms.Open, refl)
call_listed (calls.OnPath c x) a h = (forms.OnPath c, refl)
call_listed (calls.OnPaths c x y) a h = (forms.OnPaths c, refl)
call_listed (calls.At c x y) a h = (forms.At c, refl)
call_listed (calls.AtFlags c x y z) a h = (forms.AtFlags c, refl)
call_listed (calls.SymlinkAt x y z) a h = (forms.SymlinkAt, refl)
call_listed (calls.RenameAt x y z u) a h = (forms.RenameAt, refl)
call_listed (calls.LinkAt x y z u v) a h = (forms.LinkAt, refl)
call_listed (calls.OnFlags c x) a h = (forms.OnFlags c, refl)
call_listed (calls.Bare c) a h = (forms.Bare c, refl)
call_listed (calls.Other n args) a h = absurd cc

item_listed : (i : Item) → is_forbidden (item_requirement i).class ≡ true → (f : Form) × (head_of i ≡ listed f)
item_listed (items.Call c a) h = call_listed c a h
item_listed (items.Start fs) h = absurd cc
item_listed items.Exit h = absurd cc
item_listed (items.Foreign f) h = absurd cc
item_listed (items.Needs m f r) h = absurd cc
item_listed items.Global h = (forms.Global, refl)

name_short : (line : Entry) → is_forbidden (requirement line).class ≡ true
    → is_short_name (name_of (head_of line.item)) ≡ true
name_short line h =
    let l = item_listed line.item h in
    ap (λ (x : Head). is_short_name (name_of x)) l.1 ∙ listed_short l.0

call_fits : (line : Entry) → IsPid line.pid → is_forbidden (requirement line).class ≡ true
    → (has_no_lf (call_text (Some line)) ≡ true) × (length (call_text (Some line)) ≤ 74)
call_fits line pid forbidden =
    let name : List ℕ = name_of (head_of line.item) in
    let first : List ℕ = codes ", " ++ name in
    let second : List ℕ = first ++ codes " of process " in
    let short = and_parts (has_no_lf name) (leb (length name) 40) (name_short line forbidden) in
    let long : length name ≤ 40 = leb-true _ _ short.1 in
    let p : line.pid < 18446744073709551616 = (let few = pid.1 in omega (arith, few)) in (
      no_lf_both second (decimal line.pid) (no_lf_both first (codes " of process ")
          (no_lf_both (codes ", ") name refl short.0) refl) (no_lf_decimal line.pid p),
      omega (
        arith,
        length-append (codes ", ") name,
        length-append first (codes " of process "),
        length-append second (decimal line.pid),
        long,
        decimal_short line.pid p,
      ),
    )

blocked_fits : (n : ℕ) (line : Entry) → n ≤ 1000000 → IsPid line.pid → is_forbidden (requirement line).class ≡ true
    → FitsComment (blocked_words n (Some line))
blocked_fits n line most pid forbidden =
    let call = call_fits line pid forbidden in
    words_fit (blocked_words n (Some line))
    (and_from _ _ (no_lf_both (decimal n) (call_text (Some line)) (no_lf_decimal n (omega (arith, most))) call.0) refl)
    (omega (
      arith,
      length-append (decimal n) (call_text (Some line)),
      decimal_short n (omega (arith, most)),
      call.1,
    ))

-- ---- the whole script of a process

entering_fits : (t : List Entry) (n p at : ℕ) (e : Entering) → StandsInTheWay t e → length t ≤ 1000000 → IsPid p
    → 1 ≤ at → at ≤ n + 1 → at ≤ 9999999999999999999 → Fits n (entering_line t p at e ∷ [])
entering_fits t n p at May stands few pid low high small = (
  record {
    low = low;
    high = high;
    small = small;
    no_lf = enter_no_lf p pid;
    short = enter_short p pid;
    put = enter_line p;
    read = enter_read p pid;
  },
  tt,
)
entering_fits t n p at Inside stands few pid low high small = (inside_fits p pid.1, tt)
entering_fits t n p at (Blocked k) stands few pid low high small =
    let (line, found, first, last, own, forbidden) = stands in (
      subst (λ (o : Option Entry). FitsComment (blocked_words k o)) (sym found)
          (blocked_fits k line (omega (arith, last, few)) own forbidden),
      tt,
    )

process_fits : (t : List Entry) (p k : ℕ) (rows unknown : List Row) (e : Entering) → length t ≤ 1000000 → 1 ≤ k
    → k ≤ length t → length rows ≤ 4294967296 → IsPid p → All IsRow rows → All IsRow unknown → StandsInTheWay t e
    → Fits (length t) (process_script t p k rows unknown e)
process_fits t p k rows unknown e few low high some pid known others stands = (
  place_fits p k pid.1 (omega (arith, high, few)),
  rows_fit (length t) k p rows (unknown_lines unknown ++ entering_line t p (k + length rows) e ∷ []) low
      (omega (arith, high)) (omega (arith, high, few, some)) pid known
      (all_unknown_fit (length t + length rows) unknown (entering_line t p (k + length rows) e ∷ []) others
      (entering_fits t (length t + length rows) p (k + length rows) e stands few pid (omega (arith, low))
      (omega (arith, high)) (omega (arith, high, few, some)))),
)

begins_fits : (p k : ℕ) → p ≤ 99999 → k ≤ 1000000 → FitsComment (begins_words p k)
begins_fits p k pid at = words_fit (begins_words p k)
    (and_from _ _ (no_lf_decimal k (omega (arith, at))) (and_from _ _ (no_lf_decimal p (omega (arith, pid))) refl))
    (omega (arith, decimal_short p (omega (arith, pid)), decimal_short k (omega (arith, at))))

-- so too of no line at all
pub nothing_accepted : (setting : Setting) (t : List Entry) (left : ScriptState) (replies : List ℕ) → length t ≤ most_lines
    → Run setting (begun t) (lines (script_text [])) replies left → Accepts t [] replies left.trace
nothing_accepted setting t left replies few run = text_accepted setting (begun t) left [] replies few tt run

-- and where the process begins
pub beginning_accepted : (setting : Setting) (t : List Entry) (left : ScriptState) (p k : ℕ) (replies : List ℕ)
    → length t ≤ most_lines → k ≤ length t → IsPid p
    → Run setting (begun t) (lines (script_text (beginning_script p k))) replies left
    → Accepts t (beginning_script p k) replies left.trace
beginning_accepted setting t left p k replies few high pid run =
    let place = place_fits p k pid.1 (omega (arith, high, few)) in
    let begins = begins_fits p k pid.1 (omega (arith, high, few)) in
    text_accepted setting (begun t) left (beginning_script p k) replies few (place, (begins, tt)) run

-- so too of this
pub process_accepted : (setting : Setting) (t : List Entry) (left : ScriptState) (k : ℕ) (limits : Limits) (replies : List ℕ)
    → length t ≤ most_lines → 1 ≤ k → k ≤ length t → ProcessFacts t limits
    → Run setting (begun t) (lines (script_text (limits_script t k limits))) replies left
    → Accepts t (limits_script t k limits) replies left.trace
process_accepted setting t left k limits replies few low high facts run =
    let rows : List Row = map line_row limits.held.items in
    let unknown : List Row = map line_row limits.unknown.items in
    text_accepted setting (begun t) left (limits_script t k limits) replies few
    (process_fits t limits.pid k rows unknown limits.entering few low high facts.few facts.pid facts.rows facts.unknown
    facts.stands) run
