-- What was read of a text can be spelled: each line of a trace, and each descriptor and each set of rights of a start.
use Rattle.std.proofs.Common.{◌≡◌, ℕ, ◌+◌, ◌<◌, ◌≤◌, Bool, true, false, if◌then◌else◌, List, [], ◌∷◌, ◌++◌, length}
use Rattle.std.proofs.Common.{drop, length-append, refl, sym, ◌∙◌, subst, arith, Option, Some, None, Result, Ok, Err}
use Rattle.std.specs.Prelude.{codes, nat_le, nat_lt, option_and_then, option_map}
use Rattle.std.specs.List.{All, slice_get}
use Rattle.std.specs.Str.{bytes_eq}
use Rattle.std.proofs.lemmas.Bool.Decides.{nat_tests}
use Rattle.std.proofs.lemmas.List.Elements.{All-nil, All-cons, All-push}
use Rattle.cap_rights.specs.Text.{names}
use Rattle.cap_trace.specs.declared.fault.FirstFault.{FirstFault}
use Rattle.cap_trace.specs.Entry.{Entry}
use Rattle.cap_trace.specs.Number.{num_at}
use Rattle.cap_trace.specs.Quotes.{cut_at_byte}
use Rattle.cap_trace.specs.Reading.{line_of}
use Rattle.cap_trace.specs.Spelling.{IsProper}
use Rattle.cap_trace.proofs.Numerals.{num_takes}
use Rattle.cap_trace.proofs.WholeLines.{line_takes}
use Rattle.cap_machine.specs.declared.cell.Cell.{Cell}
use Rattle.cap_machine.specs.declared.cell.Cell.TheVariants.{Unknown, Closed}
use Rattle.cap_machine.specs.State.{Added}
use Rattle.cap_session.specs.Limits.{longest_line, most_lines}
use Rattle.cap_session.specs.Lines.{lines}
use Rattle.cap_session.specs.LimitTextLaws.{IsTrace, IsNamedCell, IsListedCell, IsSpelledStart}
use Rattle.cap_session.specs.LimitTextLaws.{TracesAreSpelled, StartsAreSpelled}
use Rattle.cap_session.specs.StartTexts.{◌>>=◌, need, at_least, number_spelled, held, cell_spelled, mode_spelled}
use Rattle.cap_session.specs.StartTexts.{rest_at, listed_at, cells_from, described, Listed, none_listed, with_described}
use Rattle.cap_session.specs.StartTexts.{next_process, good_as}
use Rattle.cap_session.specs.StartWords.{words}
use Rattle.cap_session.specs.Texts.{with_line, with_lines, whole_text}
use Rattle.cap_session.specs.Trace.{is_skipped, with_entry, next_entry}
use Rattle.cap_session.specs.declared.refused.Refusal.{Refusal}
use Rattle.cap_session.specs.declared.refused.Refused.{Refused}
use Rattle.cap_session.specs.declared.refused.Refused.TheVariants as bad
use Rattle.cap_session.proofs.LimitCells.{IsSpelledAdded}
use Rattle.cap_session.proofs.Lined.{line_good, line_bad, no_line}

-- ---- a text, line by line

module _ {A : Type 0} (next : A → List ℕ → Result A Refused) (Is : A → Type 0)
    (keeps : (known now : A) (line : List ℕ) → Is known → next known line ≡ Ok now → Is now) where
  line_keeps : (known now : A) (line : List ℕ) → Is known → with_line next known line ≡ Ok now → Is now
  line_keeps known now line is good = by (nat_lt longest_line (length line)) good
    where
      by : (b : Bool) → (if b then Err bad.LongLine else next known line) ≡ Ok now → Is now
      by true refused = absurd (cc)
      by false read = keeps known now line is read

  -- what each line keeps, all lines keep
  lines_keep : (known end : A) (before : ℕ) (xs : List (List ℕ)) → Is known
      → with_lines next known before xs ≡ Ok end → Is end
  lines_keep known end before [] is good =
      let same : known ≡ end = (let none = sym (no_line next known before) ∙ good in cc) in
      subst Is same is
  lines_keep known end before (x ∷ xs) is good =
      by (with_line next known x) refl (λ now kept rest. lines_keep now end (before + 1) xs kept rest)
    where
      by : (r : Result A Refused) → with_line next known x ≡ r
          → ((now : A) → Is now → with_lines next now (before + 1) xs ≡ Ok end → Is end) → Is end
      by (Ok now) read more =
          more now (line_keeps known now x is read) (sym (line_good next known now before x xs read) ∙ good)
      by (Err reason) refused more =
          absurd (let none = sym (line_bad next known before reason x xs refused) ∙ good in cc)

-- ---- a trace

entry_keeps : (entries now : List Entry) (line : List ℕ) → IsTrace entries → next_entry entries line ≡ Ok now
    → IsTrace now
unfolding next_entry
entry_keeps entries now line is good =
    by (is_skipped line) (nat_le most_lines (length entries)) (line_of line) refl refl good
  where
    by : (a b : Bool) (r : Result Entry FirstFault) → nat_le most_lines (length entries) ≡ b → line_of line ≡ r
        → (if a then Ok entries else if b then Err bad.Full else with_entry entries r) ≡ Ok now → IsTrace now
    by true b r room read whole = let same : entries ≡ now = cc in subst IsTrace same is
    by false true r room read whole = absurd (cc)
    by false false (Err fault) room read whole = absurd (cc)
    by false false (Ok entry) room read whole =
        let same : entries ++ entry ∷ [] ≡ now = cc in
        let less : length entries < most_lines = grind (arith, nat_tests, room) in
        subst IsTrace same (
          All-push IsProper entries entry is.0 (line, line_takes line entry read),
          omega (arith, less, length-append entries (entry ∷ [])),
        )

pub traces_are_spelled : TracesAreSpelled
traces_are_spelled text t good =
    lines_keep next_entry IsTrace entry_keeps [] t 0 (lines text) (All-nil IsProper, omega arith) good

-- ---- the fields of a line of a start

bind_takes : {A B : Type 0} (r : Result A Refused) (f : A → Result B Refused) (y : B) → (r >>= f) ≡ Ok y
    → (x : A) × (r ≡ Ok x) × (f x ≡ Ok y)
bind_takes (Ok x) f y e = (x, refl, e)
bind_takes (Err d) f y e = absurd (cc)

need_takes : {A : Type 0} (e : Refused) (o : Option A) (x : A) → need e o ≡ Ok x → o ≡ Some x
need_takes e None x is = absurd (cc)
need_takes e (Some y) x is = (let same = is in cc)

cell_named : (word : List ℕ) (cell : Cell) → cell_spelled word ≡ Some cell → IsNamedCell cell
unfolding cell_spelled
cell_named word cell is =
    by (bytes_eq word (codes "unknown")) (bytes_eq word (codes "closed")) (names word) refl is
  where
    by : (a b : Bool) (o : Option ℕ) → names word ≡ o
        → (if a then Some Unknown else if b then Some Closed else option_map held o) ≡ Some cell → IsNamedCell cell
    by true b o read spelled = let same : Unknown ≡ cell = cc in subst IsNamedCell same tt
    by false true o read spelled = let same : Closed ≡ cell = cc in subst IsNamedCell same tt
    by false false None read spelled = absurd (cc)
    by false false (Some rights) read spelled =
        let same : held rights ≡ cell = cc in subst IsNamedCell same (word, read)

number_within : (low high : ℕ) (word : List ℕ) (n : ℕ) → number_spelled low high word ≡ Some n → n ≤ high
unfolding number_spelled
number_within low high word n is = by (num_at high word) refl is
  where
    only : (m : ℕ) (b : Bool) → (if b then Some m else None) ≡ Some n → m ≡ n
    only m true e = cc
    only m false e = absurd (cc)

    by : (o : Option ℕ) → num_at high word ≡ o → at_least low o ≡ Some n → n ≤ high
    by None read e = absurd (cc)
    by (Some m) read e =
        let same : m ≡ n = only m (nat_le low m) e in
        omega (arith, (num_takes high word m read).1, same)

listed_spelled : (low : ℕ) (word : List ℕ) (entry : ℕ × Cell) → listed_at low word ≡ Ok entry → IsListedCell entry
unfolding listed_at
listed_spelled low word entry is =
    let cut = bind_takes (need bad.Argument (cut_at_byte 61 word)) _ entry is in
    let fd = bind_takes (need bad.Argument (number_spelled low 1048575 cut.0.0)) _ entry cut.2 in
    let cell = bind_takes (need bad.Right (cell_spelled cut.0.1)) _ entry fd.2 in
    let same : (fd.0, cell.0) ≡ entry = (let e = cell.2 in cc) in
    subst IsListedCell same (
      number_within low 1048575 cut.0.0 fd.0 (need_takes bad.Argument _ fd.0 fd.1),
      cell_named cut.0.1 cell.0 (need_takes bad.Right _ cell.0 cell.1),
    )

pub cells_spelled : (low : ℕ) (ws : List (List ℕ)) (cells : List (ℕ × Cell)) → cells_from low ws ≡ Ok cells
    → All IsListedCell cells
unfolding cells_from
cells_spelled low [] cells is =
    let same : [] ≡ cells = cc in subst (All IsListedCell) same (All-nil IsListedCell)
cells_spelled low (word ∷ ws) cells is =
    let first = bind_takes (listed_at low word) _ cells is in
    let others = bind_takes (cells_from (first.0.0 + 1) ws) _ cells first.2 in
    let same : first.0 ∷ others.0 ≡ cells = (let e = others.2 in cc) in
    subst (All IsListedCell) same
    (All-cons IsListedCell first.0 others.0 (listed_spelled low word first.0 first.1)
    (cells_spelled (first.0.0 + 1) ws others.0 others.1))

rest_named : (word : Option (List ℕ)) (cell : Cell) → rest_at word ≡ Ok cell → IsNamedCell cell
rest_named None cell is = absurd (cc)
rest_named (Some word) cell is = cell_named word cell (need_takes bad.Right (cell_spelled word) cell is)

added_spelled : (low : ℕ) (ws : List (List ℕ)) (added : Added) → described low ws ≡ Ok added → IsSpelledAdded added
unfolding described
added_spelled low ws added is =
    let pid = bind_takes (need bad.Pid (option_and_then (number_spelled low 99999) (slice_get ws 0))) _ added is in
    let mode = bind_takes (need bad.Argument (option_and_then mode_spelled (slice_get ws 1))) _ added pid.2 in
    let rest = bind_takes (rest_at (slice_get ws 2)) _ added mode.2 in
    let cells = bind_takes (cells_from 0 (drop 3 ws)) _ added rest.2 in
    let whole : Added = record { pid = pid.0; mode = mode.0; rest = rest.0; cells = cells.0 } in
    let same : whole ≡ added = (let e = cells.2 in cc) in
    subst IsSpelledAdded same
    (rest_named (slice_get ws 2) rest.0 rest.1, cells_spelled 0 (drop 3 ws) cells.0 cells.1)

-- ---- a start

abbrev IsSpelledListed : Listed → Type 0
IsSpelledListed listed = IsSpelledStart listed.added

process_keeps : (listed now : Listed) (line : List ℕ) → IsSpelledListed listed → next_process listed line ≡ Ok now
    → IsSpelledListed now
unfolding next_process
process_keeps listed now line is good =
    by (is_skipped line) (described listed.low (words line)) refl good
  where
    by : (a : Bool) (r : Result Added Refused) → described listed.low (words line) ≡ r
        → (if a then Ok listed else with_described listed r) ≡ Ok now → IsSpelledListed now
    by true r read whole = let same : listed ≡ now = cc in subst IsSpelledListed same is
    by false (Err field) read whole = absurd (cc)
    by false (Ok added) read whole =
        let more : Listed = record { added = listed.added ++ added ∷ []; low = added.pid + 1 } in
        let same : more ≡ now = cc in
        subst IsSpelledListed same (All-push IsSpelledAdded listed.added added is
        (added_spelled listed.low (words line) added read))

pub starts_are_spelled : StartsAreSpelled
starts_are_spelled text start good = by (whole_text next_process none_listed text) refl good
  where
    by : (r : Result Listed Refusal) → whole_text next_process none_listed text ≡ r
        → good_as (λ (listed : Listed). listed.added) r ≡ Ok start → IsSpelledStart start
    by (Err e) read whole = absurd (cc)
    by (Ok listed) read whole =
        let same : listed.added ≡ start = cc in
        subst IsSpelledStart same
        (lines_keep next_process IsSpelledListed process_keeps none_listed listed 0 (lines text)
        (All-nil IsSpelledAdded) read)
