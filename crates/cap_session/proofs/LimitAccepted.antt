-- `edit` accepts the script of limits, and leaves the trace with its lines in it.
use Rattle.std.proofs.Common.{◌≡◌, ℕ, ◌+◌, ◌-◌, ◌≤◌, List, [], ◌∷◌, ◌++◌, length, map, sym, ap, ◌∙◌, subst, inl, inr}
use Rattle.std.proofs.Common.{arith, get_or, length-append}
use Rattle.std.specs.Prelude.{insert, Ok}
use Rattle.std.specs.List.{All}
use Rattle.std.proofs.lemmas.List.{append_cancel_left}
use Rattle.std.proofs.lemmas.List.Elements.{All-head, All-tail}
use Rattle.cap_trace.specs.Entry.{Entry, IsPid}
use Rattle.cap_trace.specs.Reading.{line_of}
use Rattle.cap_trace.specs.Spelling.{canon}
use Rattle.cap_limits.specs.Limits.{Row, row_of}
use Rattle.cap_limits.specs.declared.limits.Limits.{Limits}
use Rattle.cap_limits.specs.declared.limits.LimitsBefore.TheVariants as there
use Rattle.cap_limits.specs.declared.limits.Entering.{Entering}
use Rattle.cap_limits.specs.declared.limits.Entering.TheVariants.{Inside, Blocked, May}
use Rattle.cap_limits.specs.declared.makers.MakerRow.{MakerRow}
use Rattle.cap_limits.specs.declared.makers.MakerRow.TheVariants as made
use Rattle.cap_session.specs.Refusal.{refused_text}
use Rattle.cap_session.specs.LimitScripts.{ScriptLine, comment, insertion, insertions, limit_line, makers_script}
use Rattle.cap_session.specs.LimitScripts.{entering_line, unknown_lines, beginning_script}
use Rattle.cap_session.specs.LimitScriptLaws.{Accepts, ok_text, all_ok, with_script, IsNamed}
use Rattle.cap_session.specs.LimitStreams.{limits_script}
use Rattle.cap_session.specs.LimitTextLaws.{LimitsBeforeAreAccepted, MakerLimitsAreAccepted}
use Rattle.cap_session.proofs.LimitFacts.{process_facts, line_pid}
use Rattle.cap_session.proofs.LimitLines.{named_read, enter_read}
use Rattle.cap_session.proofs.MakerFacts.{maker_facts}
use Rattle.cap_session.proofs.LimitPremises.{IsRow, IsSpelledRow, ProcessFacts}
use Rattle.cap_session.proofs.LimitScripts.{nothing_accepted, beginning_accepted, process_accepted, makers_accepted}

-- ---- all insertions are made

-- each line of a script is read as that line
abbrev ReadsBack : List ScriptLine → Type 0
ReadsBack [] = Unit {0}
ReadsBack (comment words ∷ more) = ReadsBack more
ReadsBack (insertion at line ∷ more) = (line_of (canon line) ≡ Ok line) × ReadsBack more

-- a refusal is no `ok`
not_ok : (code n : ℕ) (a b : List ℕ) → refused_text code ++ a ≡ ok_text n ++ b → ⊥
not_ok code n a b same =
    let first : 114 ≡ 111 = ap (λ (l : List ℕ). get_or l 0 0) same in
    omega (arith, first)

leaves : (t left : List Entry) (lines : List ScriptLine) (replies : List ℕ) → ReadsBack lines
    → Accepts t lines replies left → replies ≡ all_ok t lines → left ≡ with_script t lines
leaves t left [] replies reads accepts ok = accepts.1
leaves t left (comment words ∷ more) replies reads accepts ok = leaves t left more replies reads accepts ok
leaves t left (insertion at line ∷ more) replies reads (inl done) ok =
    let (put, rest, read, is, others) = done in
    let next : List Entry = insert t (at - 1) line in
    let same : put ≡ line = (let both = sym read ∙ reads.0 in cc) in
    let later : rest ≡ all_ok next more =
    append_cancel_left (ok_text (length t + 1)) rest (all_ok next more) (sym is ∙ ok) in
    leaves next left more rest reads.1
    (subst (λ (x : Entry). Accepts (insert t (at - 1) x) more rest left) same others) later
leaves t left (insertion at line ∷ more) replies reads (inr stops) ok = elim stops.1 [
  | inl full ↦ absurd (not_ok 8 (length t + 1) _ _ (sym full.0 ∙ ok))
  | inr ran_out ↦ absurd (not_ok 9 (length t + 1) _ _ (sym ran_out ∙ ok))
]

-- ---- before a line

rows_read : (at p : ℕ) (rows : List Row) (others : List ScriptLine) → IsPid p → All IsRow rows
    → All (λ (row : Row). IsNamed row.1) rows → ReadsBack others
    → ReadsBack (insertions at (map (limit_line p) rows) ++ others)
rows_read at p [] others pid known named more = more
rows_read at p (row ∷ rows) others pid known named more =
    let Named : Row → Type 0 = λ (r : Row). IsNamed r.1 in (
      named_read p row pid (All-head IsRow row rows known) (All-head Named row rows named),
      rows_read (at + 1) p rows others pid (All-tail IsRow row rows known) (All-tail Named row rows named) more,
    )

unknown_read : (unknown : List Row) (others : List ScriptLine) → ReadsBack others
    → ReadsBack (unknown_lines unknown ++ others)
unknown_read [] others more = more
unknown_read (row ∷ rows) others more = unknown_read rows others more

entering_read : (t : List Entry) (p at : ℕ) (e : Entering) → IsPid p → ReadsBack (entering_line t p at e ∷ [])
entering_read t p at May pid = (enter_read p pid, tt)
entering_read t p at Inside pid = tt
entering_read t p at (Blocked n) pid = tt

process_read : (t : List Entry) (k : ℕ) (limits : Limits) → ProcessFacts t limits
    → ReadsBack (limits_script t k limits)
process_read t k limits facts =
    let rows : List Row = map row_of limits.held.items in
    let unknown : List Row = map row_of limits.unknown.items in
    let last : ScriptLine = entering_line t limits.pid (k + length rows) limits.entering in
    rows_read k limits.pid rows (unknown_lines unknown ++ last ∷ []) facts.pid facts.rows facts.named
    (unknown_read unknown (last ∷ []) (entering_read t limits.pid (k + length rows) limits.entering facts.pid))

pub limits_before_are_accepted : LimitsBeforeAreAccepted
limits_before_are_accepted profile start t k there.NoLine spelled proper are setting left replies run =
    let accepts = nothing_accepted setting t left replies proper.1 run in
    (accepts, λ ok. leaves t left.trace [] replies tt accepts ok)
limits_before_are_accepted profile start t k (there.Begins p) spelled proper are setting left replies run =
    let (before, line, later, cut, place, begins, own) = are in
    let long : length t ≡ length (before ++ line ∷ later) = ap (λ (u : List Entry). length u) cut in
    let high : k ≤ length t = omega (arith, place, long, length-append before (line ∷ later)) in
    let pid : IsPid p = subst IsPid (sym own) (line_pid t before later line cut proper.0) in
    let accepts = beginning_accepted setting t left p k replies proper.1 high pid run in
    (accepts, λ ok. leaves t left.trace (beginning_script p k) replies tt accepts ok)
limits_before_are_accepted profile start t k (there.Limits limits) spelled proper are setting left replies run =
    let facts = process_facts profile start t k limits spelled proper are in
    let (before, line, later, cut, place, least, no_start) = are in
    let long : length t ≡ length (before ++ line ∷ later) = ap (λ (u : List Entry). length u) cut in
    let high : k ≤ length t = omega (arith, place, long, length-append before (line ∷ later)) in
    let accepts = process_accepted setting t left k limits replies proper.1 (omega (arith, place)) high facts run in
    (accepts, λ ok. leaves t left.trace (limits_script t k limits) replies (process_read t k limits facts) accepts ok)

-- ---- after the lines that made descriptors

makers_read : (t : List Entry) (rows : List MakerRow) → All (IsSpelledRow t) rows → ReadsBack (makers_script rows)
makers_read t [] are = tt
makers_read t (made.Held limit ∷ more) are =
    let one = All-head (IsSpelledRow t) (made.Held limit) more are in (
      named_read limit.pid (limit.fd, limit.rights) one.0.1 one.0.2 one.1,
      makers_read t more (All-tail (IsSpelledRow t) (made.Held limit) more are),
    )
makers_read t (made.Unknown limit ∷ more) are =
    makers_read t more (All-tail (IsSpelledRow t) (made.Unknown limit) more are)

pub maker_limits_are_accepted : MakerLimitsAreAccepted
maker_limits_are_accepted profile start t rows spelled proper are setting left replies run =
    let facts = maker_facts profile start t rows spelled proper are in
    let accepts = makers_accepted setting t left rows replies proper.1 facts run in
    (accepts, λ ok. leaves t left.trace (makers_script rows) replies (makers_read t rows facts) accepts ok)
