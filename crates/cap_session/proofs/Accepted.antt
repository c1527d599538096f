-- What the accepted edits give, and what an inserted line becomes.
use Rattle.std.proofs.Common.{◌≡◌, ◌≢◌, ℕ, zero, suc, ◌+◌, ◌-◌, ◌≤◌, List, [], ◌∷◌, length, get_or, Bool, true, false}
use Rattle.std.proofs.Common.{refl, ap, ◌∙◌, arith}
use Rattle.std.specs.Prelude.{nat_le, Result, Ok, Err, Some, insert, remove, if◌then◌else◌}
use Rattle.std.specs.List.{slice_get}
use Rattle.std.proofs.lemmas.List.Edits.{length-insert, get_or-insert_at}
use Rattle.std.proofs.lemmas.Option.{slice_get-get_or}
use Rattle.cap_trace.specs.declared.fault.FirstFault.{FirstFault}
use Rattle.cap_trace.specs.declared.fault.FirstFault.TheVariants as faults
use Rattle.cap_trace.specs.Entry.{Entry}
use Rattle.cap_trace.specs.Reading.{line_of}
use Rattle.cap_session.specs.declared.refused.Refused.{Refused}
use Rattle.cap_session.specs.declared.refused.Refused.TheVariants.{Position, Full, Memory}
use Rattle.cap_session.specs.declared.edit.Edit.{Edit}
use Rattle.cap_session.specs.declared.edit.Edit.TheVariants.{Insert, Delete, Replace}
use Rattle.cap_session.specs.Edits.{is_position, with_read, deleted, edited, trace_after, answer, after, answers}
use Rattle.cap_session.specs.EditLaws.{accepted, given, AcceptedEditsGive, NoEditAsksForMemory, InsertedStands}

-- ---- the accepted edits

gives_more : (limit : ℕ) (trace : List Entry) (edit : Edit) (edits : List Edit) (w : Bool) (ws : List Bool)
    (r : Result (List Entry) Refused) →
    edited limit trace edit ≡ r →
    ((t : List Entry) → given limit t (accepted edits (answers limit t edits ws)) ≡ Ok (after limit t edits ws)) →
    given limit trace (accepted (edit ∷ edits) (answer w r ∷ answers limit (trace_after trace w r) edits ws))
    ≡ Ok (after limit (trace_after trace w r) edits ws)
gives_more limit trace edit edits true ws (Err e) is rest = rest trace
gives_more limit trace edit edits false ws (Err e) is rest = rest trace
gives_more limit trace edit edits true ws (Ok next) is rest = rest trace
gives_more limit trace edit edits false ws (Ok next) is rest = rw (is, given) (rest next)

pub accepted_edits_give : AcceptedEditsGive
accepted_edits_give limit trace [] ws = refl
accepted_edits_give limit trace (edit ∷ edits) [] = refl
accepted_edits_give limit trace (edit ∷ edits) (w ∷ ws) =
    gives_more limit trace edit edits w ws (edited limit trace edit) refl (λ t. accepted_edits_give limit t edits ws)

-- ---- out of memory

unless : (b : Bool) (r : Result (List Entry) Refused) (e : Refused) → r ≢ Err Memory → e ≢ Memory
    → (if b then r else Err e) ≢ Err Memory
unless true r e rest other is = rest is
unless false r e rest other is = other (cc)

if_full : (b : Bool) (r : Result (List Entry) Refused) → r ≢ Err Memory → (if b then Err Full else r) ≢ Err Memory
if_full true r rest is = cc
if_full false r rest is = rest is

reads : (r : Result Entry FirstFault) (f : Entry → List Entry) → with_read r f ≢ Err Memory
reads (Ok line) f is = cc
reads (Err faults.LongLine) f is = cc
reads (Err faults.Shape) f is = cc
reads (Err faults.Pid) f is = cc
reads (Err faults.Argument) f is = cc
reads (Err faults.Right) f is = cc
reads (Err faults.Answer) f is = cc

makes : (trace : List Entry) → let r : Result (List Entry) Refused = Ok trace in r ≢ Err Memory
makes trace is = cc

position_is_other : Position ≢ Memory
position_is_other is = cc

pub no_edit_asks_for_memory : NoEditAsksForMemory
no_edit_asks_for_memory limit trace (Insert position line) =
    unless _ _ Position (if_full _ _ (reads (line_of line.now) _)) position_is_other
no_edit_asks_for_memory limit trace (Delete position) =
    unless _ _ Position (makes (remove trace (position - 1))) position_is_other
no_edit_asks_for_memory limit trace (Replace position line) =
    unless _ _ Position (reads (line_of line.now) _) position_is_other

-- ---- an inserted line

remove-insert : (xs : List Entry) (i : ℕ) (x : Entry) → i ≤ length xs → remove (insert xs i x) i ≡ xs
remove-insert [] zero x within = refl
remove-insert [] (suc i) x within = absurd (omega arith)
remove-insert (y ∷ ys) zero x within = refl
remove-insert (y ∷ ys) (suc i) x within = ap (λ zs. y ∷ zs) (remove-insert ys i x (omega arith))

pub at_position : (b : Bool) (r : Result (List Entry) Refused) (next : List Entry)
    → (if b then r else Err Position) ≡ Ok next → (b ≡ true) × (r ≡ Ok next)
at_position true r next is = (refl, is)
at_position false r next is = absurd (cc)

pub with_room : (b : Bool) (r : Result (List Entry) Refused) (next : List Entry) → (if b then Err Full else r) ≡ Ok next
    → r ≡ Ok next
with_room true r next is = absurd (cc)
with_room false r next is = is

pub of_line : (r : Result Entry FirstFault) (f : Entry → List Entry) (next : List Entry) → with_read r f ≡ Ok next
    → (line : Entry) × (r ≡ Ok line) × (next ≡ f line)
of_line (Ok line) f next is = (line, refl, cc)
of_line (Err fault) f next is = absurd (cc)

pub in_range : (k n : ℕ) → is_position k n ≡ true → (1 ≤ k) × (k ≤ n)
in_range k n is = (grind arith, grind arith)

is_in_range : (k n : ℕ) → 1 ≤ k → k ≤ n → is_position k n ≡ true
is_in_range k n first last = grind arith

deleted_at : (trace : List Entry) (k : ℕ) → is_position k (length trace) ≡ true
    → deleted trace k ≡ Ok (remove trace (k - 1))
deleted_at trace k is = rw is refl

pub inserted_stands : InsertedStands
inserted_stands limit trace next k bytes is =
    let taken : Result (List Entry) Refused = with_read (line_of bytes) (insert trace (k - 1)) in
    let full = nat_le limit (length trace) in
    let at = at_position (is_position k (length trace + 1)) (if full then Err Full else taken) next is in
    let range = in_range k (length trace + 1) at.0 in
    let read : (line : Entry) × (line_of bytes ≡ Ok line) × (next ≡ insert trace (k - 1) line) =
    of_line (line_of bytes) (insert trace (k - 1)) next (with_room full taken next at.1) in
    let within : k - 1 ≤ length trace = omega arith in
    let longer : length next ≡ length trace + 1 = ap length read.2 ∙ length-insert trace (k - 1) read.0 within in
    let stands : slice_get next (k - 1) ≡ Some (get_or next (k - 1) read.0) =
    slice_get-get_or next (k - 1) read.0 (omega arith) in
    let same : get_or next (k - 1) read.0 ≡ read.0 = ap (λ ls. get_or ls (k - 1) read.0) read.2
    ∙ get_or-insert_at trace (k - 1) read.0 read.0 within in
    let gone : deleted next k ≡ Ok (remove next (k - 1)) =
    deleted_at next k (is_in_range k (length next) range.0 (omega arith)) in
    let back : remove next (k - 1) ≡ trace = ap (λ ls. remove ls (k - 1)) read.2
    ∙ remove-insert trace (k - 1) read.0 within in
    (read.0, read.1, stands ∙ ap (λ l. Some l) same, gone ∙ ap (λ ls. Ok ls) back)
