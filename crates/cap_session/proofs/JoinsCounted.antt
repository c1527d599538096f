-- How many joins are counted after edits.
use Rattle.std.proofs.Common.{◌≡◌, ℕ, zero, suc, ◌+◌, ◌-◌, ◌*◌, ◌^◌, ◌≤◌, List, [], ◌∷◌, ◌++◌, length}
use Rattle.std.proofs.Common.{refl, ap, sym, ◌∙◌, arith, inl, inr, IfOk, OnOk, OnErr}
use Rattle.std.specs.Prelude.{nat_le, Result, Ok, Err, insert, remove, slice_set, if◌then◌else◌}
use Rattle.std.proofs.lemmas.Bool.{cases_lt}
use Rattle.std.proofs.lemmas.List.Edits.{length-insert, length-remove}
use Rattle.std.proofs.lemmas.List.{length-set}
use Rattle.std.proofs.lemmas.List.Folds.{list_any-append}
use Rattle.std.proofs.Math.Pow.{pow_mono}
use Rattle.cap_trace.specs.Entry.{Entry}
use Rattle.cap_trace.specs.Reading.{line_of}
use Rattle.cap_tree.specs.Bits.{bits}
use Rattle.cap_tree.proofs.Digits.{bits_enough, bits_needed}
use Rattle.cap_session.specs.declared.refused.Refused.{Refused}
use Rattle.cap_session.specs.declared.refused.Refused.TheVariants.{Full}
use Rattle.cap_session.specs.declared.edit.Edit.{Edit}
use Rattle.cap_session.specs.declared.edit.Edit.TheVariants.{Insert, Delete, Replace}
use Rattle.cap_session.specs.Edits.{is_position, with_read, edited}
use Rattle.cap_session.specs.Joins.{JoinsAfter, any_accepted, is_accepted}
use Rattle.cap_session.specs.Session.{SessionState, lines_at}
use Rattle.cap_session.proofs.Accepted.{at_position, in_range, of_line, with_room}

-- a greater number has no fewer digits
more_bits : (n m : ℕ) → n ≤ m → bits n ≤ bits m
unfolding bits
more_bits zero m le = omega arith
more_bits (suc n) m le = elim (cases_lt (bits m) (bits (suc n))) [
  | inl more ↦ absurd (
      let low = bits_needed (suc n) (omega arith) in
      let high = bits_enough m in
      let up : 2 ^ bits m ≤ 2 ^ (bits (suc n) - 1) = pow_mono (omega arith) in
      omega arith)
  | inr less ↦ less
]

-- the trace after an edit has at most one line fewer than the edit was made in
lines_then : (limit : ℕ) (trace next : List Entry) (e : Edit) → edited limit trace e ≡ Ok next
    → lines_at (length trace) e ≤ length next + 1
lines_then limit trace next (Insert k line) is =
    let taken : Result (List Entry) Refused = with_read (line_of line.now) (insert trace (k - 1)) in
    let full = nat_le limit (length trace) in
    let at = at_position (is_position k (length trace + 1)) (if full then Err Full else taken) next is in
    let range = in_range k (length trace + 1) at.0 in
    let read = of_line (line_of line.now) (insert trace (k - 1)) next (with_room full taken next at.1) in
    let longer = ap length read.2 ∙ length-insert trace (k - 1) read.0 (omega (arith, range.0, range.1)) in
    omega (arith, longer)
lines_then limit trace next (Delete k) is =
    let at = at_position (is_position k (length trace)) (Ok (remove trace (k - 1))) next is in
    let range = in_range k (length trace) at.0 in
    let same : remove trace (k - 1) ≡ next = cc in
    omega (arith, ap length same, length-remove trace (k - 1) (omega (arith, range.0, range.1)))
lines_then limit trace next (Replace k line) is =
    let at = at_position (is_position k (length trace)) (with_read (line_of line.now) (slice_set trace (k - 1))) next is in
    let read = of_line (line_of line.now) (slice_set trace (k - 1)) next at.1 in
    omega (arith, ap length read.2, length-set trace (k - 1) read.0)

pub counted_none : (s : SessionState) → JoinsAfter s s []
counted_none s = record { none = λ is. refl; some = λ is. absurd (cc) }

-- one edit more
pub counted_next : (old mid new : SessionState) (answered : List (Result ℕ Refused)) (e : Edit) (a : Result ℕ Refused)
    → JoinsAfter old mid answered
    → IfOk a (λ n. (edited mid.limit mid.trace e ≡ Ok new.trace) × (n ≡ length new.trace))
    → OnOk a (new.joins ≤ 12 * bits (lines_at (length mid.trace) e) + 12) → OnErr a (new ≡ mid)
    → JoinsAfter old new (answered ++ a ∷ [])
counted_next old mid new answered e (Ok n) before accepted few kept = record {
  none = λ is. absurd (let all = sym is ∙ list_any-append is_accepted answered (Ok n ∷ []) in grind (arith, all));
  some = λ is. omega (
    arith,
    few,
    more_bits (lines_at (length mid.trace) e) (length new.trace + 1)
        (lines_then mid.limit mid.trace new.trace e accepted.0),
  );
}
counted_next old mid new answered e (Err r) before accepted few kept =
    let same : any_accepted (answered ++ Err r ∷ []) ≡ any_accepted answered =
    list_any-append is_accepted answered (Err r ∷ []) ∙ grind arith in
    rw kept (record { none = λ is. before.none (sym same ∙ is); some = λ is. before.some (sym same ∙ is) })
