-- A line that is kept as its text.
use Rattle.std.proofs.Common.{◌≡◌, ℕ, ltb, List, length, Option, Some, None, Result, Ok, Err, refl, sym, ap, ◌∙◌}
use Rattle.cap_trace.specs.declared.fault.FirstFault.{FirstFault}
use Rattle.cap_trace.specs.declared.fault.FirstFault.TheVariants as faults
use Rattle.cap_trace.specs.Item as items
use Rattle.cap_trace.specs.Entry.{Entry}
use Rattle.cap_trace.specs.Code.Kept.{entry_of, SpellsALine}
use Rattle.cap_trace.specs.Quotes.{cut_at_byte}
use Rattle.cap_trace.specs.Reading.{◌>>=◌, pid_at, item_at, entry_at, line_of}
use Rattle.cap_trace.specs.Spelling.{IsProper, canon}
use Rattle.cap_trace.proofs.Heads.{some_is}
use Rattle.cap_trace.proofs.Numerals.{bind_ok, unless_ok}
use Rattle.cap_trace.proofs.Spelled.{bind_made}
use Rattle.cap_trace.proofs.WholeLines.{line_again}
use Rattle.cap_trace.proofs.Canonical.{canon_spells}

pub kept_is : (bytes : List ℕ) (e : Entry) → line_of bytes ≡ Ok e → entry_of bytes ≡ e
unfolding entry_of
kept_is bytes e h =
    ap (λ (r : Result Entry FirstFault). elim r as (λ _. Entry) [ Ok d ↦ d | Err f ↦ record { pid = 0; item = items.Exit } ]) h

pub spells_a_line : (bytes : List ℕ) (e : Entry) → line_of bytes ≡ Ok e → SpellsALine bytes
spells_a_line bytes e h = h ∙ ap Ok (sym (kept_is bytes e h))

-- the process is before the first space
entry_pid : (bytes : List ℕ) (o : Option (List ℕ × List ℕ)) (e : Entry) → entry_at bytes o ≡ Ok e
    → (x : List ℕ × List ℕ) × (o ≡ Some x) × (pid_at x.0 ≡ Ok e.pid)
unfolding entry_at
entry_pid bytes None e h = let p = bind_ok (pid_at bytes) (λ _. Err faults.Shape) e h in absurd (let f = p.2 in cc)
entry_pid bytes (Some x) e h =
    let pid = bind_ok (pid_at x.0) (λ pid. item_at x.1 >>= λ item. Ok (record { pid = pid; item = item })) e h in
    let item = bind_made (item_at x.1) (λ item. record { pid = pid.0; item = item }) e pid.2 in
    (x, refl, pid.1 ∙ ap (λ (d : Entry). Ok d.pid) item.2)

pub pid_first : (text bytes : List ℕ) (o : Option (List ℕ × List ℕ)) → SpellsALine bytes → text ≡ bytes
    → o ≡ cut_at_byte 32 text → (x : List ℕ × List ℕ) × (o ≡ Some x) × (pid_at x.0 ≡ Ok (entry_of bytes).pid)
unfolding line_of
pid_first text bytes o h is cut =
    let e = entry_of bytes in
    let whole : line_of text ≡ Ok e = ap line_of is ∙ h in
    let read = unless_ok (ltb 1024 (length text)) faults.LongLine (entry_at text (cut_at_byte 32 text)) e whole in
    entry_pid text o e (ap (entry_at text) cut ∙ read.1)

pub pid_read : (text bytes front rest : List ℕ) → SpellsALine bytes → text ≡ bytes → Some (front, rest) ≡ cut_at_byte 32 text
    → pid_at front ≡ Ok (entry_of bytes).pid
pid_read text bytes front rest h is cut =
    let first = pid_first text bytes (Some (front, rest)) h is cut in
    ap (λ (x : List ℕ × List ℕ). pid_at x.0) (some_is (front, rest) first.0 first.1) ∙ first.2

-- the canonical text of a line is read as that line
pub canon_read : (bytes : List ℕ) (e : Entry) → bytes ≡ canon e → IsProper e → line_of bytes ≡ Ok e
canon_read bytes e is proper = ap line_of is ∙ line_again (canon e) e (canon_spells e proper)
