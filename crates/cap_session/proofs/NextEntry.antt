-- What the next line of a trace does.
use Rattle.std.proofs.Common.{◌≡◌, ◌≢◌, ℕ, ◌<◌, ◌≤◌, List, length, refl, ap, ◌∙◌, arith, true, false, inl, inr}
use Rattle.std.specs.Prelude.{Ok, Err, nat_le}
use Rattle.cap_trace.specs.declared.fault.LineFault.{LineFault}
use Rattle.cap_trace.specs.declared.fault.LineFault.TheVariants as faults
use Rattle.cap_trace.specs.Entry.{Entry}
use Rattle.cap_trace.specs.Reading.{line_of}
use Rattle.cap_trace.specs.Parsing.{MatchesReading}
use Rattle.cap_session.specs.Trace.{is_skipped, next_entry, with_entry}
use Rattle.cap_session.specs.Refused.{refused_line}
use Rattle.cap_session.specs.Code.Traced.{Traced, one_more, next_traced, with_inquiry}
use Rattle.cap_session.specs.declared.refused.Refused.TheVariants.{Full}

skipped_line : (known : List Entry) (line : List ℕ) → is_skipped line ≡ true → next_entry known line ≡ Ok known
unfolding next_entry
skipped_line known line skipped = rw skipped refl

full_trace : (known : List Entry) (line : List ℕ) → is_skipped line ≡ false → 1000000 ≤ length known
    → next_entry known line ≡ Err Full
unfolding next_entry
full_trace known line counts full =
    let is : nat_le 1000000 (length known) ≡ true = grind arith in
    rw (counts, is) refl

line_read : (known : List Entry) (line : List ℕ) → is_skipped line ≡ false → length known < 1000000
    → next_entry known line ≡ with_entry known (line_of line)
unfolding next_entry
line_read known line counts room =
    let is : nat_le 1000000 (length known) ≡ false = grind arith in
    rw (counts, is) refl

-- ---- the same, of what is known of a trace

pub skips : (known : Traced) (line : List ℕ) → is_skipped line ≡ true → next_traced known line ≡ Ok known
skips known line skipped = ap (with_inquiry known.inquiry) (skipped_line known.entries line skipped)

pub is_full : (known : Traced) (line : List ℕ) → is_skipped line ≡ false → 1000000 ≤ length known.entries
    → next_traced known line ≡ Err Full
is_full known line counts full = ap (with_inquiry known.inquiry) (full_trace known.entries line counts full)

-- a line that was read
pub reads : (known : Traced) (line : List ℕ) (e : Entry) → is_skipped line ≡ false → length known.entries < 1000000
    → line_of line ≡ Ok e → next_traced known line ≡ Ok (one_more known e)
reads known line e counts room is =
    ap (with_inquiry known.inquiry) (line_read known.entries line counts room ∙ ap (with_entry known.entries) is)

-- a line that is no line of the grammar
pub is_faulty : (known : Traced) (line : List ℕ) (fault : LineFault) → is_skipped line ≡ false
    → length known.entries < 1000000 → fault ≢ faults.Memory → MatchesReading line (Err fault) →
    next_traced known line ≡ Err (refused_line fault)
is_faulty known line fault counts room other (inl (f, first, is)) =
    rw is (ap (with_inquiry known.inquiry)
    (line_read known.entries line counts room ∙ ap (with_entry known.entries) first))
is_faulty known line fault counts room other (inr (is, good)) = absurd (other is)
