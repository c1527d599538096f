-- What reading a text gives of the trace that it spells.
use Rattle.std.proofs.Common.{◌≡◌, ℕ, ◌+◌, List, [], ◌∷◌, refl, sym, ◌∙◌, ap, inl, inr, subst}
use Rattle.std.specs.Prelude.{Result, Ok, Err, IsOk, Option, Some, None, nat_lt, length, true, false, cond}
use Rattle.cap_trace.specs.Entry.{Entry}
use Rattle.cap_session.specs.Devices.{SourceState}
use Rattle.cap_session.specs.Lines.{lines, lines_so_far}
use Rattle.cap_session.specs.Texts.{with_line, with_lines, whole_text, refusal_of, refused_so_far}
use Rattle.cap_session.specs.Trace.{next_entry, trace, trace_so_far}
use Rattle.cap_session.specs.Code.Traced.{Inquiry, Traced, with_inquiry, next_traced, Holds}
use Rattle.cap_session.specs.Reads.{Reads, IsNear}
use Rattle.cap_session.specs.declared.refused.Refusal.{Refusal}
use Rattle.cap_session.specs.declared.refused.Refused.{Refused}
use Rattle.cap_session.specs.declared.refused.Refused.TheVariants.{LongLine}
use Rattle.cap_session.specs.declared.lines.StopReason.{StopReason}
use Rattle.cap_session.specs.declared.lines.StopReason.TheVariants as stops
use Rattle.std.specs.Option.{ok_or}
use Rattle.cap_session.proofs.Lined.{line_good, line_bad, no_line}
use Rattle.cap_session.proofs.ReadsAs.{reads_as}

-- the entries of a text, with how they are checked
abbrev pub started : Inquiry → Result (List Entry) Refusal → Result Traced Refusal
started s (Ok entries) = Ok (record { inquiry = s; entries = entries })
started s (Err e) = Err e

line_started : (s : Inquiry) (entries : List Entry) (line : List ℕ)
    → with_line next_traced (record { inquiry = s; entries = entries }) line
    ≡ with_inquiry s (with_line next_entry entries line)
line_started s entries line =
    elim (nat_lt 1024 (length line)) as (λ v. cond v (Err LongLine) (with_inquiry s (next_entry entries line))
    ≡ with_inquiry s (cond v (Err LongLine) (next_entry entries line))) [ true ↦ refl | false ↦ refl ]

lines_started : (s : Inquiry) (entries : List Entry) (before : ℕ) (xs : List (List ℕ))
    → with_lines next_traced (record { inquiry = s; entries = entries }) before xs
    ≡ started s (with_lines next_entry entries before xs)
lines_started s entries before [] = no_line next_traced _ before
    ∙ ap (started s) (sym (no_line next_entry entries before))
lines_started s entries before (x ∷ xs) =
    go (with_line next_entry entries x) refl (λ now. lines_started s now (before + 1) xs)
  where
    go : (r : Result (List Entry) Refused) → with_line next_entry entries x ≡ r →
        ((now : List Entry) → with_lines next_traced (record { inquiry = s; entries = now }) (before + 1) xs
        ≡ started s (with_lines next_entry now (before + 1) xs)) →
        with_lines next_traced (record { inquiry = s; entries = entries }) before (x ∷ xs)
        ≡ started s (with_lines next_entry entries before (x ∷ xs))
    go (Ok now) is more =
        line_good next_traced _ (record { inquiry = s; entries = now }) before x xs
        (line_started s entries x ∙ ap (with_inquiry s) is)
        ∙ more now ∙ ap (started s) (sym (line_good next_entry entries now before x xs is))
    go (Err reason) is more =
        line_bad next_traced _ before reason x xs (line_started s entries x ∙ ap (with_inquiry s) is)
        ∙ ap (started s) (sym (line_bad next_entry entries before reason x xs is))

whole_started : (s : Inquiry) (text : List ℕ)
    → whole_text next_traced (record { inquiry = s; entries = [] }) text ≡ started s (trace text)
whole_started s text = lines_started s [] 0 (lines text)

refusal_started : (s : Inquiry) (r : Result (List Entry) Refusal) → refusal_of (started s r) ≡ refusal_of r
refusal_started s (Ok entries) = refl
refusal_started s (Err e) = refl

so_far_started : (s : Inquiry) (text : List ℕ)
    → refused_so_far next_traced (record { inquiry = s; entries = [] }) text ≡ trace_so_far text
so_far_started s text = ap refusal_of (lines_started s [] 0 (lines_so_far text))
    ∙ refusal_started s (with_lines next_entry [] 0 (lines_so_far text))

refused_started : (s : Inquiry) (e : Refusal) (r : Result (List Entry) Refusal) → started s r ≡ Err e → r ≡ Err e
refused_started s e (Ok entries) is = cc
refused_started s e (Err f) is = cc

good_started : (s : Inquiry) (r : Result (List Entry) Refusal) → IsOk (started s r) → IsOk r
good_started s (Ok entries) is = is
good_started s (Err f) is = is

known_started : (s : Inquiry) (known : Traced) (r : Result (List Entry) Refusal) → started s r ≡ Ok known
    → (r ≡ Ok known.entries) × (known.inquiry ≡ s)
known_started s known (Ok entries) is = (cc, cc)
known_started s known (Err f) is = absurd (cc)

near_started : (s : Inquiry) (given : List ℕ)
    → IsNear (refused_so_far next_traced (record { inquiry = s; entries = [] })) given → IsNear trace_so_far given
near_started s given n = record {
  front = n.front;
  piece = n.piece;
  cut = n.cut;
  short = n.short;
  good = sym (so_far_started s n.front) ∙ n.good;
}

-- reading a text after a start, as reading the trace that it spells
pub read_stopped : {T U : Type 0} (holds : T → Traced → Type 0) (keeps : U → List Entry → Type 0) (s : Inquiry)
    (turns : ℕ) (r0 r1 : SourceState) (stop : StopReason) →
    Reads (whole_text next_traced (record { inquiry = s; entries = [] }))
    (refused_so_far next_traced (record { inquiry = s; entries = [] })) holds turns r0 r1 (Err stop)
    → Reads trace trace_so_far keeps turns r0 r1 (Err stop)
read_stopped holds keeps s turns r0 r1 (stops.Refused e) r =
    reads_as r refl (record {
      line = elim r.answer.line [
        | inl is ↦ inl (sym (so_far_started s r.given) ∙ is)
        | inr is ↦ inr (is.0, refused_started s e (trace r.given) (sym (whole_started s r.given) ∙ is.1))
      ];
      near = near_started s r.given r.answer.near;
    })
read_stopped holds keeps s turns r0 r1 stops.Memory r =
    reads_as r refl (record {
      before = sym (so_far_started s r.given) ∙ r.answer.before;
      at_end = λ seen. good_started s (trace r.given) (rw (whole_started s r.given) at (r.answer.at_end seen));
    })
read_stopped holds keeps s turns r0 r1 stops.ReadFault r =
    reads_as r refl (r.answer.0, sym (so_far_started s r.given) ∙ r.answer.1)
read_stopped holds keeps s turns r0 r1 stops.TooLong r =
    reads_as r refl (r.answer.0, sym (so_far_started s r.given) ∙ r.answer.1, r.answer.2)
read_stopped holds keeps s turns r0 r1 stops.WriteFault r = absurd r.answer

pub read_whole : {T U : Type 0} (holds : T → Traced → Type 0) (keeps : U → Inquiry → List Entry → Type 0) (s : Inquiry)
    (turns : ℕ) (r0 r1 : SourceState) (x : T) (u : U)
    → ((known : Traced) → holds x known → keeps u known.inquiry known.entries) →
    Reads (whole_text next_traced (record { inquiry = s; entries = [] }))
    (refused_so_far next_traced (record { inquiry = s; entries = [] })) holds turns r0 r1 (Ok x)
    → Reads trace trace_so_far (λ (k : U) entries. keeps k s entries) turns r0 r1 (Ok u)
read_whole holds keeps s turns r0 r1 x u is r =
    let known = r.answer.1.0 in
    let both = known_started s known (trace r.given) (sym (whole_started s r.given) ∙ r.answer.1.1) in
    reads_as r refl (
      r.answer.0,
      (known.entries, both.0, subst (λ (t : Inquiry). keeps u t known.entries) both.1 (is known r.answer.1.2)),
    )

-- what keeps the entries, where memory didn't run out
pub read_kept : {T K : Type 0} (holds : T → Traced → Type 0) (keeps : K → Inquiry → List Entry → Type 0) (s : Inquiry)
    (turns : ℕ) (r0 r1 : SourceState) (x : T) (kept : Option K)
    → ((known : Traced) → holds x known → Holds keeps kept known) →
    Reads (whole_text next_traced (record { inquiry = s; entries = [] }))
    (refused_so_far next_traced (record { inquiry = s; entries = [] })) holds turns r0 r1 (Ok x)
    → Reads trace trace_so_far (λ (k : K) entries. keeps k s entries) turns r0 r1 (ok_or kept stops.Memory)
read_kept holds keeps s turns r0 r1 x (Some k) is r = read_whole holds keeps s turns r0 r1 x k is r
read_kept holds keeps s turns r0 r1 x None is r = absurd (is r.answer.1.0 r.answer.1.2)
