-- What reading a start text from a reader gives.
use Rattle.std.proofs.Common.{◌≡◌, ℕ, List, refl, ap, inl, inr}
use Rattle.std.specs.Prelude.{Result, Ok, Err, IsOk, Option, Some, None}
use Rattle.std.specs.Option.{ok_or}
use Rattle.cap_machine.specs.declared.start.Start.{Start}
use Rattle.cap_session.specs.Devices.{SourceState}
use Rattle.cap_session.specs.Reads.{Reads}
use Rattle.cap_session.specs.Texts.{whole_text}
use Rattle.cap_session.specs.StartTexts.{Listed, none_listed, next_process, good_as, described_by, start_so_far}
use Rattle.cap_session.specs.Code.StartLines.{Holds}
use Rattle.cap_session.specs.declared.refused.Refusal.{Refusal}
use Rattle.cap_session.specs.declared.lines.StopReason.{StopReason}
use Rattle.cap_session.specs.declared.lines.StopReason.TheVariants as stops
use Rattle.cap_session.proofs.ReadsAs.{reads_as}

still_good : {A B : Type 0} (f : A → B) (r : Result A Refusal) → IsOk r → IsOk (good_as f r)
still_good f (Ok x) is = is
still_good f (Err e) is = is

-- what is made of a good text matters nothing where reading stopped
pub stopped_as : {A B T U : Type 0} (f : A → B) (whole : List ℕ → Result A Refusal)
    (so_far : List ℕ → Option Refusal) (holds : T → A → Type 0) (keeps : U → B → Type 0) (turns : ℕ)
    (r0 r1 : SourceState) (stop : StopReason) → Reads whole so_far holds turns r0 r1 (Err stop)
    → Reads (λ (text : List ℕ). good_as f (whole text)) so_far keeps turns r0 r1 (Err stop)
stopped_as f whole so_far holds keeps turns r0 r1 (stops.Refused e) r =
    reads_as r refl (record {
      line = elim r.answer.line [ inl is ↦ inl is | inr is ↦ inr (is.0, ap (good_as f) is.1) ];
      near = r.answer.near;
    })
stopped_as f whole so_far holds keeps turns r0 r1 stops.Memory r =
    reads_as r refl (record { before = r.answer.before; at_end = λ ended. still_good f _ (r.answer.at_end ended) })
stopped_as f whole so_far holds keeps turns r0 r1 stops.ReadFault r = reads_as r refl r.answer
stopped_as f whole so_far holds keeps turns r0 r1 stops.TooLong r = reads_as r refl r.answer
stopped_as f whole so_far holds keeps turns r0 r1 stops.WriteFault r = absurd r.answer

pub start_kept : {T : Type 0} (holds : T → Listed → Type 0) (turns : ℕ) (r0 r1 : SourceState) (x : T)
    (kept : Option Start) → ((known : Listed) → holds x known → Holds kept known) →
    Reads (whole_text next_process none_listed) start_so_far holds turns r0 r1 (Ok x)
    → Reads described_by start_so_far (λ (k : Start) known. k ≡ known) turns r0 r1 (ok_or kept stops.Memory)
start_kept holds turns r0 r1 x (Some k) is r =
    let known = r.answer.1 in
    reads_as r refl
    (r.answer.0, (known.0.added, ap (good_as (λ (listed : Listed). listed.added)) known.1, is known.0 known.2))
start_kept holds turns r0 r1 x None is r = absurd (is r.answer.1.0 r.answer.1.2)
