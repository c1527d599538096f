-- A text that was read, with another answer of what was given.
use Rattle.std.proofs.Common.{◌≡◌, ℕ, List}
use Rattle.std.specs.Prelude.{Result, Option}
use Rattle.cap_session.specs.Devices.{SourceState}
use Rattle.cap_session.specs.Reads.{Read, Reads, faults}
use Rattle.cap_session.specs.declared.refused.Refusal.{Refusal}
use Rattle.cap_session.specs.declared.lines.StopReason.{StopReason}

pub reads_as : {A B T U : Type 0} {whole : List ℕ → Result A Refusal} {so_far : List ℕ → Option Refusal}
    {holds : T → A → Type 0} {other : List ℕ → Result B Refusal} {other_so_far : List ℕ → Option Refusal}
    {keeps : U → B → Type 0} {turns : ℕ} {r0 r1 : SourceState} {x : Result T StopReason} {y : Result U StopReason}
    (r : Reads whole so_far holds turns r0 r1 x) → faults y ≡ faults x
    → Read other other_so_far keeps turns r0 r1 r.given y → Reads other other_so_far keeps turns r0 r1 y
reads_as r same answer =
    record { given = r.given; read = r.read; calls = r.calls; failures = rw same r.failures; answer = answer }
