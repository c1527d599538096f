-- What was given on to the lines of a text, as reading it says.
use Rattle.std.proofs.Common.{◌≡◌, ℕ, ◌+◌, ◌≤◌, List, [], ◌++◌, length, refl, sym, subst, inl, inr, arith}
use Rattle.std.specs.Prelude.{Result, Ok, Err, IsOk, OnOk, IfErr, None}
use Rattle.std.specs.Io.KnownBytes.{Consumes}
use Rattle.std.proofs.lemmas.List.{append-nil}
use Rattle.cap_session.specs.Devices.{SourceState}
use Rattle.cap_session.specs.Texts.{whole_text, refused_so_far}
use Rattle.cap_session.specs.Code.Feeds.{Reached, Feeds, Ends}
use Rattle.cap_session.specs.Code.Chunks.{TookText, StoppedText, EndedText}
use Rattle.cap_session.specs.Code.Gives.{Gives}
use Rattle.cap_session.specs.Reads.{Read, Reads, IsEnded, faults}
use Rattle.cap_session.specs.declared.refused.Refused.{Refused}
use Rattle.cap_session.specs.declared.refused.Refusal.{Refusal}
use Rattle.cap_session.specs.declared.lines.StopReason.{StopReason}
use Rattle.cap_session.specs.declared.lines.StopReason.TheVariants as stops
use Rattle.cap_session.proofs.Calls.{consumes_none}
use Rattle.cap_session.proofs.Reach.{reached_first, reached_good}

-- the end isn't seen where the count of ends stays
not_seen : (r0 r1 : SourceState) (T : Type 0) → r1.ends ≡ r0.ends → IsEnded r0 r1 → T
not_seen r0 r1 T same seen =
    let ended = seen.0 in
    absurd (omega arith)

good_at_end : {A : Type 0} (whole : Result A Refusal) → (known : A) × (whole ≡ Ok known) → IsOk whole
good_at_end whole (known, is) = rw is refl

-- a text that nothing was given of
pub text_begins : {A : Type 0} (next : A → List ℕ → Result A Refused) (before : A → Type 0)
    → TookText next before before 0 [] []
text_begins next before = λ start begins. reached_first next start before begins

-- what a piece does, and what the end does
module _ {A : Type 0} (next : A → List ℕ → Result A Refused) (before now after : A → Type 0) (number : ℕ)
    (held : List ℕ) (given : List ℕ) (took : TookText next before now number held given) where
  pub text_on : (number' : ℕ) (held' piece : List ℕ) (result : Result (Unit {0}) StopReason)
      → ((start : A) (given : List ℕ)
      → Reached next start now given number held → Feeds next start after (given ++ piece) number' held' result) →
      OnOk result (TookText next before after number' held' (given ++ piece))
  text_on number' held' piece (Ok u) feeds = λ start begins. feeds start given (took start begins)
  text_on number' held' piece (Err stop) feeds = tt

  pub text_stops : (number' : ℕ) (held' piece : List ℕ) (result : Result (Unit {0}) StopReason)
      → ((start : A) (given : List ℕ)
      → Reached next start now given number held → Feeds next start after (given ++ piece) number' held' result) →
      IfErr result (λ stop. StoppedText next before after number' held' given piece stop)
  text_stops number' held' piece (Ok u) feeds = tt
  text_stops number' held' piece (Err stop) feeds = λ start begins.
      (reached_good next start now given held number (took start begins), feeds start given (took start begins))

  pub text_ends : (lines : A → Type 0) (result : Result (Unit {0}) StopReason)
      → ((start : A) (given : List ℕ) → Reached next start now given number held → Ends next start lines given result)
      → EndedText next before lines given result
  text_ends lines result ends = λ start begins.
      (reached_good next start now given held number (took start begins), ends start given (took start begins))

module _ {A T : Type 0} (next : A → List ℕ → Result A Refused) (before after : A → Type 0) (holds : T → A → Type 0)
    (turns : ℕ) (r0 r1 : SourceState) (number : ℕ) (held : List ℕ) where
  reads : (result : Result T StopReason) (start : A) (given : List ℕ) → Consumes r0.bytes r1.bytes given
      → r1.calls ≤ r0.calls + turns → r1.failures ≡ r0.failures + faults result
      → Read (whole_text next start) (refused_so_far next start) holds turns r0 r1 given result
      → Reads (whole_text next start) (refused_so_far next start) holds turns r0 r1 result
  reads result start given read calls failures answer =
      record { given = given; read = read; calls = calls; failures = failures; answer = answer }

  -- a piece stopped it
  stopped_so : (front piece : List ℕ) (stop : StopReason) → Consumes r0.bytes r1.bytes (front ++ piece)
      → r1.calls ≤ r0.calls + turns → length piece ≤ 65536 → r1.ends ≡ r0.ends → r1.failures ≡ r0.failures →
      (start : A) → (refused_so_far next start front ≡ None)
      × Feeds {T = Unit {0}} next start after (front ++ piece) number held (Err stop)
      → Reads (whole_text next start) (refused_so_far next start) holds turns r0 r1 (Err stop)
  stopped_so front piece stops.Memory read calls short going failed start why =
      reads (Err stops.Memory) start (front ++ piece) read calls (omega arith)
      (record { before = why.1; at_end = not_seen r0 r1 _ going })
  stopped_so front piece (stops.Refused e) read calls short going failed start why =
      reads (Err (stops.Refused e)) start (front ++ piece) read calls (omega arith) (record {
        line = inl why.1;
        near = record { front = front; piece = piece; cut = refl; short = short; good = why.0 };
      })
  stopped_so front piece stops.ReadFault read calls short going failed start why = absurd why.1
  stopped_so front piece stops.WriteFault read calls short going failed start why = absurd why.1
  stopped_so front piece stops.TooLong read calls short going failed start why = absurd why.1

  -- the end stopped it
  ended_so : (given : List ℕ) (stop : StopReason) (lines : A → Type 0) → Consumes r0.bytes r1.bytes given
      → r1.calls ≤ r0.calls + turns → IsEnded r0 r1 → r1.failures ≡ r0.failures →
      (start : A) → (refused_so_far next start given ≡ None) × Ends {T = Unit {0}} next start lines given (Err stop)
      → Reads (whole_text next start) (refused_so_far next start) holds turns r0 r1 (Err stop)
  ended_so given stops.Memory lines read calls end failed start why =
      reads (Err stops.Memory) start given read calls (omega arith)
      (record { before = why.0; at_end = λ seen. good_at_end (whole_text next start given) why.1 })
  ended_so given (stops.Refused e) lines read calls end failed start why =
      reads (Err (stops.Refused e)) start given read calls (omega arith) (record {
        line = inr (end, why.1);
        near = record { front = given; piece = []; cut = sym (append-nil given); short = omega arith; good = why.0 };
      })
  ended_so given stops.ReadFault lines read calls end failed start why = absurd why.1
  ended_so given stops.WriteFault lines read calls end failed start why = absurd why.1
  ended_so given stops.TooLong lines read calls end failed start why = absurd why.1

  -- reading stopped
  pub text_stopped : (lines : A → Type 0) (stop : StopReason) → Gives (TookText next before after number held)
      (StoppedText next before after number held) (EndedText next before lines) turns r0 r1 (Err stop) →
      (start : A) → before start
      → Reads (whole_text next start) (refused_so_far next start) holds turns r0 r1 (Err stop)
  text_stopped lines stop gives start begins =
      elim gives.answer [
        | inl (inl f) ↦
            let is : stop ≡ stops.ReadFault = let same = f.is in cc in
            rw is (reads (Err stops.ReadFault) start gives.given gives.read gives.calls f.failures
            (f.going, reached_good next start after gives.given held number (f.taken start begins)))
        | inl (inr u) ↦
            let is : stop ≡ stops.TooLong = let same = u.is in cc in
            let failed = u.failures in
            rw is (reads (Err stops.TooLong) start gives.given gives.read gives.calls (omega arith)
            (u.going, reached_good next start after gives.given held number (u.taken start begins), u.used))
        | inr (inl s) ↦
            let is : stop ≡ s.stop = let same = s.is in cc in
            rw is (stopped_so s.front s.piece s.stop (subst (λ (l : List ℕ). Consumes r0.bytes r1.bytes l) s.cut
            gives.read) gives.calls s.short s.going s.failures start (s.why start begins))
        | inr (inr e) ↦
            ended_so gives.given stop lines gives.read gives.calls e.end e.failures start (e.what start begins)
      ]

  -- the whole text was read
  pub text_read : (x : T) (lines : A → Type 0) (u : Unit {0}) → ((known : A) → lines known → holds x known)
      → Gives (TookText next before after number held)
      (StoppedText next before after number held) (EndedText next before lines) turns r0 r1 (Ok u) →
      (start : A) → before start → Reads (whole_text next start) (refused_so_far next start) holds turns r0 r1 (Ok x)
  text_read x lines u same gives start begins =
      elim gives.answer [
        | inl (inl f) ↦ let no = f.is in absurd cc
        | inl (inr u) ↦ let no = u.is in absurd cc
        | inr (inl s) ↦ let no = s.is in absurd cc
        | inr (inr e) ↦
            let all = (e.what start begins).1 in
            let failed = e.failures in
            reads (Ok x) start gives.given gives.read gives.calls (omega arith) (e.end, (all.0, all.1, same all.0 all.2))
      ]

-- memory ran out before the first read
pub goes_nowhere : {A T : Type 0} (next : A → List ℕ → Result A Refused) (follows : A → Type 0) (holds : T → A → Type 0)
    (turns : ℕ) (r : SourceState) (start : A) → follows start →
    Reads (whole_text next start) (refused_so_far next start) holds turns r r (Err stops.Memory)
goes_nowhere next follows holds turns r start begins = record {
  given = [];
  read = consumes_none r.bytes;
  calls = omega arith;
  failures = omega arith;
  answer = record {
    before = reached_good next start follows [] [] 0 (reached_first next start follows begins);
    at_end = not_seen r r _ refl;
  };
}
