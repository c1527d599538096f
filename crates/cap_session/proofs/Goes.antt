-- What the loop over reads keeps, and what comes of it.
use Rattle.std.proofs.Common.{◌≡◌, ℕ, ◌+◌, ◌-◌, ◌*◌, ◌<◌, ◌≤◌, List, [], ◌++◌, length, refl, subst, inl, inr, arith}
use Rattle.std.specs.Prelude.{Result, Err}
use Rattle.std.specs.Io.KnownBytes.{Consumes, Keeps, IsAtEnd}
use Rattle.std.proofs.lemmas.List.{append-nil}
use Rattle.cap_session.specs.Devices.{SourceState}
use Rattle.cap_session.specs.Code.Gives.{Gives}
use Rattle.cap_session.specs.declared.lines.StopReason.{StopReason}
use Rattle.cap_session.specs.declared.lines.StopReason.TheVariants as stops
use Rattle.cap_session.proofs.Calls.{consumes_more, consumes_kept, consumes_none}

-- what was given in these turns was taken, and there is room for the turns that are left
pub record Goes (took : List ℕ → Type 0) (fits : ℕ → Type 0) (r0 r1 : SourceState) (turns turn : ℕ) : Type 0 where
  pub given : List ℕ
  pub read : Consumes r0.bytes r1.bytes given
  pub taken : took given
  pub fit : fits (65536 * (turns - turn))
  pub calls : r1.calls ≡ r0.calls + turn
  pub failures : r1.failures ≡ r0.failures
  pub ends : r1.ends ≡ r0.ends
  pub room : r0.room ≤ r1.room + turn

pub goes_first : (took : List ℕ → Type 0) (fits : ℕ → Type 0) (r : SourceState) (turns : ℕ) → took []
    → fits (65536 * turns) → Goes took fits r r turns 0
goes_first took fits r turns begins fit = record {
  given = [];
  read = consumes_none r.bytes;
  taken = begins;
  fit = let same : 65536 * turns ≡ 65536 * (turns - 0) = omega arith in subst fits same fit;
  calls = omega arith;
  failures = refl;
  ends = refl;
  room = omega arith;
}

-- a piece was taken
pub goes_on : (took after : List ℕ → Type 0) (fits later : ℕ → Type 0) (r0 r1 r2 : SourceState) (turns turn : ℕ)
    (piece : List ℕ) →
    Goes took fits r0 r1 turns turn → turn < turns → Consumes r1.bytes r2.bytes piece → length piece ≤ 65536 →
    r2.calls ≡ r1.calls + 1 → r2.failures ≡ r1.failures + 0 → r2.ends ≡ r1.ends + 0 → r1.room ≤ r2.room + 1 →
    ((given : List ℕ) → took given → after (given ++ piece))
    → ((n more : ℕ) → more + length piece ≤ n → fits n → later more) →
    Goes after later r0 r2 turns (turn + 1)
goes_on took after fits later r0 r1 r2 turns turn piece went more read short calls failures ends room takes leaves =
    let called = went.calls in
    let failed = went.failures in
    let ended = went.ends in
    let left = went.room in
    record {
      given = went.given ++ piece;
      read = consumes_more _ _ _ _ _ went.read read;
      taken = takes went.given went.taken;
      fit = leaves (65536 * (turns - turn)) (65536 * (turns - (turn + 1))) (omega arith) went.fit;
      calls = omega arith;
      failures = omega arith;
      ends = omega arith;
      room = omega arith;
    }

module _ (took : List ℕ → Type 0) (stopped : List ℕ → List ℕ → StopReason → Type 0)
    (ended : List ℕ → Result (Unit {0}) StopReason → Type 0) (turns : ℕ) where
  pub goes_failed : (fits : ℕ → Type 0) (r0 r1 r2 : SourceState) (turn : ℕ) → Goes took fits r0 r1 turns turn
      → turn < turns → Keeps r1.bytes r2.bytes →
      r2.calls ≡ r1.calls + 1 → r2.failures ≡ r1.failures + 1 → r2.ends ≡ r1.ends + 0
      → Gives took stopped ended turns r0 r2 (Err stops.ReadFault)
  goes_failed fits r0 r1 r2 turn went more kept calls failures ends =
      let called = went.calls in
      let failed = went.failures in
      let ended_so = went.ends in
      record {
        given = went.given;
        read = consumes_kept _ _ _ _ went.read kept;
        calls = omega arith;
        answer = inl (inl (record { is = refl; going = omega arith; taken = went.taken; failures = omega arith }));
      }

  pub goes_used_up : (fits : ℕ → Type 0) (r0 r1 : SourceState) → Goes took fits r0 r1 turns turns
      → Gives took stopped ended turns r0 r1 (Err stops.TooLong)
  goes_used_up fits r0 r1 went =
      let called = went.calls in
      record {
        given = went.given;
        read = went.read;
        calls = omega arith;
        answer = inl (inr
            (record { is = refl; going = went.ends; used = went.calls; taken = went.taken; failures = went.failures }));
      }

-- a piece stopped it
pub goes_stopped : (took after : List ℕ → Type 0) (stopped : List ℕ → List ℕ → StopReason → Type 0)
    (ended : List ℕ → Result (Unit {0}) StopReason → Type 0)
    (fits : ℕ → Type 0) (r0 r1 r2 : SourceState) (turns turn : ℕ) (piece : List ℕ) (stop : StopReason) →
    Goes took fits r0 r1 turns turn → turn < turns → Consumes r1.bytes r2.bytes piece → length piece ≤ 65536 →
    r2.calls ≡ r1.calls + 1 → r2.failures ≡ r1.failures + 0 → r2.ends ≡ r1.ends + 0 →
    ((given : List ℕ) → took given → stopped given piece stop) → Gives after stopped ended turns r0 r2 (Err stop)
goes_stopped took after stopped ended fits r0 r1 r2 turns turn piece stop went more read short calls failures
    ends stops_so =
    let called = went.calls in
    let failed = went.failures in
    let ended_so = went.ends in
    record {
      given = went.given ++ piece;
      read = consumes_more _ _ _ _ _ went.read read;
      calls = omega arith;
      answer = inr (inl (record {
        front = went.given;
        piece = piece;
        stop = stop;
        cut = refl;
        short = short;
        is = refl;
        going = omega arith;
        why = stops_so went.given went.taken;
        failures = omega arith;
      }));
    }

-- the end came
pub goes_to_end : (took after : List ℕ → Type 0) (stopped : List ℕ → List ℕ → StopReason → Type 0)
    (ended : List ℕ → Result (Unit {0}) StopReason → Type 0)
    (fits : ℕ → Type 0) (r0 r1 r2 : SourceState) (turns turn : ℕ) (result : Result (Unit {0}) StopReason) →
    Goes took fits r0 r1 turns turn → turn < turns → Consumes r1.bytes r2.bytes [] → IsAtEnd r2.bytes →
    r2.calls ≡ r1.calls + 1 → r2.failures ≡ r1.failures + 0 → r2.ends ≡ r1.ends + 1 →
    ((given : List ℕ) → took given → ended given result) → Gives after stopped ended turns r0 r2 result
goes_to_end took after stopped ended fits r0 r1 r2 turns turn result went more read end calls failures ends ends_so =
    let called = went.calls in
    let failed = went.failures in
    let ended_so = went.ends in
    record {
      given = went.given;
      read = rw append-nil at (consumes_more _ _ _ _ _ went.read read);
      calls = omega arith;
      answer =
          inr (inr (record { end = (omega arith, end); what = ends_so went.given went.taken; failures = omega arith }));
    }
