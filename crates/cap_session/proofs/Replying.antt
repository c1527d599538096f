-- What comes of the pieces of a script, and of its end.
use Rattle.std.proofs.Common.{◌≡◌, ℕ, ◌+◌, ◌<◌, ◌≤◌, List, [], ◌∷◌, ◌++◌, length, take, map, refl, sym, ◌∙◌, ap, subst, inl, inr}
use Rattle.std.proofs.Common.{arith}
use Rattle.std.specs.Prelude.{Result, Ok, Err}
use Rattle.std.specs.Io.KnownBytes.{Consumes}
use Rattle.std.proofs.lemmas.List.{append-nil, length-take, take_all, take-take}
use Rattle.cap_session.proofs.Cuts.{last_piece-append}
use Rattle.std.proofs.lemmas.Bool.{cases_lt}
use Rattle.cap_session.specs.Devices.{SourceState, SinkState}
use Rattle.cap_session.specs.Code.Gives.{Gives}
use Rattle.cap_session.specs.Lines.{whole_lines, last_piece, line_if_any, lines}
use Rattle.cap_session.specs.Scripts.{Scripting, Replied, Broken, script_lines, due, due_end}
use Rattle.cap_session.specs.EditStreams.{RepliesToAll, RepliesUntil}
use Rattle.cap_session.specs.Reads.{faults}
use Rattle.cap_session.specs.Code.Chunks.{TookScript, StoppedScript, EndedScript}
use Rattle.cap_session.specs.declared.lines.StopReason.{StopReason}
use Rattle.cap_session.specs.declared.lines.StopReason.TheVariants as stops
use Rattle.cap_session.proofs.SoFar.{any_long}
use Rattle.cap_session.proofs.Runs.{replied_none, replied_on, broken_on, is_long, is_short}
use Rattle.cap_session.proofs.Joins.{cut, last_same, pieces_same, replied_same, broken_same}

-- a script that nothing was given of
pub script_begins : (start : Scripting) (w : SinkState) → start.held ≡ [] → TookScript start start w w []
unfolding whole_lines last_piece
script_begins start w begins = record {
  setting = refl;
  replied = replied_none start.setting start.state w;
  held = begins;
  failure = refl;
}

-- a piece was replied to
pub script_on : (start s t : Scripting) (w0 w1 w2 : SinkState) (given piece : List ℕ) → TookScript start s w0 w1 given →
    Replied s.setting s.state w1 w2 (due s.held piece) t.state → t.setting ≡ s.setting
    → t.held ≡ take 1057 (last_piece s.held piece) → TookScript start t w0 w2 (given ++ piece)
script_on start s t w0 w1 w2 given piece went replied stays held = record {
  setting = stays ∙ went.setting;
  replied = replied_same _ _ _ _ _ _ _ (pieces_same given piece)
      (replied_on _ _ _ _ _ _ _ _ _ went.replied (rw (went.setting, went.held) at replied));
  held =
      let again : take 1057 (take 1057 (last_piece [] given)) ≡ take 1057 (last_piece [] given) =
      take-take 1057 1057 (last_piece [] given) (omega arith) in
      held ∙ ap (λ h. take 1057 (last_piece h piece)) went.held ∙ last_same _ _ piece again
      ∙ ap (λ l. take 1057 l) (sym (last_piece-append [] given piece));
  failure = replied.wrote.room ∙ went.failure;
}

-- the writer failed in the replies to a piece
pub script_broken : (start s t : Scripting) (w0 w1 w2 : SinkState) (given piece : List ℕ)
    → TookScript start s w0 w1 given →
    Broken s.setting s.state w1 w2 (due s.held piece) → t.setting ≡ s.setting
    → StoppedScript start t w0 w2 (given ++ piece) stops.WriteFault
script_broken start s t w0 w1 w2 given piece went broke stays = record {
  is = refl;
  setting = stays ∙ went.setting;
  broken = broken_same _ _ _ _ _ _ (pieces_same given piece)
      (broken_on _ _ _ _ _ _ _ _ went.replied (rw (went.setting, went.held) at broke));
}

end_same : (g : List ℕ) → map cut (script_lines [] g ++ due_end (take 1057 (last_piece [] g))) ≡ map cut (lines g)
end_same g =
    let before : List (List ℕ) = whole_lines [] g in
    let last : List ℕ = last_piece [] g in
    elim (cases_lt 1056 (length last)) [
      | inl long ↦
          let past : 1056 < length (take 1057 last) = simp length-take (omega arith) in
          rw (is_long last long, is_long (take 1057 last) past, any_long last (omega arith))
          (ap (map cut) (append-nil (before ++ last ∷ [])))
      | inr short ↦ rw (is_short last short, take_all 1057 last (omega arith), is_short last short)
          (ap (λ ls. map cut (ls ++ line_if_any last)) (append-nil before))
    ]

-- the end was replied to
pub script_ends : (start s t : Scripting) (w0 w1 w2 : SinkState) (given : List ℕ) → TookScript start s w0 w1 given →
    Replied s.setting s.state w1 w2 (due_end s.held) t.state → t.setting ≡ s.setting
    → EndedScript start t w0 w2 given (Ok tt)
script_ends start s t w0 w1 w2 given went replied stays = record {
  setting = stays ∙ went.setting;
  replied = replied_same _ _ _ _ _ _ _ (end_same given)
      (replied_on _ _ _ _ _ _ _ _ _ went.replied (rw (went.setting, went.held) at replied));
  broken = tt;
}

-- the writer failed in that
pub script_broken_at_end : (start s t : Scripting) (w0 w1 w2 : SinkState) (given : List ℕ)
    → TookScript start s w0 w1 given →
    Broken s.setting s.state w1 w2 (due_end s.held) → t.setting ≡ s.setting
    → EndedScript start t w0 w2 given (Err stops.WriteFault)
script_broken_at_end start s t w0 w1 w2 given went broke stays = record {
  setting = stays ∙ went.setting;
  replied = tt;
  broken = (
    refl,
    broken_same _ _ _ _ _ _ (end_same given)
        (broken_on _ _ _ _ _ _ _ _ went.replied (rw (went.setting, went.held) at broke)),
  );
}

-- what was given on to a script was replied to
module _ (start t : Scripting) (w0 w1 : SinkState) (turns : ℕ) (s0 s1 : SourceState) where
  abbrev GivesScript : Result (Unit {0}) StopReason → Type 0
  GivesScript result =
      Gives (TookScript start t w0 w1) (λ front piece stop. StoppedScript start t w0 w1 (front ++ piece) stop)
      (EndedScript start t w0 w1) turns s0 s1 result

  pub all_stays : (result : Result (Unit {0}) StopReason) → GivesScript result → t.setting ≡ start.setting
  all_stays result gives = elim gives.answer [
    | inl (inl f) ↦ f.taken.setting
    | inl (inr u) ↦ u.taken.setting
    | inr (inl s) ↦ s.why.setting
    | inr (inr e) ↦ e.what.setting
  ]

  replies : (result : Result (Unit {0}) StopReason) (given : List ℕ) → Consumes s0.bytes s1.bytes given
      → s1.calls ≤ s0.calls + turns → s1.failures ≡ s0.failures + faults result
      → RepliesUntil start.setting turns s0 s1 w0 w1 given start.state t.state result
      → RepliesToAll start.setting turns s0 s1 w0 w1 start.state t.state result
  replies result given read calls failures answer =
      record { given = given; read = read; calls = calls; failures = failures; answer = answer }

  pub all_replied : (result : Result (Unit {0}) StopReason) → GivesScript result
      → RepliesToAll start.setting turns s0 s1 w0 w1 start.state t.state result
  all_replied (Ok u) gives = elim gives.answer [
    | inl (inl f) ↦ let no = f.is in absurd cc
    | inl (inr u) ↦ let no = u.is in absurd cc
    | inr (inl s) ↦ let no = s.is in absurd cc
    | inr (inr e) ↦
        let failed = e.failures in
        replies (Ok u) gives.given gives.read gives.calls (omega arith) (e.end, e.what.replied)
  ]
  all_replied (Err stop) gives = elim gives.answer [
    | inl (inl f) ↦
        let is : stop ≡ stops.ReadFault = let same = f.is in cc in
        rw is (replies (Err stops.ReadFault) gives.given gives.read gives.calls f.failures (f.going, f.taken.replied))
    | inl (inr u) ↦
        let is : stop ≡ stops.TooLong = let same = u.is in cc in
        let failed = u.failures in
        rw is (replies (Err stops.TooLong) gives.given gives.read gives.calls (omega arith)
        (u.going, u.used, u.taken.replied))
    | inr (inl s) ↦
        let is : stop ≡ stops.WriteFault = let same = s.is in let why = s.why.is in cc in
        let failed = s.failures in
        rw is (replies (Err stops.WriteFault) (s.front ++ s.piece)
        (subst (λ (l : List ℕ). Consumes s0.bytes s1.bytes l) s.cut gives.read) gives.calls (omega arith)
        (inl (s.going, s.why.broken)))
    | inr (inr e) ↦
        let broken = e.what.broken in
        let failed = e.failures in
        rw broken.0 (replies (Err stops.WriteFault) gives.given gives.read gives.calls (omega arith)
        (inr (e.end, broken.1)))
  ]
