-- What edits do, one after the other.
use Rattle.std.proofs.Common.{◌≡◌, ℕ, ◌+◌, ◌<◌, List, [], ◌∷◌, ◌++◌, length, take, get_or, Bool, refl, ap, ◌∙◌, arith}
use Rattle.std.proofs.Common.{IsOk, IfOk, OnErr, ◌⊎◌, inl, inr}
use Rattle.std.specs.Prelude.{Result, Ok, Err}
use Rattle.std.proofs.lemmas.List.{map-append, length-map, length-append, take_more}
use Rattle.cap_trace.specs.Entry.{Entry}
use Rattle.cap_session.specs.declared.refused.Refused.{Refused}
use Rattle.cap_session.specs.declared.refused.Refused.TheVariants.{LongLine, Shape, Pid, Argument, Right, Answer}
use Rattle.cap_session.specs.declared.refused.Refused.TheVariants.{Position, Full, Memory}
use Rattle.cap_session.specs.declared.edit.Edit.{Edit}
use Rattle.cap_session.specs.Edits.{edited, trace_after, answer, after, answers}
use Rattle.cap_session.specs.Session.{SessionState, RefusesExactly, is_out_of_memory, ran_out}

-- what an edit answers and leaves, by what was asked for and whether memory ran out
pub record Does (old new : SessionState) (asked : Result (List Entry) Refused) (a : Result ℕ Refused) : Type 0 where
  pub answers : a ≡ answer (is_out_of_memory a) asked
  pub trace : new.trace ≡ trace_after old.trace (is_out_of_memory a) asked

-- a refusal is the one that was asked for, or memory ran out
pub refused_or_out : (asked : Result (List Entry) Refused) (e : Refused) → RefusesExactly asked (Err e)
    → (◌≡◌ {A = Result ℕ Refused} (Err e) (Err Memory) → IsOk asked) → (asked ≡ Err e) ⊎ ((e ≡ Memory) × IsOk asked)
refused_or_out asked Memory refused memory = inr (refl, memory refl)
refused_or_out asked LongLine refused memory = inl ((refused LongLine (λ e. cc)).0 refl)
refused_or_out asked Shape refused memory = inl ((refused Shape (λ e. cc)).0 refl)
refused_or_out asked Pid refused memory = inl ((refused Pid (λ e. cc)).0 refl)
refused_or_out asked Argument refused memory = inl ((refused Argument (λ e. cc)).0 refl)
refused_or_out asked Right refused memory = inl ((refused Right (λ e. cc)).0 refl)
refused_or_out asked Answer refused memory = inl ((refused Answer (λ e. cc)).0 refl)
refused_or_out asked Position refused memory = inl ((refused Position (λ e. cc)).0 refl)
refused_or_out asked Full refused memory = inl ((refused Full (λ e. cc)).0 refl)

out_of_memory : (old new : SessionState) (asked : Result (List Entry) Refused) → IsOk asked → new ≡ old
    → Does old new asked (Err Memory)
out_of_memory old new (Ok next) ok kept = record { answers = refl; trace = ap (λ (s : SessionState). s.trace) kept }
out_of_memory old new (Err e) ok kept = absurd (cc)

pub does : (old new : SessionState) (asked : Result (List Entry) Refused) (a : Result ℕ Refused) →
    IfOk a (λ n. (asked ≡ Ok new.trace) × (n ≡ length new.trace)) → RefusesExactly asked a
    → (a ≡ Err Memory → IsOk asked) → OnErr a (new ≡ old) → Does old new asked a
does old new asked (Ok n) accepted refused memory kept =
    rw (accepted.0, accepted.1) (record { answers = refl; trace = refl })
does old new asked (Err e) accepted refused memory kept = elim (refused_or_out asked e refused memory) [
  | inl is ↦ rw is (record { answers = refl; trace = ap (λ (s : SessionState). s.trace) kept })
  | inr out ↦ rw out.0 (out_of_memory old new asked out.1 kept)
]

-- ---- one edit more

pub after-append : (limit : ℕ) (trace : List Entry) (edits : List Edit) (ws : List Bool) (e : Edit) (w : Bool)
    → length ws ≡ length edits →
    after limit trace (edits ++ e ∷ []) (ws ++ w ∷ [])
    ≡ trace_after (after limit trace edits ws) w (edited limit (after limit trace edits ws) e)
after-append limit trace [] [] e w same = refl
after-append limit trace [] (v ∷ ws) e w same = absurd (omega arith)
after-append limit trace (d ∷ edits) [] e w same = absurd (omega arith)
after-append limit trace (d ∷ edits) (v ∷ ws) e w same =
    after-append limit (trace_after trace v (edited limit trace d)) edits ws e w (omega arith)

pub answers-append : (limit : ℕ) (trace : List Entry) (edits : List Edit) (ws : List Bool) (e : Edit) (w : Bool)
    → length ws ≡ length edits →
    answers limit trace (edits ++ e ∷ []) (ws ++ w ∷ [])
    ≡ answers limit trace edits ws ++ answer w (edited limit (after limit trace edits ws) e) ∷ []
answers-append limit trace [] [] e w same = refl
answers-append limit trace [] (v ∷ ws) e w same = absurd (omega arith)
answers-append limit trace (d ∷ edits) [] e w same = absurd (omega arith)
answers-append limit trace (d ∷ edits) (v ∷ ws) e w same = ap (λ more. answer v (edited limit trace d) ∷ more)
    (answers-append limit (trace_after trace v (edited limit trace d)) edits ws e w (omega arith))

-- edits were made, and each was answered
pub record HasMade (old new : SessionState) (edits : List Edit) (answered : List (Result ℕ Refused)) : Type 0 where
  pub each : length answered ≡ length edits
  pub limit : new.limit ≡ old.limit
  pub setting : new.setting ≡ old.setting
  pub trace : new.trace ≡ after old.limit old.trace edits (ran_out answered)
  pub answers : answered ≡ answers old.limit old.trace edits (ran_out answered)

pub made_none : (s : SessionState) → HasMade s s [] []
made_none s = record { each = refl; limit = refl; setting = refl; trace = refl; answers = refl }

-- whether memory ran out, for one answer more
ran_out-append : (answered : List (Result ℕ Refused)) (a : Result ℕ Refused)
    → ran_out (answered ++ a ∷ []) ≡ ran_out answered ++ is_out_of_memory a ∷ []
ran_out-append answered a = map-append is_out_of_memory answered (a ∷ [])

pub made_more : (old mid new : SessionState) (edits : List Edit) (answered : List (Result ℕ Refused)) (e : Edit)
    (a : Result ℕ Refused) →
    HasMade old mid edits answered → new.limit ≡ mid.limit → new.setting ≡ mid.setting
    → Does mid new (edited mid.limit mid.trace e) a → HasMade old new (edits ++ e ∷ []) (answered ++ a ∷ [])
made_more old mid new edits answered e a before limit setting step =
    let same : length (ran_out answered) ≡ length edits = length-map answered is_out_of_memory ∙ before.each in
    let trace = rw (before.limit, before.trace) at step.trace in
    let seen = rw (before.limit, before.trace) at step.answers in
    record {
      each = omega (arith, before.each, length-append answered (a ∷ []), length-append edits (e ∷ []));
      limit = limit ∙ before.limit;
      setting = setting ∙ before.setting;
      trace =
          rw (ran_out-append answered a, after-append old.limit old.trace edits (ran_out answered) e (is_out_of_memory a) same)
          trace;
      answers =
          rw (ran_out-append answered a, answers-append old.limit old.trace edits (ran_out answered) e (is_out_of_memory a) same)
          (ap (λ all. all ++ a ∷ []) before.answers
          ∙ ap (λ b. answers old.limit old.trace edits (ran_out answered) ++ b ∷ []) seen);
    }

-- the edit at the index is made, after those before it
pub made_next : (old mid new : SessionState) (edits : List Edit) (i : ℕ) (d : Edit) (answered : List (Result ℕ Refused))
    (a : Result ℕ Refused) →
    HasMade old mid (take i edits) answered → i < length edits → new.limit ≡ mid.limit → new.setting ≡ mid.setting
    → Does mid new (edited mid.limit mid.trace (get_or edits i d)) a
    → HasMade old new (take (i + 1) edits) (answered ++ a ∷ [])
made_next old mid new edits i d answered a before within limit setting step =
    rw (take_more edits i d within)
    (made_more old mid new (take i edits) answered (get_or edits i d) a before limit setting step)
