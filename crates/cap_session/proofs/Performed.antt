-- What a command does, by what the session's calls answer.
use Rattle.std.proofs.Common.{◌≡◌, ℕ, ◌≤◌, List, [], Bool, true, false, refl, sym, ◌∙◌, ap, inl, inr, IsOk, arith}
use Rattle.std.specs.Prelude.{Result, Ok, Err, IsTrue, ◌⊎◌, ◌&&◌, ◌++◌, Option, None, Some, codes, decimal, length, nat_le}
use Rattle.std.proofs.lemmas.Bool.{cases_lt, le-leb, lt-leb}
use Rattle.std.proofs.lemmas.List.{append-nil}
use Rattle.cap_trace.specs.Entry.{Entry}
use Rattle.cap_machine.specs.Explain.{Explained, explanation}
use Rattle.cap_machine.specs.Steps.{steps}
use Rattle.cap_session.specs.declared.session.Setting.{Setting}
use Rattle.cap_session.specs.declared.refused.Refused.{Refused}
use Rattle.cap_session.specs.declared.refused.Refused.TheVariants.{Memory, Position}
use Rattle.cap_session.specs.Explaining.{explained_line, explained_links, links_or_refusal, text_or_refusal}
use Rattle.cap_session.specs.LimitStreams.{IsLimitsText, IsOutside}
use Rattle.cap_session.specs.Session.{SessionState, RefusesExactly}
use Rattle.cap_session.specs.Refusal.{line_feed, refused_text}
use Rattle.cap_session.specs.Replies.{Done, ScriptState, becomes, commanded, edit_done, exactly, explained_with_links}
use Rattle.cap_session.specs.Replies.{has_place, limits_of, may_run_out, shown_done, stays, told_done, with_links}
use Rattle.cap_session.specs.Settings.{state_before}
use Rattle.cap_session.specs.Trace.{counted_lines}
use Rattle.cap_session.specs.Origins.{Base, IsKeptAs, base_of, moved, origins_after}
use Rattle.cap_session.specs.Commands.{Asked, asked, edit_asked, explain_line, tell_limits}
use Rattle.cap_session.specs.Code.Performs.{Performs, state_of, text_of}
use Rattle.cap_session.specs.Scripts.{Commands}
use Rattle.cap_session.specs.Refused.{code_of}
use Rattle.cap_session.specs.declared.script.Reply.{Reply}
use Rattle.cap_session.specs.declared.edit.Edit.{Edit}
use Rattle.cap_session.specs.declared.edit.Edit.TheVariants.{Insert, Delete, Replace}
use Rattle.cap_session.specs.Edits.{edited}
use Rattle.cap_session.proofs.Applied.{refused_or_out}

-- An edit as a command, by what was asked of the session.
pub edit_commanded : (setting : Setting) (t : ScriptState) (e : Edit)
    → commanded setting t (edit_asked e) ≡ edit_done (origins_after e) t.base (edited 1000000 t.trace e)
edit_commanded setting t (Insert position line) = refl
edit_commanded setting t (Delete position) = refl
edit_commanded setting t (Replace position line) = refl

edit_may_run_out : (e : Edit) → IsTrue (may_run_out (edit_asked e))
edit_may_run_out (Insert position line) = refl
edit_may_run_out (Delete position) = refl
edit_may_run_out (Replace position line) = refl

done_ok : (edit : List (Option ℕ) → List (Option ℕ)) (base : Option Base) (asked : Result (List Entry) Refused) → IsOk asked
    → IsOk (edit_done edit base asked)
done_ok edit base (Ok next) ok = ok
done_ok edit base (Err e) ok = absurd (cc)

-- the two ways in which an edit isn't made
abbrev NotMade : Result Done ℕ → Refused → Type 0
NotMade done why = (done ≡ Err (code_of why)) ⊎ ((why ≡ Memory) × IsOk done)

not_made : (edit : List (Option ℕ) → List (Option ℕ)) (base : Option Base) (asked : Result (List Entry) Refused)
    (e : Refused) → RefusesExactly asked (Err e)
    → (◌≡◌ {A = Result ℕ Refused} (Err e) (Err Memory) → IsOk asked) → NotMade (edit_done edit base asked) e
not_made edit base asked e refused memory = elim (refused_or_out asked e refused memory) [
  | inl is ↦ inl (ap (edit_done edit base) is)
  | inr out ↦ inr (out.0, done_ok edit base asked out.1)
]

as_command : (setting : Setting) (t : ScriptState) (e : Edit) (why : Refused)
    → NotMade (edit_done (origins_after e) t.base (edited 1000000 t.trace e)) why
    → (commanded setting t (edit_asked e) ≡ Err (code_of why))
    ⊎ ((why ≡ Memory) × IsOk (commanded setting t (edit_asked e)) × IsTrue (may_run_out (edit_asked e)))
as_command setting t e why (inl is) = inl (edit_commanded setting t e ∙ is)
as_command setting t e why (inr is) = inr (is.0, rw (edit_commanded setting t e) is.1, edit_may_run_out e)

-- an edit was not made
pub edit_refused : (old new : SessionState) (e : Edit) (refused : Refused) → old.limit ≡ 1000000
    → RefusesExactly (edited old.limit old.trace e) (Err refused) →
    (◌≡◌ {A = Result ℕ Refused} (Err refused) (Err Memory) → IsOk (edited old.limit old.trace e)) → new ≡ old →
    Performs old.setting (state_of old) (edit_asked e) (Err refused) (state_of new)
edit_refused old new e refused limit says memory kept = (
  ap state_of kept,
  as_command old.setting (state_of old) e refused
      (not_made (origins_after e) old.base (edited 1000000 old.trace e) refused (rw limit at says) (rw limit at memory)),
)

-- an edit was made
pub edit_made : (old new : SessionState) (e : Edit) (reply : Reply) (count : ℕ) → old.limit ≡ 1000000
    → edited old.limit old.trace e ≡ Ok new.trace → count ≡ length new.trace
    → text_of reply ≡ codes "ok " ++ decimal count ++ line_feed → IsKeptAs (moved (origins_after e) old.base) new.base
    → Performs old.setting (state_of old) (edit_asked e) (Ok reply) (state_of new)
edit_made old new e reply count limit made count_is text keeps = (
  record {
    reply = exactly (codes "ok " ++ decimal (length new.trace) ++ line_feed);
    trace = new.trace;
    keeping = becomes (moved (origins_after e) old.base);
  },
  edit_commanded old.setting (state_of old) e ∙ ap (edit_done (origins_after e) old.base) (rw limit at made),
  record {
    reply = text ∙ ap (λ n. codes "ok " ++ decimal n ++ line_feed) count_is;
    trace = refl;
    keeps = keeps;
  },
)

-- what was asked for was shown, and all stays
pub shown_is : (setting : Setting) (t : ScriptState) (ask : Asked) (end shown : List ℕ) (asked : Result (List ℕ) Refused)
    (reply : Reply) → commanded setting t ask ≡ shown_done t.trace end asked → asked ≡ Ok shown
    → text_of reply ≡ shown ++ end → Performs setting t ask (Ok reply) t
shown_is setting t ask end shown asked reply command is text = (
  record { reply = exactly (shown ++ end); trace = t.trace; keeping = stays },
  command ∙ ap (shown_done t.trace end) is,
  record { reply = text; trace = refl; keeps = refl },
)

-- a report was told, and is kept
pub told_is : (old new : SessionState) (ask : Asked) (told : List ℕ) (reply : Reply)
    → commanded old.setting (state_of old) ask ≡ told_done old.trace told → text_of reply ≡ told
    → IsKeptAs (Some (base_of old.trace)) new.base → new ≡ record old { base = new.base }
    → Performs old.setting (state_of old) ask (Ok reply) (state_of new)
told_is old new ask told reply command text keeps same = (
  record { reply = exactly told; trace = old.trace; keeping = becomes (Some (base_of old.trace)) },
  command,
  record { reply = text; trace = ap (λ (s : SessionState). s.trace) same; keeps = keeps },
)

-- ---- explanations and limits

-- why a command on a line is refused
abbrev pub RefusedFor : Refused → Type 0
RefusedFor why = (why ≡ Position) ⊎ (why ≡ Memory)

pub explained_is : (setting : Setting) (t : ScriptState) (k links : ℕ) (text : List ℕ) (reply : Reply)
    → explained_line (state_before setting) setting.profile t.trace k ≡ Ok text
    → explained_links (state_before setting) setting.profile t.trace k ≡ Ok links
    → text_of reply ≡ text ++ (codes "explained " ++ (decimal links ++ line_feed))
    → Performs setting t (explain_line k) (Ok reply) t
explained_is setting t k links text reply is links_are said =
    let whole = text ++ (codes "explained " ++ (decimal links ++ line_feed)) in
    shown_is setting t (explain_line k) [] whole (explained_with_links setting t.trace k) reply refl
    (rw (is, links_are) refl) (said ∙ sym (append-nil whole))

explain_refused_by : (t : ScriptState) (k : ℕ) (x : Option Explained) (why : Refused) → RefusedFor why
    → (why ≡ Position → text_or_refusal t.trace k x ≡ Err Position)
    → (text_or_refusal t.trace k x ≡ Err Position → why ≡ Position)
    → NotMade (shown_done t.trace [] (with_links (text_or_refusal t.trace k x) (links_or_refusal t.trace k x))) why
explain_refused_by t k None why for to from = inl (ap (λ (w : Refused). Err (code_of w)) (sym (from refl)))
explain_refused_by t k (Some e) why (inl is) to from = absurd (let no = to is in cc)
explain_refused_by t k (Some e) why (inr is) to from = inr (is, refl)

pub explain_refused : (setting : Setting) (t : ScriptState) (k : ℕ) (why : Refused) → RefusedFor why
    → (why ≡ Position → explained_line (state_before setting) setting.profile t.trace k ≡ Err Position)
    → (explained_line (state_before setting) setting.profile t.trace k ≡ Err Position → why ≡ Position)
    → Performs setting t (explain_line k) (Err why) t
explain_refused setting t k why for to from = (
  refl,
  elim (explain_refused_by t k (explanation (state_before setting) (steps setting.profile t.trace) k) why for to from) [
    | inl is ↦ inl is
    | inr out ↦ inr (out.0, out.1, refl)
  ],
)

and_false : (b : Bool) → (b && false) ≡ false
and_false true = refl
and_false false = refl

inside : (at : Option ℕ) (t : List Entry) → (IsOutside at t → ⊥) → has_place at (length t) ≡ true
inside None t within = refl
inside (Some k) t within =
    let some : 1 ≤ k = elim (cases_lt 0 k) [
      | inl low ↦ omega (arith, low)
      | inr none ↦ absurd (within (inl (omega (arith, none))))
    ] in
    let few : k ≤ length t = elim (cases_lt (length t) k) [
      | inl far ↦ absurd (within (inr far))
      | inr near ↦ near
    ] in
    rw (le-leb 1 k some, le-leb k (length t) few) refl

outside : (at : Option ℕ) (t : List Entry) → IsOutside at t → has_place at (length t) ≡ false
outside None t is = absurd is
outside (Some k) t (inl is) = rw is refl
outside (Some k) t (inr far) = rw (lt-leb k (length t) far) (and_false (nat_le 1 k))

pub limits_are : (setting : Setting) (t : ScriptState) (at : Option ℕ) (script : List ℕ) (reply : Reply)
    → IsLimitsText setting.profile at setting.start t.trace script → (IsOutside at t.trace → ⊥)
    → text_of reply ≡ script ++ (codes "limits " ++ (decimal (counted_lines script) ++ line_feed))
    → Performs setting t (tell_limits at) (Ok reply) t
limits_are setting t at script reply limits place said = (
  record { reply = limits_of setting t.trace at; trace = t.trace; keeping = stays },
  rw (inside at t.trace place) refl,
  record { reply = record { script = script; limits = limits; is = said }; trace = refl; keeps = refl },
)

pub limits_refused : (setting : Setting) (t : ScriptState) (at : Option ℕ) (why : Refused) → RefusedFor why
    → (why ≡ Position → IsOutside at t.trace) → (IsOutside at t.trace → why ≡ Position)
    → Performs setting t (tell_limits at) (Err why) t
limits_refused setting t at why (inl is) to from =
    (refl, inl (rw (outside at t.trace (to is), is) refl))
limits_refused setting t at why (inr is) to from =
    let place : IsOutside at t.trace → ⊥ = λ out. (let no = sym is ∙ from out in cc) in
    (refl, inr (is, rw (inside at t.trace place) refl, refl))

-- ---- a command's reply

pub does_command : (setting : Setting) (t : ScriptState) (ask : Asked) (reply : Reply) (u : ScriptState)
    → Performs setting t ask (Ok reply) u → Commands setting t ask (text_of reply) u
does_command setting t ask reply u is = inl (rw is.1 is.2)

pub refuses_command : (setting : Setting) (t : ScriptState) (ask : Asked) (why : Refused) (u : ScriptState)
    → Performs setting t ask (Err why) u → Commands setting t ask (refused_text (code_of why)) u
refuses_command setting t ask why u is =
    elim is.1 [
      | inl e ↦ inl (rw e (refl, is.0))
      | inr w ↦ inr (w.2, w.1, ap (λ d. refused_text (code_of d)) w.0, is.0)
    ]
