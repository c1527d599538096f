-- What the lines of any script do, by the edits among them.
use Rattle.std.proofs.Common.{◌≡◌, ℕ, List, [], ◌∷◌, ◌++◌, length, Bool, true, false, refl, sym, ap, ◌∙◌, append_assoc}
use Rattle.std.proofs.Common.{subst, inl, inr, suc}
use Rattle.std.specs.Prelude.{codes, nat_lt, if◌then◌else◌, Option, Result, Ok, Err, ◌⊎◌}
use Rattle.cap_trace.specs.Entry.{Entry}
use Rattle.cap_session.specs.declared.session.Setting.{Setting}
use Rattle.cap_session.specs.declared.edit.Edit.{Edit}
use Rattle.cap_session.specs.declared.edit.Edit.TheVariants.{Insert, Delete, Replace}
use Rattle.cap_session.specs.declared.refused.Refused.{Refused}
use Rattle.cap_session.specs.Edits.{edited, trace_after, after}
use Rattle.cap_session.specs.Commands.{Asked, asked, insert_line, replace_line, delete_line, show_line, count_lines}
use Rattle.cap_session.specs.Commands.{report_all, report_lines, tell_changes, explain_line, tell_denials, tell_limits}
use Rattle.cap_session.specs.Commands.{unknown, edit_asked}
use Rattle.cap_session.specs.Trace.{is_skipped}
use Rattle.cap_session.specs.Refusal.{line_feed}
use Rattle.cap_session.specs.Replies.{ScriptState, explained_with_links, has_place, limits_of, shown_done, stays}
use Rattle.cap_session.specs.Shown.{shown, ranged}
use Rattle.cap_session.specs.Limits.{most_lines}
use Rattle.cap_session.specs.Scripts.{RepliesTo, Commands, Answers, Run}
use Rattle.cap_session.specs.ScriptLaws.{Asks, AsksNone, AreEditsOf, LeavesEdits, ScriptLeavesWhatEditsGive}
use Rattle.cap_session.specs.ScriptLaws.{EachReportIsOfItsTrace}
use Rattle.cap_session.proofs.Scripted.{edit_replied, reported}

-- what asks for no edit leaves the trace
record Passes (setting : Setting) (ask : Asked) : Type 0 where
  none : (edit : Edit) → ask ≡ edit_asked edit → ⊥
  keeps : (t u : ScriptState) (text : List ℕ) → Commands setting t ask text u → u.trace ≡ t.trace

same_trace : (t u : ScriptState) → u ≡ t → u.trace ≡ t.trace
same_trace t u same = ap (λ (s : ScriptState). s.trace) same

shown_keeps : (t u : ScriptState) (end text : List ℕ) (r : Result (List ℕ) Refused)
    → RepliesTo t (shown_done t.trace end r) text u → u.trace ≡ t.trace
shown_keeps t u end text (Ok shown) is = is.trace
shown_keeps t u end text (Err e) is = same_trace t u is.1

limits_keep : (setting : Setting) (t u : ScriptState) (at : Option ℕ) (text : List ℕ) (place : Bool)
    → RepliesTo t (if place then Ok (record { reply = limits_of setting t.trace at; trace = t.trace; keeping = stays })
    else Err 7) text u → u.trace ≡ t.trace
limits_keep setting t u at text true is = is.trace
limits_keep setting t u at text false is = same_trace t u is.1

is_edit : Asked → Bool
is_edit (insert_line k line) = true
is_edit (replace_line k line) = true
is_edit (delete_line k) = true
is_edit _ = false

edit_is : (edit : Edit) → is_edit (edit_asked edit) ≡ true
unfolding is_edit
edit_is (Insert k line) = refl
edit_is (Delete k) = refl
edit_is (Replace k line) = refl

passes : (setting : Setting) (ask : Asked) → is_edit ask ≡ false
    → ((t u : ScriptState) (text : List ℕ) → Commands setting t ask text u → u.trace ≡ t.trace) → Passes setting ask
passes setting ask asks_none keeps =
    record { none = λ edit is. let made = sym asks_none ∙ ap is_edit is ∙ edit_is edit in cc; keeps = keeps }

edit_or_not : (setting : Setting) (ask : Asked) → ((edit : Edit) × (ask ≡ edit_asked edit)) ⊎ Passes setting ask
unfolding is_edit
edit_or_not setting (insert_line k line) = inl (Insert k (record { ref_ptr = (0, 0); now = line }), refl)
edit_or_not setting (replace_line k line) = inl (Replace k (record { ref_ptr = (0, 0); now = line }), refl)
edit_or_not setting (delete_line k) = inl (Delete k, refl)
edit_or_not setting (show_line k) = inr (passes setting (show_line k) refl (λ t u text is. elim is [
  | inl seen ↦ shown_keeps t u line_feed text (shown t.trace k) seen
  | inr ran_out ↦ same_trace t u ran_out.3
]))
edit_or_not setting count_lines = inr (passes setting count_lines refl (λ t u text is. elim is [
  | inl seen ↦ seen.trace
  | inr ran_out ↦ same_trace t u ran_out.3
]))
edit_or_not setting report_all = inr (passes setting report_all refl (λ t u text is. elim is [
  | inl seen ↦ seen.trace
  | inr ran_out ↦ same_trace t u ran_out.3
]))
edit_or_not setting tell_changes = inr (passes setting tell_changes refl (λ t u text is. elim is [
  | inl seen ↦ seen.trace
  | inr ran_out ↦ same_trace t u ran_out.3
]))
edit_or_not setting (report_lines a b) = inr (passes setting (report_lines a b) refl (λ t u text is. elim is [
  | inl seen ↦ shown_keeps t u [] text (ranged setting t.trace a b) seen
  | inr ran_out ↦ same_trace t u ran_out.3
]))
edit_or_not setting (explain_line k) = inr (passes setting (explain_line k) refl (λ t u text is. elim is [
  | inl seen ↦ shown_keeps t u [] text (explained_with_links setting t.trace k) seen
  | inr ran_out ↦ same_trace t u ran_out.3
]))
edit_or_not setting tell_denials = inr (passes setting tell_denials refl (λ t u text is. elim is [
  | inl seen ↦ seen.trace
  | inr ran_out ↦ same_trace t u ran_out.3
]))
edit_or_not setting (tell_limits at) = inr (passes setting (tell_limits at) refl (λ t u text is. elim is [
  | inl seen ↦ limits_keep setting t u at text (has_place at (length t.trace)) seen
  | inr ran_out ↦ same_trace t u ran_out.3
]))
edit_or_not setting unknown = inr (passes setting unknown refl (λ t u text is. elim is [
  | inl seen ↦ same_trace t u seen.1
  | inr ran_out ↦ same_trace t u ran_out.3
]))

-- what one line does
record Edits (t : List Entry) (line : List ℕ) (u : List Entry) : Type 0 where
  edit : Edit
  asks : Asks line edit
  ran_out : Bool
  moves : u ≡ trace_after t ran_out (edited most_lines t edit)

record Stays (t : List Entry) (line : List ℕ) (u : List Entry) : Type 0 where
  none : AsksNone line
  same : u ≡ t

line_does : (setting : Setting) (long skipped : Bool) (t u : ScriptState) (line text : List ℕ)
    → nat_lt 1056 (length line) ≡ long
    → is_skipped line ≡ skipped → Answers setting t line text u
    → Edits t.trace line u.trace ⊎ Stays t.trace line u.trace
line_does setting true skipped t u line text long is_so is =
    inr (record { none = λ edit asks. let no = sym long ∙ asks.0 in cc; same = same_trace t u (rw long at is).1 })
line_does setting false true t u line text long is_so is =
    inr (record { none = λ edit asks. let no = sym is_so ∙ asks.1 in cc; same = same_trace t u (rw (long, is_so) at is).1 })
line_does setting false false t u line text long is_so is =
    let does : Commands setting t (asked line) text u = rw (long, is_so) at is in
    elim (edit_or_not setting (asked line)) [
      | inl edit ↦
          let done =
          edit_replied setting t u text edit.0 (subst (λ (a : Asked). Commands setting t a text u) edit.1 does) in
          inl (record { edit = edit.0; asks = (long, is_so, edit.1); ran_out = done.0; moves = done.1 })
      | inr passes ↦ inr (record { none = λ edit asks. passes.none edit asks.2; same = passes.keeps t u text does })
    ]

-- a line that asks for no edit, before others
passed_over : (line : List ℕ) (lines : List (List ℕ)) (edits : List Edit) → AsksNone line → AreEditsOf lines edits
    → AreEditsOf (line ∷ lines) edits
passed_over line lines [] none are = (none, are)
passed_over line lines (edit ∷ edits) none are = inl (none, are)

pub script_leaves_what_edits_give : ScriptLeavesWhatEditsGive
script_leaves_what_edits_give setting t left [] text run = record {
  edits = [];
  asked = tt;
  ran_out = [];
  each = refl;
  leaves = same_trace t left run.1;
}
script_leaves_what_edits_give setting t left (line ∷ lines) text run =
    let (first, mid, rest, is, more, cut) = run in
    let others : LeavesEdits mid.trace lines left.trace = script_leaves_what_edits_give setting mid left lines rest more in
    elim (line_does setting _ _ t mid line first refl refl is) [
      | inl one ↦ record {
        edits = one.edit ∷ others.edits;
        asked = inr (one.asks, others.asked);
        ran_out = one.ran_out ∷ others.ran_out;
        each = ap suc others.each;
        leaves = others.leaves ∙ ap (λ (s : List Entry). after most_lines s others.edits others.ran_out) one.moves;
      }
      | inr none ↦ record {
        edits = others.edits;
        asked = passed_over line lines others.edits none.none others.asked;
        ran_out = others.ran_out;
        each = others.each;
        leaves = others.leaves ∙ ap (λ (s : List Entry). after most_lines s others.edits others.ran_out) none.same;
      }
    ]

-- lines one after the other
record Split (setting : Setting) (t : ScriptState) (xs ys : List (List ℕ)) (text : List ℕ)
    (u : ScriptState) : Type 0 where
  now : ScriptState
  first : List ℕ
  rest : List ℕ
  before : Run setting t xs first now
  others : Run setting now ys rest u
  joins : text ≡ first ++ rest

run_split : (setting : Setting) (t : ScriptState) (xs ys : List (List ℕ)) (text : List ℕ) (u : ScriptState)
    → Run setting t (xs ++ ys) text u → Split setting t xs ys text u
run_split setting t [] ys text u run = record {
  now = t;
  first = [];
  rest = text;
  before = (refl, refl);
  others = run;
  joins = refl;
}
run_split setting t (x ∷ xs) ys text u run =
    let (first, mid, rest, is, more, cut) = run in
    let s = run_split setting mid xs ys rest u more in
    record {
      now = s.now;
      first = first ++ s.first;
      rest = s.rest;
      before = (first, mid, s.first, is, s.before, refl);
      others = s.others;
      joins = cut ∙ ap (λ l. first ++ l) s.joins ∙ sym (append_assoc first s.first s.rest);
    }

pub each_report_is_of_its_trace : EachReportIsOfItsTrace
each_report_is_of_its_trace setting t left before others text run =
    let s = run_split setting t before (codes "report" ∷ others) text left run in
    let (reply, mid, rest, is, more, cut) = s.others in
    let done = reported setting s.now mid reply is in
    record {
      now = s.now;
      later = mid;
      first = s.first;
      reply = reply;
      rest = rest;
      text_is = s.joins ∙ ap (λ l. s.first ++ l) cut ∙ sym (append_assoc s.first reply rest);
      edits = script_leaves_what_edits_give setting t s.now before s.first s.before;
      lines = s.before;
      report = done.1;
      same = done.0;
      more = more;
    }
