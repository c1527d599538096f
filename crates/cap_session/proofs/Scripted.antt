-- A script of edits and a report.
use Rattle.std.proofs.Common.{◌≡◌, ℕ, List, [], ◌∷◌, ◌++◌, Bool, true, false, refl, sym, ap, ◌∙◌, append_assoc, subst}
use Rattle.std.proofs.Common.{inl, inr, suc}
use Rattle.std.specs.Prelude.{Option, flat_map, codes, MatchBool, IsOk, Result, Ok, Err}
use Rattle.std.proofs.lemmas.List.{append-nil}
use Rattle.cap_trace.specs.Entry.{Entry}
use Rattle.cap_session.specs.declared.session.Setting.{Setting}
use Rattle.cap_session.specs.declared.edit.Edit.{Edit}
use Rattle.cap_session.specs.declared.refused.Refused.{Refused}
use Rattle.cap_session.specs.Edits.{edited, trace_after, answer, after, answers}
use Rattle.cap_session.specs.Commands.{Asked, first_word, after_word, edit_asked}
use Rattle.cap_session.specs.Refusal.{refused_text}
use Rattle.cap_session.specs.Replies.{Done, ScriptState, edit_done}
use Rattle.cap_session.specs.Origins.{Base, origins_after}
use Rattle.cap_session.specs.Limits.{most_lines}
use Rattle.cap_session.specs.Scripts.{RepliesTo, Commands, Answers}
use Rattle.cap_session.proofs.Performed.{edit_commanded}
use Rattle.cap_session.specs.ScriptLaws.{Asks, answer_text, ReportOrOutOfMemory, ScriptReportsWhatEditsGive}

-- the reply to a line that is neither too long nor skipped is that to its command
commands : (long skipped : Bool) (a b c : Type 0) → long ≡ false → skipped ≡ false
    → MatchBool long a (MatchBool skipped b c) → c
commands false false a b c short kept is = is
commands true skipped a b c short kept is = absurd (cc)
commands false true a b c short kept is = absurd (cc)

-- whether an edit ran out of memory, by its reply
abbrev pub EditReplied : List Entry → Result (List Entry) Refused → List ℕ → List Entry → Type 0
EditReplied t r text u = (w : Bool) × (u ≡ trace_after t w r) × (text ≡ answer_text (answer w r))

seen : (t u : ScriptState) (text : List ℕ) (edit : List (Option ℕ) → List (Option ℕ)) (base : Option Base)
    (r : Result (List Entry) Refused) → RepliesTo t (edit_done edit base r) text u
    → EditReplied t.trace r text u.trace
seen t u text edit base (Ok next) is = (false, is.trace, is.reply)
seen t u text edit base (Err e) is = (false, ap (λ (s : ScriptState). s.trace) is.1, is.0)

out_of_memory : (t u : ScriptState) (text : List ℕ) (edit : List (Option ℕ) → List (Option ℕ)) (base : Option Base)
    (r : Result (List Entry) Refused) → IsOk (edit_done edit base r)
    → text ≡ refused_text 9 → u ≡ t → EditReplied t.trace r text u.trace
out_of_memory t u text edit base (Ok next) ok is same = (true, ap (λ (s : ScriptState). s.trace) same, is)
out_of_memory t u text edit base (Err e) ok is same = absurd (cc)

pub edit_replied : (setting : Setting) (t u : ScriptState) (text : List ℕ) (e : Edit)
    → Commands setting t (edit_asked e) text u → EditReplied t.trace (edited most_lines t.trace e) text u.trace
edit_replied setting t u text e (inl is) = seen t u text (origins_after e) t.base (edited most_lines t.trace e)
    (subst (λ (r : Result Done ℕ). RepliesTo t r text u) (edit_commanded setting t e) is)
edit_replied setting t u text e (inr is) = out_of_memory t u text (origins_after e) t.base (edited most_lines t.trace e)
    (subst (λ (r : Result Done ℕ). IsOk r) (edit_commanded setting t e) is.1) is.2 is.3

answered : (setting : Setting) (t u : ScriptState) (line text : List ℕ) (e : Edit) → Asks line e
    → Answers setting t line text u → EditReplied t.trace (edited most_lines t.trace e) text u.trace
answered setting t u line text e asks is =
    edit_replied setting t u text e
    (subst (λ (a : Asked). Commands setting t a text u) asks.2 (commands _ _ _ _ _ asks.0 asks.1 is))

-- the reply to `report`
pub reported : (setting : Setting) (t u : ScriptState) (text : List ℕ) → Answers setting t (codes "report") text u
    → (u.trace ≡ t.trace) × ReportOrOutOfMemory setting t.trace text
unfolding first_word after_word
reported setting t u text (inl is) = (is.trace, inl is.reply)
reported setting t u text (inr is) = (ap (λ (s : ScriptState). s.trace) is.3, inr is.2)

pub script_reports_what_edits_give : ScriptReportsWhatEditsGive
script_reports_what_edits_give setting t left [] [] text asks run =
    let (first, mid, rest, answer_is, more, cut) = run in
    let last = reported setting t mid first answer_is in
    let same : left.trace ≡ t.trace = ap (λ (s : ScriptState). s.trace) more.1 ∙ last.0 in (
      [],
      first,
      refl,
      same,
      cut ∙ ap (λ (r : List ℕ). first ++ r) more.0 ∙ append-nil first,
      subst (λ (u : List Entry). ReportOrOutOfMemory setting u first) (sym same) last.1,
    )
script_reports_what_edits_give setting t left (line ∷ lines) (edit ∷ edits) text asks run =
    let (first, mid, rest, answer_is, more, cut) = run in
    let (w, moves, told_is) = answered setting t mid line first edit asks.0 answer_is in
    let (ws, last, long, left_is, rest_is, is) =
    script_reports_what_edits_give setting mid left lines edits rest asks.1 more in
    let next : List Entry = trace_after t.trace w (edited most_lines t.trace edit) in
    let others : List Entry → List ℕ = λ u. flat_map answer_text (answers most_lines u edits ws) in (
      w ∷ ws,
      last,
      ap suc long,
      left_is ∙ ap (λ (u : List Entry). after most_lines u edits ws) moves,
      cut ∙ ap (λ (f : List ℕ). f ++ rest) told_is
          ∙ ap (λ (r : List ℕ). answer_text (answer w (edited most_lines t.trace edit)) ++ r)
          (rest_is ∙ ap (λ (u : List Entry). others u ++ last) moves)
          ∙ sym (append_assoc (answer_text (answer w (edited most_lines t.trace edit))) (others next) last),
      is,
    )
script_reports_what_edits_give setting t left [] (edit ∷ edits) text asks run = absurd asks
script_reports_what_edits_give setting t left (line ∷ lines) [] text asks run = absurd asks
