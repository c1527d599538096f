-- Replies, one after the other.
use Rattle.std.proofs.Common.{◌≡◌, ℕ, ◌+◌, ◌<◌, ◌≤◌, List, [], ◌∷◌, ◌++◌, length, take, drop, refl, sym, ◌∙◌, ap}
use Rattle.std.proofs.Common.{append_assoc, arith, true, false, cond, inl, inr, subst}
use Rattle.std.specs.Prelude.{nat_lt, Some, None}
use Rattle.std.proofs.lemmas.List.{append-nil, length-take, length-drop, take_all}
use Rattle.std.proofs.lemmas.Bool.{cases_lt}
use Rattle.memchr.specs.Find.{IsFirstByte, is_byte}
use Rattle.cap_session.specs.Devices.{SinkState}
use Rattle.cap_session.specs.Code.LineEnds.{IsCut}
use Rattle.cap_session.specs.Writes.{Wrote, WrotePrefix}
use Rattle.cap_session.specs.Lines.{whole_lines, last_piece}
use Rattle.cap_session.specs.Trace.{is_skipped}
use Rattle.cap_session.specs.Scripts.{Commands, Answers, Run, Replied, Broken, long_piece, script_lines, tail, due}
use Rattle.cap_session.specs.Scripts.{due_line, due_piece, Scripting}
use Rattle.cap_session.specs.Replies.{ScriptState}
use Rattle.cap_session.specs.declared.session.Setting.{Setting}
use Rattle.cap_session.specs.Commands.{asked}
use Rattle.cap_session.specs.Refusal.{refused_text}
use Rattle.cap_session.proofs.Cuts.{Cut, NoCut, cut_at, no_cut}
use Rattle.cap_session.proofs.Calls.{appends_more, appends_none}

pub is_long : (line : List ℕ) → 1056 < length line → nat_lt 1056 (length line) ≡ true
is_long line long = grind arith

pub answers_long : (setting : Setting) (t : ScriptState) (line : List ℕ) → 1056 < length line
    → Answers setting t line (refused_text 1) t
answers_long setting t line long =
    rw (is_long line long) (refl, refl)

pub answers_command : (setting : Setting) (t : ScriptState) (line text : List ℕ) (u : ScriptState) → length line ≤ 1056
    → is_skipped line ≡ false → Commands setting t (asked line) text u → Answers setting t line text u
answers_command setting t line text u short command is =
    let no : nat_lt 1056 (length line) ≡ false = grind arith in
    rw (no, command) is

-- the reply to a line that is too long rests on no byte past its 1,057th
pub answers_cut : (setting : Setting) (t : ScriptState) (line text : List ℕ) (u : ScriptState)
    → Answers setting t (take 1057 line) text u → Answers setting t line text u
answers_cut setting t line text u is =
    elim (cases_lt 1056 (length line)) [
      | inl long ↦
          let cut : 1056 < length (take 1057 line) = simp length-take (omega arith) in
          rw (is_long line long) (rw (is_long (take 1057 line) cut) at is)
      | inr short ↦ rw (take_all 1057 line (omega arith)) at is
    ]

pub one_line : (setting : Setting) (t : ScriptState) (w0 w1 : SinkState) (line text : List ℕ) (u : ScriptState)
    → Answers setting t line text u → Wrote w0 w1 text → Replied setting t w0 w1 (line ∷ []) u
one_line setting t w0 w1 line text u is wrote = record {
  text = text;
  run = (text, u, [], is, (refl, refl), sym (append-nil text));
  wrote = wrote;
}

pub one_broken : (setting : Setting) (t : ScriptState) (w0 w1 : SinkState) (line text : List ℕ) (u : ScriptState)
    → Answers setting t line text u → WrotePrefix w0 w1 text → Broken setting t w0 w1 (line ∷ [])
one_broken setting t w0 w1 line text u is wrote = record {
  first = line ∷ [];
  others = [];
  cut = refl;
  text = text;
  left = u;
  run = (text, u, [], is, (refl, refl), sym (append-nil text));
  wrote = wrote;
}

run_on : (setting : Setting) (t : ScriptState) (xs : List (List ℕ)) (text : List ℕ) (u : ScriptState) (ys : List (List ℕ))
    (more : List ℕ) (v : ScriptState)
    → Run setting t xs text u → Run setting u ys more v → Run setting t (xs ++ ys) (text ++ more) v
run_on setting t [] text u ys more v first second =
    rw first.0 (subst (λ (x : ScriptState). Run setting x ys more v) first.1 second)
run_on setting t (line ∷ xs) text u ys more v first second = (
  first.0,
  first.1,
  first.2 ++ more,
  first.3,
  run_on setting first.1 xs first.2 u ys more v first.4 second,
  ap (λ l. l ++ more) first.5 ∙ append_assoc first.0 first.2 more,
)

pub replied_none : (setting : Setting) (t : ScriptState) (w : SinkState) → Replied setting t w w [] t
replied_none setting t w = record {
  text = [];
  run = (refl, refl);
  wrote = record { taken = appends_none w.taken; failures = refl; room = refl };
}

pub replied_on : (setting : Setting) (t : ScriptState) (w0 w1 w2 : SinkState) (xs ys : List (List ℕ)) (u v : ScriptState)
    → Replied setting t w0 w1 xs u → Replied setting u w1 w2 ys v → Replied setting t w0 w2 (xs ++ ys) v
replied_on setting t w0 w1 w2 xs ys u v first second = record {
  text = first.text ++ second.text;
  run = run_on setting t xs first.text u ys second.text v first.run second.run;
  wrote = record {
    taken = appends_more _ _ _ _ _ first.wrote.taken second.wrote.taken;
    failures = second.wrote.failures ∙ first.wrote.failures;
    room = second.wrote.room ∙ first.wrote.room;
  };
}

pub broken_on : (setting : Setting) (t : ScriptState) (w0 w1 w2 : SinkState) (xs ys : List (List ℕ)) (u : ScriptState)
    → Replied setting t w0 w1 xs u → Broken setting u w1 w2 ys → Broken setting t w0 w2 (xs ++ ys)
broken_on setting t w0 w1 w2 xs ys u done broke = record {
  first = xs ++ broke.first;
  others = broke.others;
  cut = ap (λ ls. xs ++ ls) broke.cut ∙ sym (append_assoc xs broke.first broke.others);
  text = done.text ++ broke.text;
  left = broke.left;
  run = run_on setting t xs done.text u broke.first broke.text broke.left done.run broke.run;
  wrote = record {
    front = done.text ++ broke.wrote.front;
    rest = broke.wrote.rest;
    cut = ap (λ l. done.text ++ l) broke.wrote.cut ∙ sym (append_assoc done.text broke.wrote.front broke.wrote.rest);
    taken = appends_more _ _ _ _ _ done.wrote.taken broke.wrote.taken;
    failures = let a = done.wrote.failures in let b = broke.wrote.failures in omega arith;
    room = let a = done.wrote.room in let b = broke.wrote.room in omega arith;
  };
}

pub broken_more : (setting : Setting) (t : ScriptState) (w0 w1 : SinkState) (xs ys : List (List ℕ))
    → Broken setting t w0 w1 xs → Broken setting t w0 w1 (xs ++ ys)
broken_more setting t w0 w1 xs ys broke = record {
  first = broke.first;
  others = broke.others ++ ys;
  cut = ap (λ ls. ls ++ ys) broke.cut ∙ append_assoc broke.first broke.others ys;
  text = broke.text;
  left = broke.left;
  run = broke.run;
  wrote = broke.wrote;
}

pub due_cut : (held bytes : List ℕ) (k : ℕ) → IsFirstByte (is_byte 10) bytes (Some k)
    → due held bytes ≡ due_line held (take k bytes) ++ due [] (drop (k + 1) bytes)
due_cut held bytes k found =
    let cut : Cut held bytes k = cut_at held bytes k found in
    rw (cut.whole, cut.last) (
    elim (nat_lt 1056 (length held)) as (λ v. cond v
    (whole_lines [] (drop (k + 1) bytes) ++ long_piece (last_piece [] (drop (k + 1) bytes))) ((held ++ take k bytes)
    ∷ (whole_lines [] (drop (k + 1) bytes) ++ long_piece (last_piece [] (drop (k + 1) bytes)))) ≡ cond v []
    ((held ++ take k bytes) ∷ []) ++ script_lines [] (drop (k + 1) bytes)) [ true ↦ refl | false ↦ refl ])

tail_long : (held : List ℕ) → tail (long_piece held) ≡ []
tail_long held =
    elim (nat_lt 1056 (length held)) as (λ v. tail (cond v (held ∷ []) []) ≡ []) [ true ↦ refl | false ↦ refl ]

pub due_rest : (held bytes : List ℕ) → IsFirstByte (is_byte 10) bytes None → due held bytes ≡ due_piece held bytes
due_rest held bytes found =
    let cut : NoCut held bytes = no_cut held bytes found in
    rw (cut.whole, cut.last) (
    elim (nat_lt 1056 (length held)) as (λ v. cond v (tail (long_piece (held ++ bytes))) (long_piece (held ++ bytes))
    ≡ cond v [] (long_piece (held ++ bytes))) [ true ↦ tail_long (held ++ bytes) | false ↦ refl ])

-- What the loop over a piece of a script keeps.
pub record Scripted (start : Scripting) (w0 : SinkState) (piece : List ℕ) (s : Scripting) (w1 : SinkState)
    (rest : List ℕ) : Type 0 where
  pub lines : List (List ℕ)
  pub setting : s.setting ≡ start.setting
  pub replied : Replied start.setting start.state w0 w1 lines s.state
  pub same : due start.held piece ≡ lines ++ due s.held rest
  pub last : take 1057 (last_piece s.held rest) ≡ take 1057 (last_piece start.held piece)
  pub room : w1.room ≡ w0.room
  pub within : length rest ≤ length piece

-- a line was replied to
scripted_at : (start s t : Scripting) (w0 w1 w2 : SinkState) (piece rest : List ℕ) (k : ℕ)
    → Scripted start w0 piece s w1 rest →
    IsFirstByte (is_byte 10) rest (Some k) → Replied s.setting s.state w1 w2 (due_line s.held (take k rest)) t.state
    → t.setting ≡ s.setting → t.held ≡ [] → Scripted start w0 piece t w2 (drop (k + 1) rest)
scripted_at start s t w0 w1 w2 piece rest k went found replied stays empty =
    let cut : Cut s.held rest k = cut_at s.held rest k found in
    record {
      lines = went.lines ++ due_line s.held (take k rest);
      setting = stays ∙ went.setting;
      replied = replied_on _ _ _ _ _ _ _ _ _ went.replied (rw went.setting at replied);
      same = went.same ∙ ap (λ ls. went.lines ++ ls) (due_cut s.held rest k found)
          ∙ sym (append_assoc went.lines (due_line s.held (take k rest)) (due [] (drop (k + 1) rest)))
          ∙ ap (λ h. (went.lines ++ due_line s.held (take k rest)) ++ due h (drop (k + 1) rest)) (sym empty);
      last = rw empty (sym (ap (λ l. take 1057 l) cut.last) ∙ went.last);
      room = replied.wrote.room ∙ went.room;
      within = let before = went.within in simp length-drop (omega arith);
    }

pub scripted_on : (start s t : Scripting) (w0 w1 w2 : SinkState) (piece rest line left : List ℕ)
    → Scripted start w0 piece s w1 rest → IsCut rest line left
    → Replied s.setting s.state w1 w2 (due_line s.held line) t.state → t.setting ≡ s.setting → t.held ≡ []
    → Scripted start w0 piece t w2 left
scripted_on start s t w0 w1 w2 piece rest line left went cut replied stays empty =
    subst (λ (l : List ℕ). Scripted start w0 piece t w2 l) (sym cut.leaves)
    (scripted_at start s t w0 w1 w2 piece rest (length line) went cut.first
    (subst (λ (l : List ℕ). Replied s.setting s.state w1 w2 (due_line s.held l) t.state) cut.begins replied) stays empty)

-- the writer failed in a reply
pub scripted_broken : (start s : Scripting) (w0 w1 w2 : SinkState) (piece rest line left : List ℕ)
    → Scripted start w0 piece s w1 rest → IsCut rest line left → Broken s.setting s.state w1 w2 (due_line s.held line)
    → Broken start.setting start.state w0 w2 (due start.held piece)
scripted_broken start s w0 w1 w2 piece rest line left went cut broke =
    let k = length line in
    let here : Broken s.setting s.state w1 w2 (due_line s.held (take k rest)) =
    subst (λ (l : List ℕ). Broken s.setting s.state w1 w2 (due_line s.held l)) cut.begins broke in
    rw (went.same, due_cut s.held rest k cut.first) (broken_on _ _ _ _ _ _ _ _ went.replied
    (broken_more _ _ _ _ _ (due [] (drop (k + 1) rest)) (rw went.setting at here)))

-- the piece was worked through
pub scripted_last : (start s t : Scripting) (w0 w1 w2 : SinkState) (piece rest : List ℕ)
    → Scripted start w0 piece s w1 rest →
    IsFirstByte (is_byte 10) rest None → Replied s.setting s.state w1 w2 (due_piece s.held rest) t.state
    → Replied start.setting start.state w0 w2 (due start.held piece) t.state
scripted_last start s t w0 w1 w2 piece rest went none replied =
    rw (went.same, due_rest s.held rest none) (replied_on _ _ _ _ _ _ _ _ _ went.replied (rw went.setting at replied))

pub scripted_last_broken : (start s : Scripting) (w0 w1 w2 : SinkState) (piece rest : List ℕ)
    → Scripted start w0 piece s w1 rest →
    IsFirstByte (is_byte 10) rest None → Broken s.setting s.state w1 w2 (due_piece s.held rest)
    → Broken start.setting start.state w0 w2 (due start.held piece)
scripted_last_broken start s w0 w1 w2 piece rest went none broke =
    rw (went.same, due_rest s.held rest none) (broken_on _ _ _ _ _ _ _ _ went.replied (rw went.setting at broke))

pub scripted_held : (start s t : Scripting) (w0 w1 : SinkState) (piece rest : List ℕ)
    → Scripted start w0 piece s w1 rest →
    IsFirstByte (is_byte 10) rest None → t.held ≡ take 1057 (s.held ++ rest)
    → t.held ≡ take 1057 (last_piece start.held piece)
scripted_held start s t w0 w1 piece rest went none is =
    let cut : NoCut s.held rest = no_cut s.held rest none in
    is ∙ ap (λ l. take 1057 l) (sym cut.last) ∙ went.last

pub is_short : (line : List ℕ) → length line ≤ 1056 → nat_lt 1056 (length line) ≡ false
is_short line short = grind arith

pub due_line_short : (held bytes : List ℕ) → length held ≤ 1056 → due_line held bytes ≡ (held ++ bytes) ∷ []
due_line_short held bytes short = rw (is_short held short) refl

pub due_piece_long : (held bytes : List ℕ) → length held ≤ 1056 → 1056 < length (take 1057 (held ++ bytes))
    → due_piece held bytes ≡ (held ++ bytes) ∷ []
due_piece_long held bytes short long =
    let past : 1056 < length (held ++ bytes) = let cut = rw length-take at long in omega arith in
    rw (is_short held short, is_long (held ++ bytes) past) refl

pub due_piece_was_long : (held bytes : List ℕ) → 1056 < length held → due_piece held bytes ≡ []
due_piece_was_long held bytes long = rw (is_long held long) refl

pub due_piece_short : (held bytes : List ℕ) → length (take 1057 (held ++ bytes)) ≤ 1056 → due_piece held bytes ≡ []
due_piece_short held bytes short =
    let within : length (held ++ bytes) ≤ 1056 = let cut = rw length-take at short in omega arith in
    rw (is_short (held ++ bytes) within) (elim (nat_lt 1056 (length held)) as (λ v. cond {A = List (List ℕ)} v [] []
    ≡ []) [ true ↦ refl | false ↦ refl ])

pub replied_cut : (setting : Setting) (t : ScriptState) (w0 w1 : SinkState) (line : List ℕ) (u : ScriptState)
    → Replied setting t w0 w1 (take 1057 line ∷ []) u → Replied setting t w0 w1 (line ∷ []) u
replied_cut setting t w0 w1 line u r = record {
  text = r.text;
  run = (r.run.0, r.run.1, r.run.2, answers_cut setting t line r.run.0 r.run.1 r.run.3, r.run.4, r.run.5);
  wrote = r.wrote;
}

broken_cut_from : (setting : Setting) (t : ScriptState) (w0 w1 : SinkState) (line : List ℕ)
    (first others : List (List ℕ)) (text : List ℕ) (u : ScriptState) →
    take 1057 line ∷ [] ≡ first ++ others → Run setting t first text u → WrotePrefix w0 w1 text
    → Broken setting t w0 w1 (line ∷ [])
broken_cut_from setting t w0 w1 line [] others text u cut run wrote =
    record { first = []; others = line ∷ []; cut = refl; text = text; left = u; run = run; wrote = wrote }
broken_cut_from setting t w0 w1 line (x ∷ []) others text u cut run wrote =
    let same : x ≡ take 1057 line = cc in
    let is = subst (λ (l : List ℕ). Answers setting t l run.0 run.1) same run.3 in
    record {
      first = line ∷ [];
      others = [];
      cut = refl;
      text = text;
      left = u;
      run = (run.0, run.1, run.2, answers_cut setting t line run.0 run.1 is, run.4, run.5);
      wrote = wrote;
    }
broken_cut_from setting t w0 w1 line (x ∷ y ∷ more) others text u cut run wrote = cc

pub broken_cut : (setting : Setting) (t : ScriptState) (w0 w1 : SinkState) (line : List ℕ)
    → Broken setting t w0 w1 (take 1057 line ∷ []) → Broken setting t w0 w1 (line ∷ [])
broken_cut setting t w0 w1 line b =
    broken_cut_from setting t w0 w1 line b.first b.others b.text b.left b.cut b.run b.wrote
