-- The two laws: what is read is spelled so, and what is spelled so is read.
use Rattle.std.proofs.Common.{◌≡◌, ℕ, Bool, true, false, cond, not, eqb, ltb, List, [], ◌∷◌, ◌++◌, length, Option, Some}
use Rattle.std.proofs.Common.{None, Result, Ok, Err, refl, sym, ap, subst, ◌∙◌, arith, tests}
use Rattle.std.specs.Prelude.{option_map}
use Rattle.std.specs.List.{join_with_byte}
use Rattle.std.specs.Str.{all_ascii_digits}
use Rattle.std.specs.Char.{is_ascii_digit}
use Rattle.std.specs.Fmt.{decimal}
use Rattle.std.proofs.lemmas.Fmt.{digits_decimal}
use Rattle.std.proofs.lemmas.Bool.{eqb-true, ltb-false, le-ltb, and_parts}
use Rattle.std.proofs.lemmas.List.{nil_from_length}
use Rattle.cap_trace.specs.declared.fault.FirstFault.{FirstFault}
use Rattle.cap_trace.specs.declared.fault.FirstFault.TheVariants as faults
use Rattle.cap_trace.specs.Item.{Item}
use Rattle.cap_trace.specs.Item as items
use Rattle.cap_trace.specs.Call.{Call}
use Rattle.cap_trace.specs.Call as calls
use Rattle.cap_trace.specs.declared.line.Answer.{Answer}
use Rattle.cap_trace.specs.declared.calls.Form.{Form}
use Rattle.cap_trace.specs.declared.calls.Form.TheVariants as forms
use Rattle.cap_trace.specs.declared.quotes.Quoting.TheVariants.{Outside}
use Rattle.cap_trace.specs.Names.{Head, listed, unlisted, name_of, head_named}
use Rattle.cap_trace.specs.Fields.{is_free}
use Rattle.cap_trace.specs.Quotes.{pieces, cut_at_byte, cut_outside}
use Rattle.cap_trace.specs.Entry.{Entry, Arg, an_fd, some_rights, args_of, args_of_call, fds, head_of, kind_of, IsPid}
use Rattle.cap_trace.specs.Entry.{IsWhole}
use Rattle.cap_trace.specs.Spelling.{Spells, SpellsArgs, IsHead, tail_text}
use Rattle.cap_trace.specs.Forms.{Event, a_call, a_marker}
use Rattle.cap_trace.specs.Reading.{◌>>=◌, need, pid_at, event_at, answer_at, ended, args_and_tail, after_bracket}
use Rattle.cap_trace.specs.Reading.{item_at, entry_at, line_of}
use Rattle.cap_trace.proofs.Cuts.{lacks, closes, AreParts, cut_takes, cut_again, outside_takes, outside_again}
use Rattle.cap_trace.proofs.Cuts.{pieces_takes, pieces_again, closes-append}
use Rattle.cap_trace.proofs.Numerals.{own, bind_ok, need_ok, unless_ok}
use Rattle.cap_trace.proofs.Quiet.{weaken}
use Rattle.cap_trace.proofs.Heads.{head_takes, head_again, head_lacks}
use Rattle.cap_trace.proofs.Spelled.{ok_is, bind_made, pid_takes, pid_again, args_parts, is_closed, are_closed}
use Rattle.cap_trace.proofs.Spelled.{fds_closed}
use Rattle.cap_trace.proofs.Built.{event_args, event_head, IsWholeEvent, event_takes, call_again, start_again, exit_again}
use Rattle.cap_trace.proofs.Built.{foreign_again, needs_again, global_again}
use Rattle.cap_trace.proofs.Answered.{answer_takes, answer_again}

-- ---- what follows the arguments

ended_ok : (b : Bool) (x y : Item) → ◌≡◌ {A = Result Item FirstFault} (cond b (Ok x) (Err faults.Shape)) (Ok y)
    → (b ≡ true) × (x ≡ y)
ended_ok true x y e = (refl, ok_is x y e)
ended_ok false x y e = absurd cc

-- what was said, with its answer
pub record EndsItem (s : Event) (tail : List ℕ) (i : Item) : Type 0 where
  pub args : args_of i ≡ event_args s
  pub head : head_of i ≡ event_head s
  pub whole : IsWhole i
  pub rest : tail ≡ tail_text i

marker_ends : (m : Item) (tail : List ℕ) (i : Item) → IsWhole m → (length tail ≡ 0 → tail ≡ tail_text m)
    → cond (eqb (length tail) 0) (Ok m) (Err faults.Shape) ≡ Ok i → EndsItem (a_marker m) tail i
marker_ends m tail i w b e =
    let k = ended_ok (eqb (length tail) 0) m i e in
    subst (λ (x : Item). EndsItem (a_marker m) tail x) k.1
    (record { args = refl; head = refl; whole = w; rest = b (eqb-true _ _ k.0) })

ended_takes : (s : Event) (tail : List ℕ) (i : Item) → IsWholeEvent s → ended s tail ≡ Ok i → EndsItem s tail i
unfolding ended
ended_takes (a_call c) tail i w e =
    let a = bind_made (answer_at (kind_of c) tail) (λ a. items.Call c a) i e in
    let p = answer_takes (kind_of c) tail a.0 a.1 in
    subst (λ (x : Item). EndsItem (a_call c) tail x) a.2 (record { args = refl; head = refl; whole = p.1; rest = p.0 })
ended_takes (a_marker (items.Start fs)) tail i w e = marker_ends (items.Start fs) tail i w (nil_from_length tail) e
ended_takes (a_marker items.Exit) tail i w e = marker_ends items.Exit tail i w (nil_from_length tail) e
ended_takes (a_marker (items.Foreign f)) tail i w e = marker_ends (items.Foreign f) tail i w (nil_from_length tail) e
ended_takes (a_marker (items.Needs m f r)) tail i w e =
    marker_ends (items.Needs m f r) tail i w (nil_from_length tail) e
ended_takes (a_marker items.Global) tail i w e = marker_ends items.Global tail i w (nil_from_length tail) e
ended_takes (a_marker (items.Call c a)) tail i w e = absurd w

-- ---- between the brackets

-- the parts, and what follows them, make the text again
pub args_and_tail_takes : (h : Head) (text : List ℕ) (x : List (List ℕ) × List ℕ) → args_and_tail h text ≡ Some x
    → text ≡ join_with_byte 44 x.0 ++ (41 ∷ x.1)
args_and_tail_takes (listed f) text x e = listed_cut (cut_outside 41 text) refl e
  where
    listed_cut : (o : Option (List ℕ × List ℕ)) → cut_outside 41 text ≡ o
        → option_map (λ c. (pieces c.0, c.1)) o ≡ Some x → text ≡ join_with_byte 44 x.0 ++ (41 ∷ x.1)
    listed_cut None at e = absurd cc
    listed_cut (Some c) at e =
        let same : (pieces c.0, c.1) ≡ x = (let e2 = e in cc) in
        subst (λ (y : List (List ℕ) × List ℕ). text ≡ join_with_byte 44 y.0 ++ (41 ∷ y.1)) same
        (outside_takes 41 text c at ∙ ap (λ (a : List ℕ). a ++ (41 ∷ c.1)) (sym (pieces_takes c.0)))
args_and_tail_takes (unlisted n) text x e = free_cut (cut_at_byte 41 text) refl e
  where
    free_cut : (o : Option (List ℕ × List ℕ)) → cut_at_byte 41 text ≡ o → option_map (λ c. (c.0 ∷ [], c.1)) o ≡ Some x
        → text ≡ join_with_byte 44 x.0 ++ (41 ∷ x.1)
    free_cut None at e = absurd cc
    free_cut (Some c) at e =
        let same : (c.0 ∷ [], c.1) ≡ x = (let e2 = e in cc) in
        subst (λ (y : List (List ℕ) × List ℕ). text ≡ join_with_byte 44 y.0 ++ (41 ∷ y.1)) same (cut_takes 41 text c at)

pub joined_closes : (ts : List (List ℕ)) → AreParts ts → closes Outside 41 (join_with_byte 44 ts) ≡ true
joined_closes [] h = refl
joined_closes (t ∷ []) h = h.0.bracket
joined_closes (t ∷ u ∷ us) h =
    closes-append Outside 41 t (44 ∷ join_with_byte 44 (u ∷ us)) h.0.bracket (joined_closes (u ∷ us) h.1)

-- what the arguments of a line are made of is between its brackets
unfoldable pub Cuts : Item → Type 0
Cuts i = (ts : List (List ℕ)) → SpellsArgs ts (args_of i) → (tail : List ℕ)
    → args_and_tail (head_of i) (join_with_byte 44 ts ++ (41 ∷ tail)) ≡ Some (ts, tail)

listed_again : (f : Form) (ts : List (List ℕ)) (given : List Arg) (tail : List ℕ) → are_closed given ≡ true
    → SpellsArgs ts given
    → args_and_tail (listed f) (join_with_byte 44 ts ++ (41 ∷ tail)) ≡ Some (ts, tail)
listed_again f ts given tail c h =
    let parts = args_parts ts given c h in
    rw (outside_again 41 (join_with_byte 44 ts) tail (joined_closes ts parts), pieces_again ts parts) refl

free_lacks : (c : ℕ) → is_free c ≡ true → not (eqb c 41) ≡ true
free_lacks c h = (and_parts _ (not (eqb c 41)) (and_parts _ _ h).0).1

other_again : (n a : List ℕ) (answer : Answer) → Cuts (items.Call (calls.Other n a) answer)
unfolding Cuts
other_again n a answer [] h tail = absurd h
other_again n a answer (t ∷ []) h tail =
    let plain : lacks 41 t ≡ true = ap (lacks 41) h.0.0 ∙ weaken is_free (λ c. not (eqb c 41)) free_lacks a h.0.1 in
    rw (cut_again 41 t tail plain) refl
other_again n a answer (t ∷ u ∷ ts) h tail = absurd h.1

call_cuts : (c : Call) (a : Answer) → Cuts (items.Call c a)
unfolding Cuts is_closed
call_cuts (calls.Other n a) answer = other_again n a answer
call_cuts c answer = λ ts h tail. listed_again forms.Exit ts (args_of_call c) tail refl h

pub between_again : (i : Item) → Cuts i
unfolding Cuts is_closed
between_again (items.Call c a) = call_cuts c a
between_again (items.Start fs) = λ ts h tail. listed_again forms.Exit ts (fds fs) tail (fds_closed fs) h
between_again items.Exit = λ ts h tail. listed_again forms.Exit ts [] tail refl h
between_again (items.Foreign f) = λ ts h tail. listed_again forms.Exit ts (an_fd f ∷ []) tail refl h
between_again (items.Needs m f r) = λ ts h tail. listed_again forms.Exit ts (an_fd f ∷ some_rights r ∷ []) tail refl h
between_again items.Global = λ ts h tail. listed_again forms.Exit ts [] tail refl h

-- ---- after the pid

pub record SpellsItem (text : List ℕ) (i : Item) : Type 0 where
  pub texts : List (List ℕ)
  pub head : IsHead (head_of i)
  pub args : SpellsArgs texts (args_of i)
  pub whole : IsWhole i
  pub parts : text ≡ name_of (head_of i) ++ (40 ∷ (join_with_byte 44 texts ++ (41 ∷ tail_text i)))

item_takes : (text : List ℕ) (i : Item) → item_at text ≡ Ok i → SpellsItem text i
unfolding item_at
item_takes text i e =
    let cut = bind_ok (need faults.Shape (cut_at_byte 40 text))
    (λ cut. need faults.Shape (head_named cut.0) >>= λ h. after_bracket h cut.1) i e in
    let head = bind_ok (need faults.Shape (head_named cut.0.0)) (λ h. after_bracket h cut.0.1) i cut.2 in
    let args = bind_ok (need faults.Shape (args_and_tail head.0 cut.0.1))
    (λ args. event_at head.0 args.0 >>= λ s. ended s args.1) i head.2 in
    let said = bind_ok (event_at head.0 args.0.0) (λ s. ended s args.0.1) i args.2 in
    let name = head_takes cut.0.0 head.0 (need_ok faults.Shape (head_named cut.0.0) head.0 head.1) in
    let spelled = event_takes head.0 args.0.0 said.0 said.1 in
    let ends = ended_takes said.0 args.0.1 i spelled.whole said.2 in
    let same : head_of i ≡ head.0 = ends.head ∙ spelled.head in
    record {
      texts = args.0.0;
      head = subst IsHead {x = head.0} (sym same) name.1;
      args = subst (λ (x : List Arg). SpellsArgs args.0.0 x) {x = event_args said.0} (sym ends.args) spelled.args;
      whole = ends.whole;
      parts = cut_takes 40 text cut.0 (need_ok faults.Shape (cut_at_byte 40 text) cut.0 cut.1)
          ∙ ap (λ (n : List ℕ). n ++ (40 ∷ cut.0.1)) (sym name.0 ∙ ap name_of (sym same))
          ∙ ap (λ (r : List ℕ). name_of (head_of i) ++ (40 ∷ r)) (args_and_tail_takes head.0 cut.0.1 args.0
          (need_ok faults.Shape (args_and_tail head.0 cut.0.1) args.0 args.1))
          ∙ ap (λ (r : List ℕ). name_of (head_of i) ++ (40 ∷ (join_with_byte 44 args.0.0 ++ (41 ∷ r)))) ends.rest;
    }

event_again : (i : Item) (ts : List (List ℕ)) → SpellsArgs ts (args_of i) → IsWhole i
    → (event_at (head_of i) ts >>= λ s. ended s (tail_text i)) ≡ Ok i
unfolding ended
event_again (items.Call c a) ts h w = rw (call_again c ts h)
    (ap (λ (r : Result Answer FirstFault). r >>= λ x. Ok (items.Call c x)) (answer_again (kind_of c) a w))
event_again (items.Start fs) ts h w = rw (start_again fs ts h w) refl
event_again items.Exit ts h w = rw (exit_again ts h) refl
event_again (items.Foreign f) ts h w = rw (foreign_again f ts h) refl
event_again (items.Needs m f r) ts h w = rw (needs_again m f r ts h) refl
event_again items.Global ts h w = rw (global_again ts h) refl

item_again : (i : Item) (ts : List (List ℕ)) → IsHead (head_of i) → SpellsArgs ts (args_of i) → IsWhole i
    → item_at (name_of (head_of i) ++ (40 ∷ (join_with_byte 44 ts ++ (41 ∷ tail_text i)))) ≡ Ok i
unfolding item_at Cuts
item_again i ts n h w =
    rw (
      cut_again 40 (name_of (head_of i)) (join_with_byte 44 ts ++ (41 ∷ tail_text i)) (head_lacks (head_of i) n),
      head_again (head_of i) n,
      between_again i ts h (tail_text i),
    ) (event_again i ts h w)

-- ---- the line

pub record SpellsAfter (bytes : List ℕ) (e : Entry) : Type 0 where
  pub rest : List ℕ
  pub parts : bytes ≡ decimal e.pid ++ (32 ∷ rest)
  pub pid : IsPid e.pid
  pub item : SpellsItem rest e.item

entry_takes : (bytes : List ℕ) (o : Option (List ℕ × List ℕ)) (e : Entry) → cut_at_byte 32 bytes ≡ o
    → entry_at bytes o ≡ Ok e → SpellsAfter bytes e
unfolding entry_at
entry_takes bytes None e at h = let p = bind_ok (pid_at bytes) (λ _. Err faults.Shape) e h in absurd (let f = p.2 in cc)
entry_takes bytes (Some x) e at h =
    let pid = bind_ok (pid_at x.0) (λ pid. item_at x.1 >>= λ item. Ok (record { pid = pid; item = item })) e h in
    let make : Item → Entry = λ item. record { pid = pid.0; item = item } in
    let item = bind_made (item_at x.1) make e pid.2 in
    let p = pid_takes x.0 pid.0 pid.1 in
    subst (λ (y : Entry). SpellsAfter bytes y) item.2
    (record {
      rest = x.1;
      parts = cut_takes 32 bytes x at ∙ ap (λ (d : List ℕ). d ++ (32 ∷ x.1)) p.0;
      pid = p.1;
      item = item_takes x.1 item.0 item.1;
    })

pub line_takes : (bytes : List ℕ) (e : Entry) → line_of bytes ≡ Ok e → Spells bytes e
unfolding line_of
line_takes bytes e h =
    let g = unless_ok (ltb 1024 (length bytes)) faults.LongLine (entry_at bytes (cut_at_byte 32 bytes)) e h in
    let p = entry_takes bytes (cut_at_byte 32 bytes) e refl g.1 in (
      p.item.texts,
      record {
        short = ltb-false _ _ g.0;
        pid = p.pid;
        head = p.item.head;
        args = p.item.args;
        whole = p.item.whole;
        parts = p.parts ∙ ap (λ (r : List ℕ). decimal e.pid ++ (32 ∷ r)) p.item.parts;
      },
    )

digit_no_space : (c : ℕ) → is_ascii_digit c ≡ true → not (eqb c 32) ≡ true
digit_no_space c h = grind (arith, tests)

pub digits_lack : (t : List ℕ) → all_ascii_digits t ≡ true → lacks 32 t ≡ true
digits_lack t h = weaken is_ascii_digit (λ c. not (eqb c 32)) digit_no_space t h

pub line_again : (bytes : List ℕ) (e : Entry) → Spells bytes e → line_of bytes ≡ Ok e
unfolding line_of entry_at
line_again bytes e h =
    let s = h.1 in
    let short : ltb 1024 (length bytes) ≡ false = le-ltb _ _ s.short in
    let after_pid = name_of (head_of e.item) ++ (40 ∷ (join_with_byte 44 h.0 ++ (41 ∷ tail_text e.item))) in
    let cut : cut_at_byte 32 bytes ≡ Some (decimal e.pid, after_pid) = ap (cut_at_byte 32) s.parts ∙ cut_again 32
    (decimal e.pid) after_pid (digits_lack (decimal e.pid) (digits_decimal own e.pid (omega (arith, s.pid.1)))) in
    rw (short, cut, pid_again e.pid s.pid, item_again e.item h.0 s.head s.args s.whole) refl
