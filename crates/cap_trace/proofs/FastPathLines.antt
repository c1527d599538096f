-- What is read in one pass is what the line spells.
use Rattle.std.proofs.Common.{◌≡◌, ℕ, ◌≤◌, List, [], ◌∷◌, ◌++◌, length, Some, Result, Ok, Err, refl, sym, ap, subst, ◌∙◌}
use Rattle.std.proofs.Common.{append_assoc, Bool, true, false, not, cond, eqb}
use Rattle.std.proofs.Common.{◌&&◌, ◌-◌, take, drop, None, arith}
use Rattle.std.proofs.lemmas.List.{take-append-drop, take_all, length-drop}
use Rattle.std.proofs.lemmas.Bool.{not-true, and_parts}
use Rattle.std.specs.Prelude.{nat_le}
use Rattle.std.specs.List.{list_all}
use Rattle.cap_trace.specs.Steps.{takes_all}
use Rattle.std.proofs.Common.{Option}
use Rattle.cap_trace.specs.declared.fields.Place.{Place}
use Rattle.cap_trace.specs.declared.fields.Place.TheVariants as places
use Rattle.std.specs.Fmt.{decimal}
use Rattle.std.specs.List.{join_with_byte}
use Rattle.cap_trace.specs.Item.{Item}
use Rattle.cap_trace.specs.Item as items
use Rattle.cap_trace.specs.Call.{Call}
use Rattle.cap_trace.specs.declared.line.Answer.{Answer}
use Rattle.cap_trace.specs.declared.calls.NeedsMarker.{NeedsMarker}
use Rattle.cap_trace.specs.declared.calls.Form.TheVariants as forms
use Rattle.cap_trace.specs.Names.{Head, listed, name_of, head_named}
use Rattle.cap_trace.specs.Fields.{are_items, is_plain, is_between, item_step, quoted}
use Rattle.cap_trace.specs.Entry.{head_of, an_fd, a_dir, some_rights, a_command, free_text}
use Rattle.cap_trace.specs.Entry.{Arg, IsPid, head_of_call, args_of_call, kind_of, a_path}
use Rattle.cap_trace.specs.Spelling.{Spells, SpellsArg, SpellsArgs, IsHead}
use Rattle.cap_trace.specs.Quotes.{cut_at_byte, pieces_from}
use Rattle.cap_trace.specs.Views.{TakesFd}
use Rattle.cap_trace.specs.declared.quotes.Quoting.TheVariants.{Outside}
use Rattle.cap_trace.specs.declared.fault.FirstFault.{FirstFault}
use Rattle.cap_trace.specs.declared.line.Dir.{Dir}
use Rattle.std.specs.Result.{result_ok}
use Rattle.cap_trace.specs.Reading.{Gives, ◌>>=◌, dir_at, rights_at, command_at, free_at}
use Rattle.cap_trace.specs.Reading.{arg_at, answer_at, line_of}
use Rattle.cap_trace.specs.Forms.{Slot, dir, rights, command, free}
use Rattle.cap_trace.specs.Code.FastPath.{Before, Between, SpellsAfter, Starts}
use Rattle.cap_trace.proofs.Cuts.{cut_takes, pieces_after}
use Rattle.cap_trace.proofs.Heads.{head_takes, some_is}
use Rattle.cap_trace.proofs.Spelled.{arg_takes, is_closed, arg_part, fd_again}
use Rattle.cap_trace.proofs.Answered.{answer_takes}
use Rattle.cap_trace.specs.Code.Runs.{Runs}
use Rattle.cap_trace.specs.declared.runs.Run.TheVariants.{Path}
use Rattle.cap_trace.proofs.ByteRuns.{plain_run}
use Rattle.cap_trace.proofs.WholeLines.{line_again}

-- ---- arguments

-- what a function gave is what reading gives, where the fault is left out
pub given : {X Y : Type 0} (view : X → Y) (r : Result X FirstFault) (read : Result Y FirstFault) (x : X)
    → Gives view r read → result_ok r ≡ Some x → read ≡ Ok (view x)
given view (Ok y) read x g e = g ∙ ap (λ z. Ok (view z)) (some_is y x e)
given view (Err f) read x g e = absurd cc

-- an argument that is read before a byte
read_before : (s : Slot) {stop : ℕ} {text t rest : List ℕ} {a : Arg} → Some (t, rest) ≡ cut_at_byte stop text
    → arg_at s t ≡ Ok a → Before text a stop rest
read_before s {stop = stop} {text = text} {t = t} {rest = rest} {a = a} at e =
    record { spelling = t; arg = arg_takes s t a e; parts = cut_takes stop text (t, rest) (sym at) }

pub dir_before : {stop : ℕ} {text t rest : List ℕ} {d : Dir} → Some (t, rest) ≡ cut_at_byte stop text
    → dir_at t ≡ Ok d → Before text (a_dir d) stop rest
unfolding arg_at
dir_before at e = read_before dir at (ap (λ (r : Result Dir FirstFault). r >>= λ x. Ok (a_dir x)) e)

pub command_before : {stop : ℕ} {text t rest w : List ℕ} → Some (t, rest) ≡ cut_at_byte stop text
    → command_at t ≡ Ok w → Before text (a_command w) stop rest
unfolding arg_at
command_before at e = read_before command at (ap (λ (r : Result (List ℕ) FirstFault). r >>= λ x. Ok (a_command x)) e)

pub rights_before : {stop : ℕ} {text t rest : List ℕ} {r : ℕ} → Some (t, rest) ≡ cut_at_byte stop text
    → rights_at t ≡ Ok r → Before text (some_rights r) stop rest
unfolding arg_at
rights_before at e = read_before rights at (ap (λ (x : Result ℕ FirstFault). x >>= λ y. Ok (some_rights y)) e)

pub free_before : {stop : ℕ} {text t rest a : List ℕ} → Some (t, rest) ≡ cut_at_byte stop text → free_at t ≡ Ok a
    → Before text (free_text a) stop rest
unfolding arg_at
free_before at e = read_before free at (ap (λ (r : Result (List ℕ) FirstFault). r >>= λ x. Ok (free_text x)) e)

-- a descriptor before a comma is what the first part spells
pub fd_first : (text rest : List ℕ) (f : ℕ) → Before text (an_fd f) 44 rest
    → TakesFd (pieces_from Outside text) (Ok f) (pieces_from Outside rest)
unfolding is_closed
fd_first text rest f b = (
  b.spelling,
  ap (pieces_from Outside) b.parts
      ∙ pieces_after Outside b.spelling rest (arg_part b.spelling (an_fd f) refl b.arg).comma,
  fd_again b.spelling f b.arg,
)

-- ---- a path without escapes

plain_place : (c : ℕ) (s p : Bool) → s ≡ false → p ≡ true
    → cond s (Some places.Slash) (cond p (Some places.Between) None) ≡ Some places.Between
plain_place c s p e f = rw (e, f) refl

plain_items : (t : List ℕ) → list_all is_plain t ≡ true → are_items t ≡ true
unfolding takes_all
plain_items [] h = refl
plain_items (c ∷ cs) h =
    let k = and_parts (is_plain c) (list_all is_plain cs) h in
    let slash = not-true (eqb c 92)
    (and_parts (nat_le 32 c && nat_le c 126 && not (eqb c 34)) (not (eqb c 92)) k.0).1 in
    subst (λ (o : Option Place). elim o as (λ _. Bool) [
      | None ↦ false
      | Some p ↦ takes_all item_step is_between p cs
    ] ≡ true)
    (sym (plain_place c (eqb c 92) (is_plain c) slash k.0)) (plain_items cs k.1)

-- a path, its closing quote and the byte
pub path_before : {stop : ℕ} {text inside after_quote rest : List ℕ} (end : ℕ) → text ≡ 34 ∷ inside
    → end ≤ length inside → Runs Path inside 0 end → take (length inside - end) (drop end inside) ≡ 34 ∷ after_quote
    → after_quote ≡ stop ∷ rest → Before text (a_path (take end inside)) stop rest
path_before {stop = stop} {inside = inside} {rest = rest} end e within run f g =
    let path = take end inside in
    let whole = take_all (length inside - end) (drop end inside) (omega (arith, length-drop end inside)) in
    record {
      spelling = quoted path;
      arg = (refl, plain_items path (plain_run inside end within run));
      parts = e ∙ ap (λ (s : List ℕ). 34 ∷ s) (sym (take-append-drop end inside))
          ∙ ap (λ (s : List ℕ). 34 ∷ (path ++ s)) (sym whole ∙ f) ∙ ap (λ (s : List ℕ). 34 ∷ (path ++ (34 ∷ s))) g
          ∙ ap (λ (s : List ℕ). 34 ∷ s) (sym (append_assoc path (34 ∷ []) (stop ∷ rest)));
    }

-- the last argument
pub last : {text rest : List ℕ} {a : Arg} → Before text a 41 rest → Between text (a ∷ []) rest
last b = record { texts = b.spelling ∷ []; args = (b.arg, tt); parts = b.parts }

more_parts : (text more rest t : List ℕ) (a b : Arg) (others : List Arg) (ts : List (List ℕ)) → SpellsArg t a
    → text ≡ t ++ (44 ∷ more) → SpellsArgs ts (b ∷ others) → more ≡ join_with_byte 44 ts ++ (41 ∷ rest)
    → Between text (a ∷ b ∷ others) rest
more_parts text more rest t a b others [] s e h f = absurd h
more_parts text more rest t a b others (u ∷ us) s e h f =
    record {
      texts = t ∷ u ∷ us;
      args = (s, h);
      parts = e ∙ ap (λ (m : List ℕ). t ++ (44 ∷ m)) f
          ∙ sym (append_assoc t (44 ∷ join_with_byte 44 (u ∷ us)) (41 ∷ rest));
    }

-- an argument with others after it
pub next : {text more rest : List ℕ} {a b : Arg} {others : List Arg} → Before text a 44 more
    → Between more (b ∷ others) rest → Between text (a ∷ b ∷ others) rest
next x y = more_parts _ _ _ x.spelling _ _ _ y.texts x.arg x.parts y.args y.parts

-- ---- calls and lines

-- a call with its answer
pub call_after : {h : Head} {text tail : List ℕ} {c : Call} {a : Answer} → head_of_call c ≡ h
    → Between text (args_of_call c) tail → answer_at (kind_of c) tail ≡ Ok a → SpellsAfter h text (items.Call c a)
call_after {tail = tail} {c = c} {a = a} e b is_answer =
    let k = answer_takes (kind_of c) tail a is_answer in
    record {
      head = e;
      args = record {
        texts = b.texts;
        args = b.args;
        parts = b.parts ∙ ap (λ (r : List ℕ). join_with_byte 44 b.texts ++ (41 ∷ r)) k.0;
      };
      whole = k.1;
    }

-- a marker of needs
pub needs_after : {text tail : List ℕ} {m : NeedsMarker} {f r : ℕ} → Between text (an_fd f ∷ some_rights r ∷ []) tail
    → tail ≡ [] → SpellsAfter (listed (forms.Needs m)) text (items.Needs m f r)
needs_after {text = text} {f = f} {r = r} b e = record {
  head = refl;
  args = subst (λ (t : List ℕ). Between text (an_fd f ∷ some_rights r ∷ []) t) e b;
  whole = tt;
}

-- how a line begins
pub starts : {bytes text : List ℕ} (rest name : List ℕ) {p : ℕ} {h : Head} → length bytes ≤ 1024
    → bytes ≡ decimal p ++ (32 ∷ rest) → IsPid p → rest ≡ name ++ (40 ∷ text)
    → Some h ≡ head_named name → Starts bytes p h text
starts {text = text} rest name {p = p} {h = h} short at is_pid after named =
    let n = head_takes name h (sym named) in
    record {
      short = short;
      pid = is_pid;
      head = n.1;
      parts = at ∙ ap (λ (r : List ℕ). decimal p ++ (32 ∷ r))
          (after ∙ ap (λ (s : List ℕ). s ++ (40 ∷ text)) (sym n.0));
    }

-- the line, by what follows its bracket
pub spelled_line : {bytes text : List ℕ} {p : ℕ} {h : Head} {i : Item} → Starts bytes p h text → SpellsAfter h text i
    → Spells bytes (record { pid = p; item = i })
spelled_line {text = text} {p = p} {h = h} {i = i} b s = (
  s.args.texts,
  record {
    short = b.short;
    pid = b.pid;
    head = subst IsHead {x = h} (sym s.head) b.head;
    args = s.args.args;
    whole = s.whole;
    parts = b.parts ∙ ap (λ (n : List ℕ). decimal p ++ (32 ∷ (n ++ (40 ∷ text)))) (sym (ap name_of s.head))
        ∙ ap (λ (r : List ℕ). decimal p ++ (32 ∷ (name_of (head_of i) ++ (40 ∷ r)))) s.args.parts;
  },
)

pub read_so : {bytes text : List ℕ} {p : ℕ} {h : Head} {i : Item} → Starts bytes p h text → SpellsAfter h text i
    → line_of bytes ≡ Ok (record { pid = p; item = i })
read_so {bytes = bytes} {p = p} {i = i} b s = line_again bytes (record { pid = p; item = i }) (spelled_line b s)
