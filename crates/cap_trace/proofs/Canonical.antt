-- The canonical text of a line spells it.
use Rattle.std.proofs.Common.{◌≡◌, ℕ, ◌+◌, ◌^◌, ◌<◌, ◌≤◌, ◌&&◌, Bool, true, false, List, [], ◌∷◌, ◌++◌, length, map}
use Rattle.std.proofs.Common.{refl, sym, ap, subst, ◌∙◌, arith, length-append}
use Rattle.std.specs.List.{join_with_byte}
use Rattle.std.specs.Fmt.{decimal}
use Rattle.std.proofs.lemmas.Fmt.{length-decimal-le}
use Rattle.std.proofs.lemmas.Bool.{and_parts}
use Rattle.cap_rights.specs.Text.{text}
use Rattle.cap_rights.proofs.Again.{named_is_read}
use Rattle.cap_rights.proofs.Short.{text_is_short}
use Rattle.cap_trace.specs.Item.{Item}
use Rattle.cap_trace.specs.Item as items
use Rattle.cap_trace.specs.Call.{Call}
use Rattle.cap_trace.specs.Call as calls
use Rattle.cap_trace.specs.declared.line.Answer.{Answer}
use Rattle.cap_trace.specs.declared.line.Answer.TheVariants as answers
use Rattle.cap_trace.specs.declared.line.Dir.TheVariants as dirs
use Rattle.cap_trace.specs.declared.calls.ResultKind.TheVariants.{Zero}
use Rattle.cap_trace.specs.declared.calls.NeedsMarker.TheVariants as needs_markers
use Rattle.cap_trace.specs.Entry.{Entry, Arg, an_fd, a_dir, some_rights, a_word}
use Rattle.cap_trace.specs.Names.{name_of}
use Rattle.cap_trace.specs.Entry.{args_of, head_of, fds, IsAnswer}
use Rattle.cap_trace.specs.Spelling.{SpellsArg, SpellsArgs, SpellsBy, Spells, arg_text, answer_text, joined, canon}
use Rattle.cap_trace.specs.Spelling.{IsProper, tail_text}

-- what is written for an argument spells it
arg_written : (t : List ℕ) (a : Arg) → SpellsArg t a → SpellsArg (arg_text a) a
arg_written t (a_dir (dirs.Fd f)) h = (refl, h.1)
arg_written t (a_dir dirs.Cwd) h = refl
arg_written t (some_rights r) h = named_is_read t r h
arg_written t (a_word w) h = refl
arg_written t a h = (refl, h.1)

args_written : (ts : List (List ℕ)) (given : List Arg) → SpellsArgs ts given → SpellsArgs (map arg_text given) given
args_written [] [] h = tt
args_written [] (a ∷ others) h = absurd h
args_written (t ∷ ts) [] h = absurd h
args_written (t ∷ ts) (a ∷ others) h = (arg_written t a h.0, args_written ts others h.1)

-- but for rights, an argument has one text
unfoldable pub is_settled : Arg → Bool
is_settled (some_rights r) = false
is_settled a = true

arg_same : (t : List ℕ) (a : Arg) → is_settled a ≡ true → SpellsArg t a → t ≡ arg_text a
unfolding is_settled
arg_same t (a_dir (dirs.Fd f)) s h = h.0
arg_same t (a_dir dirs.Cwd) s h = h
arg_same t (some_rights r) s h = absurd cc
arg_same t (a_word w) s h = h
arg_same t a s h = h.0

abbrev pub are_settled : List Arg → Bool
are_settled [] = true
are_settled (a ∷ others) = is_settled a && are_settled others

args_same : (ts : List (List ℕ)) (given : List Arg) → are_settled given ≡ true → SpellsArgs ts given
    → ts ≡ map arg_text given
args_same [] [] s h = refl
args_same [] (a ∷ others) s h = absurd h
args_same (t ∷ ts) [] s h = absurd h
args_same (t ∷ ts) (a ∷ others) s h =
    let k = and_parts (is_settled a) (are_settled others) s in
    ap (λ (u : List ℕ). u ∷ ts) (arg_same t a k.0 h.0)
    ∙ ap (λ (us : List (List ℕ)). arg_text a ∷ us) (args_same ts others k.1 h.1)

pub fds_settled : (fs : List ℕ) → are_settled (fds fs) ≡ true
unfolding is_settled
fds_settled [] = refl
fds_settled (f ∷ fs) = fds_settled fs

-- a line without rights has one text
pub settled_same : (bytes : List ℕ) (e : Entry) (texts : List (List ℕ)) → are_settled (args_of e.item) ≡ true
    → SpellsBy bytes e texts → canon e ≡ bytes
settled_same bytes e texts s h = sym (h.parts ∙ ap (joined e) (args_same texts (args_of e.item) s h.args))

-- ---- how long it is

settled_short : (bytes : List ℕ) (e : Entry) (texts : List (List ℕ)) → are_settled (args_of e.item) ≡ true
    → SpellsBy bytes e texts → length (canon e) ≤ 1024
settled_short bytes e texts s h = subst (λ (b : List ℕ). length b ≤ 1024) (sym (settled_same bytes e texts s h)) h.short

decimal_short : (n : ℕ) → n < 2 ^ 64 → length (decimal n) ≤ 20
decimal_short n lt = length-decimal-le 20 n (omega arith) (omega (arith, lt)) lt

zero_short : (a : Answer) → IsAnswer Zero a → length (answer_text a) ≤ 29
zero_short (answers.Made n) h = omega (arith, decimal_short n (omega (arith, h)))
zero_short (answers.Pair n m) h = absurd h
zero_short (answers.Fault e) h = omega (arith, decimal_short e (omega (arith, h.1)))

-- a line in its parts
parts_length : (p n a r : List ℕ)
    → length (p ++ (32 ∷ (n ++ (40 ∷ (a ++ (41 ∷ r)))))) ≡ length p + (length n + (length a + (length r + 3)))
parts_length p n a r = simp length-append (omega arith)

two_length : (f t : List ℕ) → length (join_with_byte 44 (f ∷ t ∷ [])) ≡ length f + (length t + 1)
two_length f t = simp length-append (omega arith)

fd_small : (texts : List (List ℕ)) (x y : ℕ) → SpellsArgs texts (an_fd x ∷ some_rights y ∷ []) → x < 2 ^ 64
fd_small [] x y h = absurd h
fd_small (t ∷ ts) x y h = omega (arith, h.0.1)

-- a line whose arguments are a descriptor and rights
rights_short : (bytes : List ℕ) (p : ℕ) (i : Item) (texts : List (List ℕ)) (x y : ℕ)
    → args_of i ≡ an_fd x ∷ some_rights y ∷ []
    → length (name_of (head_of i)) ≤ 16 → length (tail_text i) ≤ 34
    → SpellsBy bytes (record { pid = p; item = i }) texts → length (canon (record { pid = p; item = i })) ≤ 1024
rights_short bytes p i texts x y is name tail h =
    let canon_is : canon (record { pid = p; item = i }) ≡ decimal p ++ (32 ∷ (name_of (head_of i)
    ++ (40 ∷ (join_with_byte 44 (decimal x ∷ text y ∷ []) ++ (41 ∷ tail_text i))))) =
    ap (λ (given : List Arg). joined (record { pid = p; item = i }) (map arg_text given)) is in
    let given : SpellsArgs texts (an_fd x ∷ some_rights y ∷ []) = subst (λ (some : List Arg). SpellsArgs texts some) is h.args in
    let long = parts_length (decimal p) (name_of (head_of i)) (join_with_byte 44 (decimal x ∷ text y ∷ []))
    (tail_text i) in
    let args = two_length (decimal x) (text y) in
    omega (
      arith,
      ap length canon_is,
      long,
      args,
      name,
      tail,
      decimal_short p (omega (arith, h.pid.1)),
      decimal_short x (fd_small texts x y given),
      text_is_short y,
    )

short_call : (bytes : List ℕ) (p : ℕ) (c : Call) (a : Answer) (texts : List (List ℕ))
    → SpellsBy bytes (record { pid = p; item = items.Call c a }) texts
    → length (canon (record { pid = p; item = items.Call c a })) ≤ 1024
unfolding is_settled
short_call bytes p (calls.RightsLimit x y) a texts h =
    rights_short bytes p (items.Call (calls.RightsLimit x y) a) texts x y refl (omega arith)
    (omega (arith, zero_short a h.whole)) h
short_call bytes p c a texts h = settled_short bytes _ texts refl h

short_item : (bytes : List ℕ) (p : ℕ) (i : Item) (texts : List (List ℕ))
    → SpellsBy bytes (record { pid = p; item = i }) texts → length (canon (record { pid = p; item = i })) ≤ 1024
unfolding is_settled
short_item bytes p (items.Call c a) texts h = short_call bytes p c a texts h
short_item bytes p (items.Start fs) texts h = settled_short bytes _ texts (fds_settled fs) h
short_item bytes p (items.Needs needs_markers.Uses x y) texts h =
    rights_short bytes p (items.Needs needs_markers.Uses x y) texts x y refl (omega arith) (omega arith) h
short_item bytes p (items.Needs needs_markers.Refused x y) texts h =
    rights_short bytes p (items.Needs needs_markers.Refused x y) texts x y refl (omega arith) (omega arith) h
short_item bytes p i texts h = settled_short bytes _ texts refl h

pub canon_spells : (e : Entry) → IsProper e → Spells (canon e) e
canon_spells e h =
    let s = h.1.1 in (
      map arg_text (args_of e.item),
      record {
        short = short_item h.0 e.pid e.item h.1.0 s;
        pid = s.pid;
        head = s.head;
        args = args_written h.1.0 (args_of e.item) s.args;
        whole = s.whole;
        parts = refl;
      },
    )
