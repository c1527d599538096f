-- A line whose fields are good, and whose text isn't too long, is one that some bytes spell, and none else is.
use Rattle.std.proofs.Common.{◌≡◌, ℕ, ◌+◌, ◌≤◌, ◌&&◌, Bool, true, false, eqb, ltb, leb, List, [], ◌∷◌, length, map}
use Rattle.std.proofs.Common.{Option, Some, None, Ok, refl, ap, sym, ◌∙◌, ◌<◌, arith}
use Rattle.std.specs.Prelude.{is_none}
use Rattle.std.specs.List.{join_with_byte}
use Rattle.std.proofs.lemmas.Bool.{eqb-true, lt-ltb, le-leb, and_parts, and_from}
use borrow.Author.Tests.{ltb-true, leb-true}
use Rattle.cap_rights.specs.Text.{names, text}
use Rattle.cap_rights.proofs.Again.{named_is_read}
use Rattle.cap_trace.specs.Item.{Item}
use Rattle.cap_trace.specs.Item as items
use Rattle.cap_trace.specs.Call.{Call}
use Rattle.cap_trace.specs.Call as calls
use Rattle.cap_trace.specs.declared.line.Answer.{Answer}
use Rattle.cap_trace.specs.declared.line.Answer.TheVariants as answers
use Rattle.cap_trace.specs.declared.line.Dir.TheVariants as dirs
use Rattle.cap_trace.specs.declared.calls.ResultKind.{ResultKind}
use Rattle.cap_trace.specs.declared.calls.ResultKind.TheVariants.{Count, Zero, Fd, Same, FdPair, Child, ChildAndFd, Any}
use Rattle.cap_trace.specs.declared.calls.Form.{Form}
use Rattle.cap_trace.specs.Names.{Head, listed, unlisted, is_name, form_named}
use Rattle.cap_trace.specs.Entry.{Entry, Arg, an_fd, a_dir, some_rights, a_word}
use Rattle.cap_trace.specs.Entry.{args_of, args_of_call, head_of, head_of_call, fds, kind_of, IsPid, IsFd}
use Rattle.cap_trace.specs.Entry.{IsAnswer, IsWhole, RisesFrom}
use Rattle.cap_trace.specs.Spelling.{SpellsArg, SpellsArgs, SpellsBy, IsHead, IsProper, arg_text, canon}
use Rattle.cap_trace.specs.Code.Making.{is_fd, is_pid, is_good, are_good, is_head, is_answer, all_rise, is_good_item}
use Rattle.cap_trace.specs.Code.Making.{is_same_set, is_named, has_named_rights}
use Rattle.cap_trace.specs.Reading.{fds_from}
use Rattle.cap_trace.specs.Views.{fds_in, fds_spelled}
use Rattle.cap_trace.proofs.Cuts.{eqb_same, pieces_again}
use Rattle.cap_trace.proofs.Spelled.{ok_is, args_parts, fds_again, fds_closed}
use Rattle.cap_trace.proofs.Rising.{failure, rising_listed}
use Rattle.cap_trace.proofs.Canonical.{canon_spells}

fd_from : (f : ℕ) → is_fd f ≡ true → IsFd f
fd_from f h = leb-true f 1048575 h

fd_to : (f : ℕ) → IsFd f → is_fd f ≡ true
fd_to f h = le-leb f 1048575 h

-- ---- arguments

-- what the rights of an argument are named by
abbrev named_arg : Arg → Bool
named_arg (some_rights r) = is_named r
named_arg a = true

same_set : (r : ℕ) (o : Option ℕ) → is_same_set r o ≡ true → o ≡ Some r
same_set r None h = absurd cc
same_set r (Some s) h = ap Some (eqb-true s r h)

arg_from : (a : Arg) → is_good a ≡ true → named_arg a ≡ true → SpellsArg (arg_text a) a
arg_from (an_fd f) h n = (refl, fd_from f h)
arg_from (a_dir (dirs.Fd f)) h n = (refl, fd_from f h)
arg_from (a_dir dirs.Cwd) h n = refl
arg_from (some_rights r) h n = same_set r (names (text r)) n
arg_from (a_word w) h n = refl
arg_from a h n = (refl, h)

arg_to : (t : List ℕ) (a : Arg) → SpellsArg t a → is_good a ≡ true
arg_to t (an_fd f) h = fd_to f h.1
arg_to t (a_dir (dirs.Fd f)) h = fd_to f h.1
arg_to t (a_dir dirs.Cwd) h = refl
arg_to t (some_rights r) h = refl
arg_to t (a_word w) h = refl
arg_to t a h = h.1

named_to : (t : List ℕ) (r : ℕ) → names t ≡ Some r → is_named r ≡ true
named_to t r h = rw (named_is_read t r h) (eqb_same r)

abbrev named_args : List Arg → Bool
named_args [] = true
named_args (a ∷ others) = named_arg a && named_args others

args_from : (given : List Arg) → are_good given ≡ true → named_args given ≡ true → SpellsArgs (map arg_text given) given
args_from [] h n = tt
args_from (a ∷ []) h n = (arg_from a h (and_parts (named_arg a) true n).0, tt)
args_from (a ∷ b ∷ more) h n =
    let k = and_parts (is_good a) (are_good (b ∷ more)) h in
    let m = and_parts (named_arg a) (named_args (b ∷ more)) n in
    (arg_from a k.0 m.0, args_from (b ∷ more) k.1 m.1)

args_to : (ts : List (List ℕ)) (given : List Arg) → SpellsArgs ts given → are_good given ≡ true
args_to [] [] h = refl
args_to [] (a ∷ others) h = absurd h
args_to (t ∷ ts) [] h = absurd h
args_to (t ∷ []) (a ∷ []) h = arg_to t a h.0
args_to (t ∷ u ∷ ts) (a ∷ []) h = absurd h.1
args_to (t ∷ []) (a ∷ b ∷ more) h = absurd h.1
args_to (t ∷ u ∷ ts) (a ∷ b ∷ more) h =
    and_from (is_good a) (are_good (b ∷ more)) (arg_to t a h.0) (args_to (u ∷ ts) (b ∷ more) h.1)

-- ---- the name, the answer, the pid

none_is : (o : Option Form) → is_none o ≡ true → o ≡ None
none_is None h = refl
none_is (Some f) h = absurd cc

head_from : (h : Head) → is_head h ≡ true → IsHead h
head_from (listed f) h = tt
head_from (unlisted n) h = let k = and_parts (is_name n) (is_none (form_named n)) h in (k.0, none_is (form_named n) k.1)

head_to : (h : Head) → IsHead h → is_head h ≡ true
head_to (listed f) h = refl
head_to (unlisted n) h = and_from (is_name n) (is_none (form_named n)) h.0 (ap is_none h.1)

answer_from : (k : ResultKind) (a : Answer) → is_answer k a ≡ true → IsAnswer k a
answer_from Count (answers.Made n) h = ltb-true _ _ h
answer_from Zero (answers.Made n) h = eqb-true n 0 h
answer_from Fd (answers.Made n) h = fd_from n h
answer_from (Same g) (answers.Made n) h = (let k = and_parts (eqb n g) (is_fd n) h in (eqb-true n g k.0, fd_from n k.1))
answer_from FdPair (answers.Pair n m) h = (let k = and_parts (is_fd n) (is_fd m) h in (fd_from n k.0, fd_from m k.1))
answer_from Child (answers.Made n) h = leb-true n 99999 h
answer_from ChildAndFd (answers.Pair n m) h =
    (let k = and_parts (leb n 99999) (is_fd m) h in (leb-true n 99999 k.0, fd_from m k.1))
answer_from Any (answers.Made n) h = ltb-true _ _ h
answer_from Any (answers.Pair n m) h =
    (let k = and_parts (ltb n 18446744073709551616) (ltb m 18446744073709551616) h in (ltb-true _ _ k.0, ltb-true _ _ k.1))
answer_from k (answers.Fault e) h =
    (let k = and_parts (ltb 0 e) (leb e 65535) h in (ltb-true _ _ k.0, leb-true e 65535 k.1))
answer_from k a h = absurd cc

answer_to : (k : ResultKind) (a : Answer) → IsAnswer k a → is_answer k a ≡ true
answer_to Count (answers.Made n) h = lt-ltb _ _ h
answer_to Zero (answers.Made n) h = rw h refl
answer_to Fd (answers.Made n) h = fd_to n h
answer_to (Same g) (answers.Made n) h = and_from (eqb n g) (is_fd n) (rw h.0 (eqb_same g)) (fd_to n h.1)
answer_to FdPair (answers.Pair n m) h = and_from (is_fd n) (is_fd m) (fd_to n h.0) (fd_to m h.1)
answer_to Child (answers.Made n) h = le-leb n 99999 h
answer_to ChildAndFd (answers.Pair n m) h = and_from (leb n 99999) (is_fd m) (le-leb n 99999 h.0) (fd_to m h.1)
answer_to Any (answers.Made n) h = lt-ltb _ _ h
answer_to Any (answers.Pair n m) h =
    and_from (ltb n 18446744073709551616) (ltb m 18446744073709551616) (lt-ltb _ _ h.0) (lt-ltb _ _ h.1)
answer_to k (answers.Fault e) h = and_from (ltb 0 e) (leb e 65535) (lt-ltb _ _ h.0) (le-leb e 65535 h.1)
answer_to k a h = absurd h

pid_from : (p : ℕ) → is_pid p ≡ true → IsPid p
pid_from p h = let k = and_parts (ltb 0 p) (leb p 99999) h in (ltb-true _ _ k.0, leb-true p 99999 k.1)

pid_to : (p : ℕ) → IsPid p → is_pid p ≡ true
pid_to p h = and_from (ltb 0 p) (leb p 99999) (lt-ltb _ _ h.0) (le-leb p 99999 h.1)

-- ---- descriptors that rise

rise_parts : (low f : ℕ) (fs : List ℕ) → all_rise low (f ∷ fs) ≡ true
    → (low ≤ f) × (IsFd f × (all_rise (f + 1) fs ≡ true))
unfolding all_rise
rise_parts low f fs h =
    let k = and_parts (leb low f && is_fd f) (all_rise (f + 1) fs) h in
    let l = and_parts (leb low f) (is_fd f) k.0 in
    (leb-true low f l.0, (fd_from f l.1, k.1))

rise_from : (low : ℕ) (fs : List ℕ) → all_rise low fs ≡ true
    → SpellsArgs (map arg_text (fds fs)) (fds fs) × RisesFrom low fs
rise_from low [] h = (tt, tt)
rise_from low (f ∷ fs) h =
    let k = rise_parts low f fs h in
    let more = rise_from (f + 1) fs k.1.1 in
    (((refl, k.1.0), more.0), (k.0, more.1))

rise_to : (low : ℕ) (ts : List (List ℕ)) (fs : List ℕ) → SpellsArgs ts (fds fs) → RisesFrom low fs
    → all_rise low fs ≡ true
unfolding all_rise
rise_to low ts [] h r = refl
rise_to low [] (f ∷ fs) h r = absurd h
rise_to low (t ∷ ts) (f ∷ fs) h r =
    and_from (leb low f && is_fd f) (all_rise (f + 1) fs)
    (and_from (leb low f) (is_fd f) (le-leb low f r.0) (fd_to f h.0.1)) (rise_to (f + 1) ts fs h.1 r.1)

-- what is written of descriptors that rise spells them
pub fds_written : (fs : List ℕ) → all_rise 0 fs ≡ true → fds_spelled (join_with_byte 44 (map arg_text (fds fs))) ≡ fs
fds_written fs h =
    let k = rise_from 0 fs h in
    let again : fds_from 0 (map arg_text (fds fs)) ≡ Ok fs = fds_again 0 (map arg_text (fds fs)) fs k.0 k.1 in
    ap fds_in (pieces_again (map arg_text (fds fs)) (args_parts (map arg_text (fds fs)) (fds fs) (fds_closed fs) k.0))
    ∙ ok_is (fds_in (map arg_text (fds fs))) fs
    (sym (rising_listed 0 (map arg_text (fds fs)) (ap failure again)) ∙ again)

-- ---- an item

abbrev IsWritten : Item → Type 0
IsWritten i = SpellsArgs (map arg_text (args_of i)) (args_of i) × (IsHead (head_of i) × IsWhole i)

named_call : (c : Call) (a : Answer) → has_named_rights (items.Call c a) ≡ true → named_args (args_of_call c) ≡ true
named_call (calls.RightsLimit x y) a h = rw h refl
named_call c a h = refl

item_from : (i : Item) → is_good_item i ≡ true → has_named_rights i ≡ true → IsWritten i
item_from (items.Call c a) h n =
    let k = and_parts (are_good (args_of_call c) && is_head (head_of_call c)) (is_answer (kind_of c) a) h in
    let l = and_parts (are_good (args_of_call c)) (is_head (head_of_call c)) k.0 in
    (args_from (args_of_call c) l.0 (named_call c a n), (head_from (head_of_call c) l.1, answer_from (kind_of c) a k.1))
item_from (items.Start fs) h n = let k = rise_from 0 fs h in (k.0, (tt, k.1))
item_from items.Exit h n = (tt, (tt, tt))
item_from (items.Foreign f) h n = (((refl, fd_from f h), tt), (tt, tt))
item_from (items.Needs m f r) h n = (args_from (an_fd f ∷ some_rights r ∷ []) (rw h refl) (rw n refl), (tt, tt))
item_from items.Global h n = (tt, (tt, tt))

pub proper_from : (e : Entry) → is_pid e.pid ≡ true → is_good_item e.item ≡ true → has_named_rights e.item ≡ true
    → length (canon e) ≤ 1024 → IsProper e
proper_from e p h n le =
    let k = item_from e.item h n in (
      canon e,
      (
        map arg_text (args_of e.item),
        record { short = le; pid = pid_from e.pid p; head = k.1.0; args = k.0; whole = k.1.1; parts = refl },
      ),
    )

item_to : (p : ℕ) (i : Item) (bytes : List ℕ) (texts : List (List ℕ))
    → SpellsBy bytes (record { pid = p; item = i }) texts → is_good_item i ≡ true
item_to p (items.Call c a) bytes texts h =
    and_from (are_good (args_of_call c) && is_head (head_of_call c)) (is_answer (kind_of c) a)
    (and_from (are_good (args_of_call c)) (is_head (head_of_call c)) (args_to texts (args_of_call c) h.args)
    (head_to (head_of_call c) h.head)) (answer_to (kind_of c) a h.whole)
item_to p (items.Start fs) bytes texts h = rise_to 0 texts fs h.args h.whole
item_to p items.Exit bytes texts h = refl
item_to p (items.Foreign f) bytes [] h = absurd h.args
item_to p (items.Foreign f) bytes (t ∷ ts) h = fd_to f h.args.0.1
item_to p (items.Needs m f r) bytes [] h = absurd h.args
item_to p (items.Needs m f r) bytes (t ∷ ts) h = fd_to f h.args.0.1
item_to p items.Global bytes texts h = refl

limit_named : (ts : List (List ℕ)) (x y : ℕ) → SpellsArgs ts (an_fd x ∷ some_rights y ∷ []) → is_named y ≡ true
limit_named [] x y h = absurd h
limit_named (t ∷ []) x y h = absurd h.1
limit_named (t ∷ u ∷ ts) x y h = named_to u y h.1.0

named_item : (p : ℕ) (i : Item) (bytes : List ℕ) (texts : List (List ℕ))
    → SpellsBy bytes (record { pid = p; item = i }) texts → has_named_rights i ≡ true
named_item p (items.Call (calls.RightsLimit x y) a) bytes texts h = limit_named texts x y h.args
named_item p (items.Needs m x y) bytes texts h = limit_named texts x y h.args
named_item p i bytes texts h = refl

abbrev has_good_fields : Entry → Bool
has_good_fields e = is_pid e.pid && is_good_item e.item && has_named_rights e.item

proper_fields : (e : Entry) → IsProper e → has_good_fields e ≡ true
proper_fields e h =
    and_from (is_pid e.pid && is_good_item e.item) (has_named_rights e.item)
    (and_from (is_pid e.pid) (is_good_item e.item) (pid_to e.pid h.1.1.pid) (item_to e.pid e.item h.0 h.1.0 h.1.1))
    (named_item e.pid e.item h.0 h.1.0 h.1.1)

pub bad_fields : {b : Bool} (e : Entry) → b ≡ has_good_fields e → b ≡ false → IsProper e → ⊥
bad_fields e at lacks h = absurd (let yes = proper_fields e h in cc)

pub too_long : (e : Entry) → 1024 < length (canon e) → IsProper e → ⊥
too_long e long h = omega (arith, (canon_spells e h).1.short, long)

pub short_proper : {b : Bool} (e : Entry) → b ≡ has_good_fields e → b ≡ true → length (canon e) ≤ 1024 → IsProper e
short_proper e fields good short =
    let l = and_parts (is_pid e.pid && is_good_item e.item) (has_named_rights e.item) (sym fields ∙ good) in
    let m = and_parts (is_pid e.pid) (is_good_item e.item) l.0 in
    proper_from e m.0 m.1 l.1 short
