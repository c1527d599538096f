-- Names: what is looked up has that name, and each name is found.
use Rattle.std.proofs.Common.{◌≡◌, ℕ, ◌&&◌, Bool, true, false, cond, not, eqb, List, [], ◌∷◌, Option, Some, None, refl}
use Rattle.std.proofs.Common.{sym, ap, subst, ◌∙◌, arith, tests}
use Rattle.std.specs.Prelude.{find}
use Rattle.std.specs.List.{list_all}
use Rattle.std.specs.Str.{bytes_eq}
use Rattle.std.proofs.lemmas.Slice.Eq.{bytes_eq-Decides}
use Rattle.std.proofs.lemmas.Bool.{and_parts}
use Rattle.std.proofs.lemmas.Option.{cond_some}
use Rattle.cap_trace.specs.declared.calls.Form.{Form}
use Rattle.cap_trace.specs.declared.calls.Form.TheVariants as forms
use Rattle.cap_trace.specs.declared.calls.FdCall.TheVariants as on_fd_calls
use Rattle.cap_trace.specs.declared.calls.SendCall.TheVariants as sends_calls
use Rattle.cap_trace.specs.declared.calls.PathCall.TheVariants as on_path_calls
use Rattle.cap_trace.specs.declared.calls.PathsCall.TheVariants as on_paths_calls
use Rattle.cap_trace.specs.declared.calls.AtCall.TheVariants as at_dir_calls
use Rattle.cap_trace.specs.declared.calls.AtFlagsCall.TheVariants as at_dir_with_flags_calls
use Rattle.cap_trace.specs.declared.calls.FlagsCall.TheVariants as on_flags_calls
use Rattle.cap_trace.specs.declared.calls.BareCall.TheVariants as bare_calls
use Rattle.cap_trace.specs.declared.calls.NeedsMarker.TheVariants as needs_markers
use Rattle.cap_trace.specs.Names.{Head, listed, unlisted, row_of, name_of, is_name, is_name_byte, all_forms, form_named}
use Rattle.cap_trace.specs.Names.{or_unlisted, head_named}
use Rattle.cap_trace.specs.Spelling.{IsHead}
use Rattle.cap_trace.proofs.Cuts.{lacks}
use Rattle.cap_trace.proofs.Quiet.{weaken}

pub some_is : {A : Type 0} (x y : A) → ◌≡◌ {A = Option A} (Some x) (Some y) → x ≡ y
some_is x y e = cc

find_step : {A : Type 0} (p q : A → Bool) (b : Bool) (y : A) (o : Option A) (x : A) → p y ≡ b → q y ≡ true
    → cond b (Some y) o ≡ Some x → (o ≡ Some x → (p x ≡ true) × (q x ≡ true)) → (p x ≡ true) × (q x ≡ true)
find_step p q true y o x at ok e rest = let same = some_is y x e in (ap p (sym same) ∙ at, ap q (sym same) ∙ ok)
find_step p q false y o x at ok e rest = rest e

-- what is found passes the test, and what all pass
pub find_takes : {A : Type 0} (p q : A → Bool) (xs : List A) (x : A) → list_all q xs ≡ true → find p xs ≡ Some x
    → (p x ≡ true) × (q x ≡ true)
find_takes p q [] x h e = absurd cc
find_takes p q (y ∷ ys) x h e = let k = and_parts (q y) (list_all q ys) h in
    find_step p q (p y) y (find p ys) x refl k.0 e (λ h. find_takes p q ys x k.1 h)

-- no name of the table has a bracket
plain_names : list_all (λ f. lacks 40 (row_of f).name) all_forms ≡ true
unfolding all_forms
plain_names = refl

pub form_takes : (name : List ℕ) (f : Form) → form_named name ≡ Some f
    → ((row_of f).name ≡ name) × (lacks 40 (row_of f).name ≡ true)
form_takes name f e =
    let k = find_takes (λ g. bytes_eq (row_of g).name name) (λ g. lacks 40 (row_of g).name) all_forms f plain_names e in
    ((bytes_eq-Decides (row_of f).name name).0 k.0, k.1)

-- each name of the table is found
pub form_again : (f : Form) → form_named (row_of f).name ≡ Some f
unfolding all_forms
form_again (forms.OnFd on_fd_calls.Read) = refl
form_again (forms.OnFd c) = refl
form_again (forms.Send sends_calls.Sendto) = refl
form_again (forms.Send c) = refl
form_again (forms.OnPath on_path_calls.Execve) = refl
form_again (forms.OnPath c) = refl
form_again (forms.OnPaths on_paths_calls.Link) = refl
form_again (forms.OnPaths c) = refl
form_again (forms.At at_dir_calls.Mkdirat) = refl
form_again (forms.At c) = refl
form_again (forms.AtFlags at_dir_with_flags_calls.Openat) = refl
form_again (forms.AtFlags c) = refl
form_again (forms.OnFlags on_flags_calls.Socket) = refl
form_again (forms.OnFlags c) = refl
form_again (forms.Bare bare_calls.Pipe) = refl
form_again (forms.Bare c) = refl
form_again (forms.Needs needs_markers.Uses) = refl
form_again (forms.Needs c) = refl
form_again forms.Accept4 = refl
form_again f = refl

head_ok : (name : List ℕ) (h : Head) (o : Option Form) (b : Bool) → form_named name ≡ o → is_name name ≡ b
    → or_unlisted name o ≡ Some h → (name_of h ≡ name) × IsHead h
head_ok name h (Some f) b e n k =
    subst (λ (x : Head). (name_of x ≡ name) × IsHead x) (some_is (listed f) h k) ((form_takes name f e).0, tt)
head_ok name h None true e n k =
    let same = cond_some (is_name name) (unlisted name) h k in
    subst (λ (x : Head). (name_of x ≡ name) × IsHead x) same.1 (refl, (n, e))
head_ok name h None false e n k =
    absurd (let same = cond_some (is_name name) (unlisted name) h k in let no = same.0 in cc)

pub head_takes : (name : List ℕ) (h : Head) → head_named name ≡ Some h → (name_of h ≡ name) × IsHead h
head_takes name h e = head_ok name h (form_named name) (is_name name) refl refl e

pub head_again : (h : Head) → IsHead h → head_named (name_of h) ≡ Some h
head_again (listed f) h = rw (form_again f) refl
head_again (unlisted n) h = rw (h.1, h.0) refl

name_byte_plain : (c : ℕ) → is_name_byte c ≡ true → not (eqb c 40) ≡ true
name_byte_plain c h = grind (arith, tests)

name_lacks : (n : List ℕ) → is_name n ≡ true → lacks 40 n ≡ true
name_lacks [] h = refl
name_lacks (c ∷ cs) h =
    let k = and_parts (is_name_byte c && not _) (list_all is_name_byte cs) h in
    let l = and_parts (is_name_byte c) _ k.0 in
    let first = name_byte_plain c l.0 in
    rw first (weaken is_name_byte (λ x. not (eqb x 40)) name_byte_plain cs k.1)

pub head_lacks : (h : Head) → IsHead h → lacks 40 (name_of h) ≡ true
head_lacks (listed f) h = (form_takes (row_of f).name f (form_again f)).1
head_lacks (unlisted n) h = name_lacks n h.0
