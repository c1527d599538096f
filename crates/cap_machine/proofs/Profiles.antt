-- Where the two profiles do the same.
use Rattle.std.proofs.Common.{◌≡◌, ℕ, ◌+◌, ◌-◌, Bool, true, false, ◌&&◌, ◌||◌, List, [], ◌∷◌, ◌++◌, length, map}
use Rattle.std.proofs.Common.{flat_map, reverse, Option, Some, None, refl, sym, ap, ◌∙◌}
use Rattle.std.specs.List.{list_any, slice_get}
use Rattle.std.specs.Prelude.{option_map}
use Rattle.std.proofs.Math.Path.{fun_ext}
use Rattle.std.proofs.lemmas.List.{reverse-append, map-append, length-map}
use Rattle.std.proofs.lemmas.List.Folds.{list_any-append}
use Rattle.std.proofs.lemmas.Option.{slice_get-map}
use Rattle.std.proofs.lemmas.Bool.{or_parts}
use Rattle.cap_trace.specs.Item.{Item}
use Rattle.cap_trace.specs.Item as items
use Rattle.cap_trace.specs.Call.{Call}
use Rattle.cap_trace.specs.Call as calls
use Rattle.cap_trace.specs.declared.line.Answer.{Answer}
use Rattle.cap_trace.specs.declared.line.Answer.TheVariants as answers
use Rattle.cap_trace.specs.declared.calls.FdCall.{FdCall}
use Rattle.cap_trace.specs.declared.calls.FdCall.TheVariants.{Fexecve, Closefrom}
use Rattle.cap_trace.specs.declared.calls.PathCall.{PathCall}
use Rattle.cap_trace.specs.declared.calls.PathCall.TheVariants.{Execve}
use Rattle.cap_trace.specs.Entry.{Entry}
use Rattle.cap_machine.specs.declared.cell.Profile.TheVariants.{One, Two}
use Rattle.cap_machine.specs.declared.verdict.Found.{Found}
use Rattle.cap_machine.specs.State.{State}
use Rattle.cap_machine.specs.Steps.{step, steps}
use Rattle.cap_machine.specs.Touch.{succeeded, exec_touch, closefrom_touch, fd_touch, path_touch, call_touch}
use Rattle.cap_machine.specs.Touch.{item_touch}
use Rattle.cap_machine.specs.History.{after, touched, step_after}
use Rattle.cap_machine.specs.Check.{findings, said, found_at, check}
use Rattle.cap_machine.specs.Report.{report_line, line_about, last_line}
use Rattle.cap_machine.specs.ProfileLaws.{is_exec, is_closefrom, item_did, did, Never, ProfilesAgree}
use Rattle.cap_machine.proofs.Turns.{same_state}

-- a trace is turned round once
pub map-reverse : {A B : Type 0} (f : A → B) (xs : List A) → map f (reverse xs) ≡ reverse (map f xs)
map-reverse f [] = refl
map-reverse f (x ∷ xs) = ap (map f) (reverse-append (x ∷ []) xs) ∙ map-append f (reverse xs) (x ∷ [])
    ∙ ap (λ r. r ++ f x ∷ []) (map-reverse f xs) ∙ sym (reverse-append (f x ∷ []) (map f xs))

pub or_swap : (a b : Bool) → (a || b) ≡ (b || a)
or_swap true true = refl
or_swap true false = refl
or_swap false true = refl
or_swap false false = refl

pub or_none : (a : Bool) → (a || false) ≡ a
or_none true = refl
or_none false = refl

pub any-reverse : {A : Type 0} (p : A → Bool) (xs : List A) → list_any p (reverse xs) ≡ list_any p xs
any-reverse p [] = refl
any-reverse p (x ∷ xs) =
    ap (list_any p) (reverse-append (x ∷ []) xs) ∙ list_any-append p (reverse xs) (x ∷ [])
    ∙ ap (λ r. r || (p x || false)) (any-reverse p xs) ∙ ap (λ r. list_any p xs || r) (or_none (p x))
    ∙ or_swap (list_any p xs) (p x)

-- ---- each form of call

exec_same : (answer : Answer) (me p f : ℕ) → succeeded answer ≡ false
    → exec_touch One answer me p f ≡ exec_touch Two answer me p f
exec_same (answers.Fault e) me p f failed = refl
exec_same _ me p f failed = cc

closefrom_same : (answer : Answer) (g me p f : ℕ) → succeeded answer ≡ false
    → closefrom_touch One g answer me p f ≡ closefrom_touch Two g answer me p f
closefrom_same (answers.Fault e) g me p f failed = refl
closefrom_same _ g me p f failed = cc

fd_same : (call : FdCall) (g : ℕ) (answer : Answer) (me p f : ℕ) → (is_exec (calls.OnFd call g) && succeeded answer)
    ≡ false → (is_closefrom (calls.OnFd call g) && succeeded answer) ≡ false
    → fd_touch One call g answer me p f ≡ fd_touch Two call g answer me p f
fd_same Fexecve g answer me p f no_exec no_closefrom = exec_same answer me p f no_exec
fd_same Closefrom g answer me p f no_exec no_closefrom = closefrom_same answer g me p f no_closefrom
fd_same _ g answer me p f no_exec no_closefrom = refl

path_same : (call : PathCall) (path : List ℕ) (answer : Answer) (me p f : ℕ)
    → (is_exec (calls.OnPath call path) && succeeded answer) ≡ false
    → path_touch One call answer me p f ≡ path_touch Two call answer me p f
path_same Execve path answer me p f no_exec = exec_same answer me p f no_exec
path_same _ path answer me p f no_exec = refl

call_same : (call : Call) (answer : Answer) (me p f : ℕ) → (is_exec call && succeeded answer) ≡ false
    → (is_closefrom call && succeeded answer) ≡ false
    → call_touch One call answer me p f ≡ call_touch Two call answer me p f
call_same (calls.OnFd call g) answer me p f no_exec no_closefrom = fd_same call g answer me p f no_exec no_closefrom
call_same (calls.OnPath call path) answer me p f no_exec no_closefrom = path_same call path answer me p f no_exec
call_same _ answer me p f no_exec no_closefrom = refl

item_same : (item : Item) (me p f : ℕ) → item_did is_exec item ≡ false → item_did is_closefrom item ≡ false
    → item_touch One item me p f ≡ item_touch Two item me p f
item_same (items.Call call answer) me p f no_exec no_closefrom = call_same call answer me p f no_exec no_closefrom
item_same _ me p f no_exec no_closefrom = refl

-- ---- a history

step_same : (line : Entry) (s : State) → did is_exec line ≡ false → did is_closefrom line ≡ false
    → step_after (step One line) s ≡ step_after (step Two line) s
step_same line s no_exec no_closefrom =
    same_state (step_after (step One line) s) (step_after (step Two line) s)
    (λ p f. ap (λ t. touched t s.cell p f) (item_same line.item line.pid p f no_exec no_closefrom))
    (λ p. refl)

after_same : (s : State) (history : List Entry) → Never is_exec history → Never is_closefrom history
    → after s (steps One history) ≡ after s (steps Two history)
after_same s [] no_exec no_closefrom = refl
after_same s (line ∷ history) no_exec no_closefrom =
    let x = or_parts (did is_exec line) (list_any (did is_exec) history) no_exec in
    let c = or_parts (did is_closefrom line) (list_any (did is_closefrom) history) no_closefrom in
    ap (step_after (step One line)) (after_same s history x.1 c.1)
    ∙ step_same line (after s (steps Two history)) x.0 c.0

steps_long : (history : List Entry) → length (steps One history) ≡ length (steps Two history)
steps_long history = length-map history (step One) ∙ sym (length-map history (step Two))

findings_same : (s : State) (history : List Entry) → Never is_exec history → Never is_closefrom history
    → findings s (steps One history) ≡ findings s (steps Two history)
findings_same s [] no_exec no_closefrom = refl
findings_same s (line ∷ history) no_exec no_closefrom =
    let x = or_parts (did is_exec line) (list_any (did is_exec) history) no_exec in
    let c = or_parts (did is_closefrom line) (list_any (did is_closefrom) history) no_closefrom in
    let here : ℕ → State → List Found = λ n state. map (found_at (n + 1)) (said (step Two line) state) in
    ap (λ r. r ++ here (length (steps One history)) (after s (steps One history))) (findings_same s history x.1 c.1)
    ∙ ap (λ n. findings s (steps Two history) ++ here n (after s (steps One history))) (steps_long history)
    ∙ ap (λ state. findings s (steps Two history) ++ here (length (steps Two history)) state)
    (after_same s history x.1 c.1)

check_same : (s : State) (trace : List Entry) → Never is_exec trace → Never is_closefrom trace
    → check s (steps One trace) ≡ check s (steps Two trace)
check_same s trace no_exec no_closefrom =
    ap (findings s) (sym (map-reverse (step One) trace))
    ∙ findings_same s (reverse trace) (any-reverse (did is_exec) trace ∙ no_exec)
    (any-reverse (did is_closefrom) trace ∙ no_closefrom)
    ∙ ap (findings s) (map-reverse (step Two) trace)

-- ---- the text

line_same : (line : Option Entry) (found : Found)
    → line_about (option_map (step One) line) found ≡ line_about (option_map (step Two) line) found
line_same None found = refl
line_same (Some line) found = refl

report_line_same : (trace : List Entry) (found : Found)
    → report_line (steps One trace) found ≡ report_line (steps Two trace) found
report_line_same trace found =
    ap (λ o. line_about o found) (slice_get-map (step One) trace (found.at - 1))
    ∙ line_same (slice_get trace (found.at - 1)) found
    ∙ sym (ap (λ o. line_about o found) (slice_get-map (step Two) trace (found.at - 1)))

pub profiles_agree : ProfilesAgree
profiles_agree s trace no_exec no_closefrom =
    let same = check_same s trace no_exec no_closefrom in
    ap (λ (found : List Found). flat_map (report_line (steps One trace)) found ++ last_line (length found)) same
    ∙ ap (λ (write : Found → List ℕ). flat_map write (check s (steps Two trace))
    ++ last_line (length (check s (steps Two trace)))) (fun_ext (report_line_same trace))
