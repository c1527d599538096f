-- What the fields of a line of a start text spell.
use Rattle.std.proofs.Common.{◌≡◌, ℕ, ◌≤◌, List, [], ◌∷◌, drop, refl, sym, ◌∙◌, ap, arith, Bool, true, false, cond}
use Rattle.std.specs.Prelude.{◌==◌, if◌then◌else◌, nat_le, Result, Ok, Err, Option, Some, None, MatchOption, option_copied}
use Rattle.std.specs.Prelude.{option_and_then}
use Rattle.std.specs.List.{slice_get, onto_first}
use denote.Ref.{Bor}
use Rattle.cap_trace.specs.Number.{num_at, digits_at, is_odd}
use Rattle.cap_session.specs.Commands.{position as position_spelled, first_word, after_word}
use Rattle.cap_session.specs.StartWords.{words, left}
use Rattle.cap_session.specs.StartTexts.{number_spelled, at_least, need, rest_at, mode_spelled, cells_from, described}
use Rattle.cap_session.specs.StartTexts.{◌>>=◌}
use Rattle.cap_machine.specs.State.{Added}
use Rattle.cap_session.specs.Code.StartLines.{completed}
use Rattle.cap_machine.specs.declared.cell.Cell.{Cell}
use Rattle.cap_machine.specs.declared.cell.Mode.{Mode}
use Rattle.cap_session.specs.declared.refused.Refused.{Refused}
use Rattle.cap_session.specs.declared.refused.Refused.TheVariants as bad
use Rattle.cap_session.specs.declared.start_fields.Head.{Head}

-- ---- words

abbrev words_after : Option (List ℕ) → List (List ℕ)
words_after None = []
words_after (Some rest) = words rest

split : (t : List ℕ) → words t ≡ first_word t ∷ words_after (after_word t)
unfolding first_word after_word
split [] = refl
split (x ∷ t) = go (x == 32) (split t)
  where
    go : (b : Bool) → words t ≡ first_word t ∷ words_after (after_word t)
        → cond b ([] ∷ words t) (onto_first x (words t))
        ≡ (if b then [] else x ∷ first_word t) ∷ words_after (if b then Some t else after_word t)
    go true more = refl
    go false more = ap (onto_first x) more

-- the words of a line are its first, and those after the space
pub next_word : (t word : List ℕ) (rest : Option (Bor (List ℕ))) → word ≡ first_word t
    → MatchOption rest (after_word t ≡ None) (λ r. after_word t ≡ Some r.now) → words t ≡ word ∷ left rest
next_word t word None is none =
    split t ∙ ap (λ a. first_word t ∷ words_after a) none ∙ ap (λ w. w ∷ []) (sym is)
next_word t word (Some r) is some =
    split t ∙ ap (λ a. first_word t ∷ words_after a) some ∙ ap (λ w. w ∷ words r.now) (sym is)

-- the next word is the first of those that are left
pub taken : (word : Option (Bor (List ℕ))) (old new : List (List ℕ))
    → MatchOption word ((old ≡ []) × (new ≡ [])) (λ w. old ≡ w.now ∷ new) →
    (option_copied word ≡ slice_get old 0) × (new ≡ drop 1 old)
taken None old new h = (rw h.0 refl, rw (h.0, h.1) refl)
taken (Some w) old new h = (rw h refl, rw h refl)

second : (ws : List (List ℕ)) → slice_get (drop 1 ws) 0 ≡ slice_get ws 1
second [] = refl
second (w ∷ ws) = refl

third : (ws : List (List ℕ)) → slice_get (drop 1 (drop 1 ws)) 0 ≡ slice_get ws 2
third [] = refl
third (v ∷ []) = refl
third (v ∷ w ∷ ws) = refl

others : (ws : List (List ℕ)) → drop 1 (drop 1 (drop 1 ws)) ≡ drop 3 ws
others [] = refl
others (u ∷ []) = refl
others (u ∷ v ∷ []) = refl
others (u ∷ v ∷ w ∷ ws) = refl

-- ---- fields of words that were taken in turn

abbrev pid_said : ℕ → Option (List ℕ) → Result ℕ Refused
pid_said low word = need bad.Pid (option_and_then (number_spelled low 99999) word)

abbrev mode_said : Option (List ℕ) → Result Mode Refused
mode_said word = need bad.Argument (option_and_then mode_spelled word)

pub pid_is : (low : ℕ) (ws ws0 : List (List ℕ)) (word : Option (List ℕ)) (r : Result ℕ Refused) → ws0 ≡ ws
    → word ≡ slice_get ws0 0 → r ≡ pid_said low word →
    pid_said low (slice_get ws 0) ≡ r
pid_is low ws ws0 word r all at is = sym (is ∙ ap (pid_said low) (at ∙ ap (λ (l : List (List ℕ)). slice_get l 0) all))

pub mode_is : (ws ws0 ws1 : List (List ℕ)) (word : Option (List ℕ)) (r : Result Mode Refused) → ws0 ≡ ws
    → ws1 ≡ drop 1 ws0 → word ≡ slice_get ws1 0 → r ≡ mode_said word →
    mode_said (slice_get ws 1) ≡ r
mode_is ws ws0 ws1 word r all one at is =
    sym (is ∙ ap mode_said (at ∙ ap (λ (l : List (List ℕ)). slice_get l 0) (one ∙ ap (drop 1) all) ∙ second ws))

pub rest_is : (ws ws0 ws1 ws2 : List (List ℕ)) (word : Option (List ℕ)) (r : Result Cell Refused) → ws0 ≡ ws
    → ws1 ≡ drop 1 ws0 → ws2 ≡ drop 1 ws1 → word ≡ slice_get ws2 0 → r ≡ rest_at word →
    rest_at (slice_get ws 2) ≡ r
rest_is ws ws0 ws1 ws2 word r all one two at is = sym (is ∙ ap rest_at
    (at ∙ ap (λ (l : List (List ℕ)). slice_get l 0) (two ∙ ap (drop 1) (one ∙ ap (drop 1) all)) ∙ third ws))

pub others_are : (ws ws0 ws1 ws2 ws3 : List (List ℕ)) → ws0 ≡ ws → ws1 ≡ drop 1 ws0 → ws2 ≡ drop 1 ws1
    → ws3 ≡ drop 1 ws2 → ws3 ≡ drop 3 ws
others_are ws ws0 ws1 ws2 ws3 all one two three = three
    ∙ ap (drop 1) (two ∙ ap (drop 1) (one ∙ ap (drop 1) all)) ∙ others ws

-- ---- numbers

-- a number of these digits, where it is at most this, unless they are odd
abbrev numbered : ℕ → Bool → Option ℕ → Option ℕ
numbered most odd digits = cond odd None (elim digits [ None ↦ None | Some n ↦ cond (nat_le n most) (Some n) None ])

is_numbered : (most : ℕ) (t : List ℕ) → num_at most t ≡ numbered most (is_odd t) (digits_at t)
unfolding num_at
is_numbered most t = refl

some_kept : (b : Bool) (k n : ℕ) → ◌≡◌ {A = Option ℕ} (Some n) (cond b (Some k) None) → k ≡ n
some_kept true k n e = cc
some_kept false k n e = absurd cc

numbered_some : (most n : ℕ) (odd : Bool) (digits : Option ℕ) → Some n ≡ numbered most odd digits
    → (odd ≡ false) × (digits ≡ Some n)
numbered_some most n true digits e = absurd cc
numbered_some most n false None e = absurd cc
numbered_some most n false (Some k) e = (refl, ap (λ (i : ℕ). Some i) (some_kept (nat_le k most) k n e))

none_found : (b : Bool) (k : ℕ) → ◌≡◌ {A = Option ℕ} None (cond b (Some k) None) → b ≡ false
none_found true k e = absurd cc
none_found false k e = refl

-- what is larger than the larger limit is larger than the other
numbered_none : (most high : ℕ) (odd : Bool) (digits : Option ℕ) → high ≤ most → None ≡ numbered most odd digits
    → numbered high odd digits ≡ None
numbered_none most high true digits le e = refl
numbered_none most high false None le e = refl
numbered_none most high false (Some k) le e =
    let over : nat_le k most ≡ false = none_found (nat_le k most) k e in
    let past : nat_le k high ≡ false = grind arith in
    rw past refl

-- the same number with another limit
with_limit : (most high n : ℕ) (t : List ℕ) → Some n ≡ num_at most t
    → num_at high t ≡ cond (nat_le n high) (Some n) None
with_limit most high n t e =
    let both = numbered_some most n (is_odd t) (digits_at t) (e ∙ is_numbered most t) in
    is_numbered high t ∙ rw (both.0, both.1) refl

abbrev pub at_most : ℕ → Option ℕ → Option ℕ
at_most high None = None
at_most high (Some n) = cond (nat_le n high) (Some n) None

-- a number between limits is one of up to 19 digits that is between them
pub number_is : (low high : ℕ) (t : List ℕ) → high ≤ 9999999999999999999
    → number_spelled low high t ≡ at_least low (at_most high (position_spelled t))
unfolding number_spelled
number_is low high t le = ap (at_least low) (go (position_spelled t) refl)
  where
    go : (r : Option ℕ) → r ≡ position_spelled t → num_at high t ≡ at_most high r
    go None e = is_numbered high t
        ∙ numbered_none 9999999999999999999 high (is_odd t) (digits_at t) le (e ∙ is_numbered 9999999999999999999 t)
    go (Some n) e = with_limit 9999999999999999999 high n t e

-- ---- the fields before the listed descriptors

pub bad_pid : (low : ℕ) (ws : List (List ℕ)) (e : Refused)
    → need bad.Pid (option_and_then (number_spelled low 99999) (slice_get ws 0)) ≡ Err e → described low ws ≡ Err e
unfolding described
bad_pid low ws e is = rw is refl

pub bad_mode : (low : ℕ) (ws : List (List ℕ)) (pid : ℕ) (e : Refused)
    → need bad.Pid (option_and_then (number_spelled low 99999) (slice_get ws 0)) ≡ Ok pid →
    need bad.Argument (option_and_then mode_spelled (slice_get ws 1)) ≡ Err e → described low ws ≡ Err e
unfolding described
bad_mode low ws pid e first is = rw (first, is) refl

pub bad_rest : (low : ℕ) (ws : List (List ℕ)) (pid : ℕ) (mode : Mode) (e : Refused)
    → need bad.Pid (option_and_then (number_spelled low 99999) (slice_get ws 0)) ≡ Ok pid →
    need bad.Argument (option_and_then mode_spelled (slice_get ws 1)) ≡ Ok mode → rest_at (slice_get ws 2) ≡ Err e
    → described low ws ≡ Err e
unfolding described
bad_rest low ws pid mode e first second is = rw (first, second, is) refl

abbrev whole : Head → List (ℕ × Cell) → Result Added Refused
whole head cells = Ok (record { pid = head.pid; mode = head.mode; rest = head.rest; cells = cells })

completes : (head : Head) (cells : Result (List (ℕ × Cell)) Refused) →
    (cells >>= whole head) ≡ completed head cells
completes head (Ok cells) = refl
completes head (Err e) = refl

pub good_head : (low : ℕ) (ws : List (List ℕ)) (head : Head)
    → need bad.Pid (option_and_then (number_spelled low 99999) (slice_get ws 0)) ≡ Ok head.pid →
    need bad.Argument (option_and_then mode_spelled (slice_get ws 1)) ≡ Ok head.mode
    → rest_at (slice_get ws 2) ≡ Ok head.rest → described low ws ≡ completed head (cells_from 0 (drop 3 ws))
unfolding described
good_head low ws head first second third = rw (first, second, third) (completes head (cells_from 0 (drop 3 ws)))
