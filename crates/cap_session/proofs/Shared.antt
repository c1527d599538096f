-- Steps of a trace in a profile: an edit of them is that edit of their lines, and leaves each in its profile.
use Rattle.std.proofs.Common.{◌≡◌, ℕ, suc, ◌∷◌, [], List, map, take, drop, insert, remove, slice_set}
use Rattle.std.proofs.Common.{refl, sym, ap, ◌∙◌}
use Rattle.std.proofs.lemmas.List.{map-append, take-map, drop-map, map-set}
use Rattle.cap_trace.specs.Entry.{Entry}
use Rattle.cap_machine.specs.declared.cell.Profile.{Profile}
use Rattle.cap_machine.specs.declared.step.Step.{Step}
use Rattle.cap_machine.specs.Steps.{step, steps}
use Rattle.cap_session.specs.Session.{lines_of, IsIn}

-- ---- edits of a list that is mapped

map-insert : {X Y : Type 0} (f : X → Y) (xs : List X) (i : ℕ) (x : X)
    → map f (insert xs i x) ≡ insert (map f xs) i (f x)
map-insert f xs i x = map-append f (take i xs) (x ∷ drop i xs) ∙ rw (← (take-map f i xs), ← (drop-map f i xs)) refl

map-remove : {X Y : Type 0} (f : X → Y) (xs : List X) (i : ℕ) → map f (remove xs i) ≡ remove (map f xs) i
map-remove f xs i =
    map-append f (take i xs) (drop (suc i) xs) ∙ rw (← (take-map f i xs), ← (drop-map f (suc i) xs)) refl

-- ---- steps that are those of a trace in a profile

pub lines_are : (p : Profile) (shared : List Step) (t : List Entry) → shared ≡ steps p t → lines_of shared ≡ t
lines_are p [] [] same = refl
lines_are p [] (line ∷ t) same = absurd (cc)
lines_are p (s ∷ shared) [] same = absurd (cc)
lines_are p (s ∷ shared) (line ∷ t) same =
    let first : s ≡ step p line = cc in
    let rest : shared ≡ steps p t = cc in
    let here : s.line ≡ line = ap (λ (r : Step). r.line) first in
    ap (λ l. l ∷ lines_of shared) here ∙ ap (λ ls. line ∷ ls) (lines_are p shared t rest)

pub is_in : (p : Profile) (shared : List Step) (t : List Entry) → shared ≡ steps p t → IsIn p shared
is_in p shared t same = same ∙ ap (steps p) (sym (lines_are p shared t same))

pub steps-insert : (p : Profile) (shared : List Step) (t : List Entry) (i : ℕ) (s : Step) (line : Entry)
    → shared ≡ steps p t → s ≡ step p line → insert shared i s ≡ steps p (insert t i line)
steps-insert p shared t i s line same is = rw (same, is) (sym (map-insert (step p) t i line))

pub steps-remove : (p : Profile) (shared : List Step) (t : List Entry) (i : ℕ) → shared ≡ steps p t
    → remove shared i ≡ steps p (remove t i)
steps-remove p shared t i same = rw same (sym (map-remove (step p) t i))

pub steps-set : (p : Profile) (shared : List Step) (t : List Entry) (i : ℕ) (s : Step) (line : Entry)
    → shared ≡ steps p t → s ≡ step p line → slice_set shared i s ≡ steps p (slice_set t i line)
steps-set p shared t i s line same is = rw (same, is) (sym (map-set (step p) t i line))
