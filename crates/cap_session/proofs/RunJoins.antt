-- Runs that meet are joined.
use Rattle.std.proofs.Common.{◌≡◌, ℕ, ◌+◌, ◌-◌, ◌<◌, ◌≤◌, List, [], ◌∷◌, ◌++◌, length, take, drop, refl, sym, ap, ◌∙◌, subst}
use Rattle.std.proofs.Common.{arith, suc, zero, get_or, set, true, false}
use Rattle.std.specs.Prelude.{remove, replicate, None}
use Rattle.std.proofs.Common.{inl, inr}
use Rattle.std.proofs.lemmas.Bool.Decides.{eqb_tells}
use Rattle.std.proofs.lemmas.List.{take-append-drop, length-take-le}
use Rattle.cap_summary.specs.declared.kept_run.KeptRun.{KeptRun}
use Rattle.cap_session.specs.Code.RunTable.{stood, spread, was_end, at_end, behind, InOrder, IsCut, do_meet, both, joined_first, joined}
use Rattle.cap_session.proofs.RunOrder.{order_lower, ends_behind, was_end-append, at_end-append}
use Rattle.cap_session.proofs.RunSpread.{order_joined_first, spread_joined_first}
use Rattle.cap_session.proofs.RunCuts.{Within, within}

-- ---- what the code makes

pub joined_end : (runs : List KeptRun) → joined (length runs) runs ≡ runs
unfolding joined joined_first
joined_end [] = refl
joined_end (run ∷ []) = refl
joined_end (run ∷ next ∷ runs) = ap (λ l. run ∷ l) (joined_end (next ∷ runs))

pub joined_apart : (i : ℕ) (runs : List KeptRun) (run next : KeptRun) → suc i < length runs → run ≡ get_or runs i run
    → next ≡ get_or runs (suc i) next → do_meet run next ≡ false → joined (suc i) runs ≡ runs
unfolding joined joined_first
joined_apart i [] run next lt is is_next apart = absurd (omega arith)
joined_apart i (first ∷ []) run next lt is is_next apart = absurd (omega arith)
joined_apart zero (first ∷ second ∷ runs) run next lt is is_next apart = rw (← is, ← is_next, apart) refl
joined_apart (suc i) (first ∷ second ∷ runs) run next lt is is_next apart =
    ap (λ l. first ∷ l) (joined_apart i (second ∷ runs) run next (omega arith) is is_next apart)

pub joined_both : (i : ℕ) (runs : List KeptRun) (run next : KeptRun) → suc i < length runs → run ≡ get_or runs i run
    → next ≡ get_or runs (suc i) next → do_meet run next ≡ true
    → remove (set runs i (both run next)) (suc i) ≡ joined (suc i) runs
unfolding joined joined_first
joined_both i [] run next lt is is_next meet = absurd (omega arith)
joined_both i (first ∷ []) run next lt is is_next meet = absurd (omega arith)
joined_both zero (first ∷ second ∷ runs) run next lt is is_next meet = rw (← is, ← is_next, meet) refl
joined_both (suc i) (first ∷ second ∷ runs) run next lt is is_next meet =
    ap (λ l. first ∷ l) (joined_both i (second ∷ runs) run next (omega arith) is is_next meet)

pub joined_apart_at : (index : ℕ) (runs : List KeptRun) (run next : KeptRun) → (index ≡ 0 → ⊥) → index < length runs
    → run ≡ get_or runs (index - 1) run → next ≡ get_or runs index next → do_meet run next ≡ false
    → runs ≡ joined index runs
joined_apart_at zero runs run next some lt is is_next apart = absurd (some refl)
joined_apart_at (suc i) runs run next some lt is is_next apart =
    let before : suc i - 1 ≡ i = omega arith in
    sym (joined_apart i runs run next lt (rw before at is) is_next apart)

pub joined_both_at : (index : ℕ) (runs : List KeptRun) (run next : KeptRun) → (index ≡ 0 → ⊥) → index < length runs
    → run ≡ get_or runs (index - 1) run → next ≡ get_or runs index next → do_meet run next ≡ true
    → remove (set runs (index - 1) (both run next)) index ≡ joined index runs
joined_both_at zero runs run next some lt is is_next met = absurd (some refl)
joined_both_at (suc i) runs run next some lt is is_next met =
    let before : suc i - 1 ≡ i = omega arith in
    rw before (joined_both i runs run next lt (rw before at is) is_next met)

-- ---- what it means

pub order_joined : (i was at apart : ℕ) (runs : List KeptRun) → InOrder was at apart (take (suc i) runs)
    → InOrder (was_end was (take (suc i) runs)) (at_end at (take (suc i) runs)) 0 (drop (suc i) runs)
    → InOrder was at apart (joined (suc i) runs)
unfolding joined InOrder was_end at_end
order_joined i was at apart [] front back = tt
order_joined zero was at apart (run ∷ runs) front back = order_joined_first was at apart run runs front back
order_joined (suc i) was at apart (run ∷ runs) front back = (
  front.0,
  front.1,
  front.2,
  front.3,
  order_joined i (run.was + run.len) (run.at + run.len) (behind run) runs front.4 back,
)

pub spread_joined : (i a end : ℕ) (runs : List KeptRun) → spread a (joined i runs) end ≡ spread a runs end
unfolding joined spread
spread_joined zero a end runs = refl
spread_joined (suc i) a end [] = refl
spread_joined (suc zero) a end (run ∷ runs) = spread_joined_first a end run runs
spread_joined (suc (suc i)) a end (run ∷ runs) =
    ap (λ l. replicate (run.at - a) None ++ (stood run ++ l)) (spread_joined (suc i) (run.at + run.len) end runs)

was_end-joined_first : (was : ℕ) (run : KeptRun) (runs : List KeptRun)
    → was_end was (joined_first run runs) ≡ was_end (run.was + run.len) runs
unfolding was_end joined_first
was_end-joined_first was run [] = refl
was_end-joined_first was run (next ∷ runs) = elim (eqb_tells (run.was + run.len) next.was) [
  | inl met ↦ rw met.0 (elim (eqb_tells (run.at + run.len) next.at) [
    | inl now_too ↦
        let same : run.was + (run.len + next.len) ≡ next.was + next.len = omega (arith, met.1) in
        rw now_too.0 (ap (λ n. was_end n runs) same)
    | inr other ↦ rw other.0 refl
  ])
  | inr other ↦ rw other.0 refl
]

pub was_end-joined : (i was : ℕ) (runs : List KeptRun) → was_end was (joined i runs) ≡ was_end was runs
unfolding joined was_end
was_end-joined zero was runs = refl
was_end-joined (suc i) was [] = refl
was_end-joined (suc zero) was (run ∷ runs) = was_end-joined_first was run runs
was_end-joined (suc (suc i)) was (run ∷ runs) = was_end-joined (suc i) (run.was + run.len) runs

at_end-joined_first : (at : ℕ) (run : KeptRun) (runs : List KeptRun)
    → at_end at (joined_first run runs) ≡ at_end (run.at + run.len) runs
unfolding at_end joined_first
at_end-joined_first at run [] = refl
at_end-joined_first at run (next ∷ runs) = elim (eqb_tells (run.was + run.len) next.was) [
  | inl met ↦ rw met.0 (elim (eqb_tells (run.at + run.len) next.at) [
    | inl now_too ↦
        let same : run.at + (run.len + next.len) ≡ next.at + next.len = omega (arith, now_too.1) in
        rw now_too.0 (ap (λ n. at_end n runs) same)
    | inr other ↦ rw other.0 refl
  ])
  | inr other ↦ rw other.0 refl
]

pub at_end-joined : (i at : ℕ) (runs : List KeptRun) → at_end at (joined i runs) ≡ at_end at runs
unfolding joined at_end
at_end-joined zero at runs = refl
at_end-joined (suc i) at [] = refl
at_end-joined (suc zero) at (run ∷ runs) = at_end-joined_first at run runs
at_end-joined (suc (suc i)) at (run ∷ runs) = at_end-joined (suc i) (run.at + run.len) runs

-- ---- the runs that are looked at

get_or-take : (n k : ℕ) (runs : List KeptRun) (d : KeptRun) → k < n → get_or (take n runs) k d ≡ get_or runs k d
get_or-take zero k runs d lt = absurd (omega arith)
get_or-take (suc n) k [] d lt = refl
get_or-take (suc n) zero (run ∷ runs) d lt = refl
get_or-take (suc n) (suc k) (run ∷ runs) d lt = get_or-take n k runs d (omega arith)

pub before_cut_within : (p index most count k : ℕ) (runs : List KeptRun) (run : KeptRun) → IsCut p runs index
    → k < index → was_end 0 runs ≤ most → at_end 0 runs ≤ count → run ≡ get_or runs k run → Within most count run
before_cut_within p index most count k runs run cut lt w a is =
    let front = take index runs in
    let back = drop index runs in
    let whole = take-append-drop index runs in
    let beyond = ends_behind (was_end 0 front) p 0 back cut.back in
    let at_beyond = ends_behind (was_end 0 front) (at_end 0 front) 0 back
    (order_lower (was_end 0 front) p 0 (was_end 0 front) (at_end 0 front) 0 back (omega arith) cut.before (omega arith)
    cut.back) in
    let was = sym (was_end-append 0 front back) ∙ ap (was_end 0) whole in
    let at = sym (at_end-append 0 front back) ∙ ap (at_end 0) whole in
    let here : get_or front k run ≡ run = get_or-take index k runs run lt ∙ sym is in
    subst (Within most count) here
    (within 0 0 0 most count front cut.front (omega (arith, w, was, beyond.0)) (omega (arith, a, at, at_beyond.1)) k run
    (omega (arith, length-take-le index runs, cut.within, lt)))

pub cut_joins : (index : ℕ) (runs : List KeptRun) → IsCut (at_end 0 (take index runs)) runs index
    → InOrder 0 0 0 (joined index runs)
unfolding joined was_end at_end
cut_joins zero runs cut = cut.back
cut_joins (suc i) runs cut = order_joined i 0 0 0 runs cut.front cut.back
