-- An explanation is one of its line: it has a chain for each check, its links stand in the trace, and its findings are
-- those of the check at that position.
use Rattle.std.proofs.Common.{◌≡◌, ℕ, ◌+◌, ◌-◌, ◌<◌, ◌≤◌, ◌==◌, ◌&&◌, nat_le, Bool, true, false, if◌then◌else◌}
use Rattle.std.proofs.Common.{List, [], ◌∷◌, ◌++◌, length, map, reverse, Some, None, refl, sym, ap, ◌∙◌, subst, arith}
use Rattle.std.proofs.Common.{length-append, append_assoc, get_or}
use Rattle.std.specs.Prelude.{Option, Ok, Err, IsTrue, ◌↔◌}
use Rattle.std.specs.List.{All, filter, slice_get}
use Rattle.std.specs.Option.{option_map}
use Rattle.std.proofs.lemmas.Bool.{eqb-true}
use Rattle.std.proofs.lemmas.Bool.Decides.{nat_tests}
use Rattle.std.proofs.lemmas.Grind.{reverse_onto}
use Rattle.std.proofs.lemmas.List.{append-nil, get_or-map, length-map, length-reverse, reverse-append, reverse-reverse}
use Rattle.std.proofs.lemmas.List.Elements.{All-cons, All-map, All-nil, filter-append}
use Rattle.std.proofs.lemmas.Option.{slice_get-map}
use Rattle.cap_trace.specs.Entry.{Entry}
use Rattle.cap_machine.specs.declared.cell.Profile.{Profile}
use Rattle.cap_machine.specs.declared.explaining.Explanation.{Explanation}
use Rattle.cap_machine.specs.declared.provenance.CellLink.{CellLink}
use Rattle.cap_machine.specs.declared.provenance.CellProvenance.{CellProvenance}
use Rattle.cap_machine.specs.declared.provenance.ModeLink.{ModeLink}
use Rattle.cap_machine.specs.declared.rule.Check.{Check}
use Rattle.cap_machine.specs.declared.rule.Requirement.{Requirement}
use Rattle.cap_machine.specs.declared.step.Step.{Step}
use Rattle.cap_machine.specs.declared.verdict.Finding.{Finding}
use Rattle.cap_machine.specs.declared.verdict.Found.{Found}
use Rattle.cap_machine.specs.Check.{findings, found_at, said}
use Rattle.cap_machine.specs.Explain.{Explained, explained, explained_at, explained_by, explanation, mode_matters}
use Rattle.cap_machine.specs.History.{after, cell_after}
use Rattle.cap_machine.specs.Judge.{listed}
use Rattle.cap_machine.specs.Provenance.{CellChain, ModeChain, by_touch, by_turn, cell_chain, cell_chain_of, cell_link}
use Rattle.cap_machine.specs.Provenance.{mode_chain, mode_link, named_touch, named_turn}
use Rattle.cap_machine.specs.Rule.{requirement}
use Rattle.cap_machine.specs.State.{State}
use Rattle.cap_machine.specs.Steps.{step, steps}
use Rattle.cap_machine.specs.Touch.{Touch, kept, given, taken, touch, Turn, stays, turns, follows, turn}
use Rattle.cap_session.specs.Code.Explained.{AnyModeStands, CellStands, FitsLine, IsAt, ModeStands}
use Rattle.cap_session.specs.Edits.{is_position}
use Rattle.cap_session.specs.Explaining.{chain_lines, explained_line, explained_links, IsClean, links_or_refusal}
use Rattle.cap_session.specs.Explaining.{text_or_refusal, checks_at, checks_of}
use Rattle.cap_session.specs.Laws.{ExplainsWhatIsReported}
use Rattle.cap_session.specs.Shown.{lies_in}
use Rattle.cap_session.specs.Trace.{counted_lines}
use Rattle.cap_session.specs.declared.refused.Refused.TheVariants.{Position}

-- ---- links stand at positions of the history

cells_wider : (n m : ℕ) (chain : CellChain) → n ≤ m → CellStands n chain → CellStands m chain
cells_wider n m chain le are k d lt = let is = are k d lt in (is.0, omega (arith, is.1, le))

modes_wider : (n m : ℕ) (chain : ModeChain) → n ≤ m → ModeStands n chain → ModeStands m chain
modes_wider n m chain le are k d lt = let is = are k d lt in (is.0, omega (arith, is.1, le))

cell_stands_by : (t : Touch) (before : ℕ → ℕ → CellChain) (n m p f : ℕ) → m ≡ n + 1
    → ((q g : ℕ) → CellStands n (before q g)) → CellStands m (by_touch t before (n + 1) p f)
cell_stands_by kept before n m p f next are = cells_wider n m (before p f) (omega (arith, next)) (are p f)
cell_stands_by (given c) before n m p f next are =
    let P : CellLink → Type 0 = λ (link : CellLink). IsAt m link.at in
    All-cons P (cell_link (n + 1) p f) [] (omega arith, omega (arith, next)) (All-nil P)
cell_stands_by (taken op q g) before n m p f next are =
    let P : CellLink → Type 0 = λ (link : CellLink). IsAt m link.at in
    All-cons P (cell_link (n + 1) p f) (before q g).links (omega arith, omega (arith, next))
    (cells_wider n m (before q g) (omega (arith, next)) (are q g))

cell_stands : (s : State) (history : List Step) (p f : ℕ) → CellStands (length history) (cell_chain s history p f)
cell_stands s [] p f = All-nil (λ (link : CellLink). IsAt 0 link.at)
cell_stands s (step ∷ history) p f =
    cell_stands_by (named_touch (touch step p f) (cell_after s history) p f) (cell_chain s history) (length history)
    (length (step ∷ history)) p f (omega arith) (cell_stands s history)

mode_stands_by : (t : Turn) (before : ℕ → ModeChain) (n m p : ℕ) → m ≡ n + 1
    → ((q : ℕ) → ModeStands n (before q)) → ModeStands m (by_turn t before (n + 1) p)
mode_stands_by stays before n m p next are = modes_wider n m (before p) (omega (arith, next)) (are p)
mode_stands_by (turns c) before n m p next are =
    let P : ModeLink → Type 0 = λ (link : ModeLink). IsAt m link.at in
    All-cons P (mode_link (n + 1) p) [] (omega arith, omega (arith, next)) (All-nil P)
mode_stands_by (follows q) before n m p next are =
    let P : ModeLink → Type 0 = λ (link : ModeLink). IsAt m link.at in
    All-cons P (mode_link (n + 1) p) (before q).links (omega arith, omega (arith, next))
    (modes_wider n m (before q) (omega (arith, next)) (are q))

mode_stands : (s : State) (history : List Step) (p : ℕ) → ModeStands (length history) (mode_chain s history p)
mode_stands s [] p = All-nil (λ (link : ModeLink). IsAt 0 link.at)
mode_stands s (step ∷ history) p =
    mode_stands_by (named_turn (turn step p) p) (mode_chain s history) (length history)
    (length (step ∷ history)) p (omega arith) (mode_stands s history)

-- ---- the step that is explained, with those before it

record Explains (s : State) (history : List Step) (k : ℕ) (e : Explained) : Type 0 where
  pub newer : List Step
  pub step : Step
  pub older : List Step
  pub cut : history ≡ newer ++ step ∷ older
  pub here : k ≡ length older + 1
  pub is : e ≡ explained s older step

explains_by : (s : State) (step : Step) (history : List Step) (k : ℕ) (e : Explained) (b : Bool)
    → (k == length history + 1) ≡ b
    → (explained_at s history k ≡ Some e → Explains s history k e)
    → (if b then Some (explained s history step) else explained_at s history k) ≡ Some e
    → Explains s (step ∷ history) k e
explains_by s step history k e true at before is = record {
  newer = [];
  step = step;
  older = history;
  cut = refl;
  here = eqb-true k (length history + 1) at;
  is = cc;
}
explains_by s step history k e false at before is =
    let found = before is in
    record {
      newer = step ∷ found.newer;
      step = found.step;
      older = found.older;
      cut = ap (λ (h : List Step). step ∷ h) found.cut;
      here = found.here;
      is = found.is;
    }

explains : (s : State) (history : List Step) (k : ℕ) (e : Explained) → explained_at s history k ≡ Some e
    → Explains s history k e
explains s [] k e is = absurd (cc)
explains s (step ∷ history) k e is =
    explains_by s step history k e (k == length history + 1) refl (explains s history k e) is

-- ---- its place in the trace

get_seam : {X : Type 0} (front : List X) (x : X) (rest : List X) → slice_get (front ++ x ∷ rest) (length front) ≡ Some x
get_seam [] x rest = refl
get_seam (y ∷ front) x rest = get_seam front x rest

line_of : (line : Option Entry) (profile : Profile) (s : Step) → option_map (step profile) line ≡ Some s
    → line ≡ Some s.line
line_of None profile s is = absurd (cc)
line_of (Some line) profile s is =
    let same : step profile line ≡ s = cc in
    ap (λ (r : Step). Some r.line) same

module _ (s : State) (profile : Profile) (trace : List Entry) (k : ℕ) (e : Explained)
    (found : Explains s (reverse (steps profile trace)) k e) where
  long : length trace ≡ length found.newer + (1 + length found.older)
  long =
      sym (length-map trace (step profile)) ∙ sym (length-reverse (steps profile trace)) ∙ ap length found.cut
      ∙ length-append found.newer (found.step ∷ found.older) ∙ omega arith

  -- the trace is the older steps, this one and the newer ones
  forth : steps profile trace ≡ reverse found.older ++ found.step ∷ reverse found.newer
  forth =
      sym (reverse-reverse (steps profile trace)) ∙ ap reverse found.cut
      ∙ reverse-append found.newer (found.step ∷ found.older)
      ∙ ap (λ (t : List Step). t ++ reverse found.newer) (reverse_onto found.older found.step [])
      ∙ append_assoc (reverse found.older) (found.step ∷ []) (reverse found.newer)

  stands : slice_get (steps profile trace) (k - 1) ≡ Some found.step
  stands =
      let place : k - 1 ≡ length (reverse found.older) = omega (arith, found.here, length-reverse found.older) in
      ap (λ (t : List Step). slice_get t (k - 1)) forth
      ∙ ap (slice_get (reverse found.older ++ found.step ∷ reverse found.newer)) place
      ∙ get_seam (reverse found.older) found.step (reverse found.newer)

  line_stands : slice_get trace (k - 1) ≡ Some found.step.line
  line_stands = line_of (slice_get trace (k - 1)) profile found.step
      (sym (slice_get-map (step profile) trace (k - 1)) ∙ stands)

  place : IsAt (length trace) k
  place = (omega (arith, found.here), omega (arith, found.here, long))

  checks : checks_at trace k ≡ listed (requirement found.step.line).checks
  checks = ap checks_of line_stands

  one_each : length e.cells ≡ length (checks_at trace k)
  one_each =
      let d : Requirement = requirement found.step.line in
      ap (λ (x : Explained). length x.cells) found.is
      ∙ length-map (listed d.checks) (λ (check : Check). cell_chain s found.older found.step.line.pid check.fd)
      ∙ sym (ap length checks)

  cells : All (CellStands (length trace)) e.cells
  cells =
      let d : Requirement = requirement found.step.line in
      let chain : Check → CellChain = λ (check : Check). cell_chain s found.older found.step.line.pid check.fd in
      let few : length found.older ≤ length trace = omega (arith, long) in
      let all : All (CellStands (length trace)) (map chain (listed d.checks)) =
      All-map (CellStands (length trace)) chain (listed d.checks)
      (λ i c lt. let fd : ℕ = (get_or (listed d.checks) i c).fd in
      cells_wider (length found.older) (length trace) (cell_chain s found.older found.step.line.pid fd) few
      (cell_stands s found.older found.step.line.pid fd)) in
      subst (λ (x : Explained). All (CellStands (length trace)) x.cells) (sym found.is) all

any_mode_stands : (n m : ℕ) (b : Bool) (chain : ModeChain) → n ≤ m → ModeStands n chain
    → AnyModeStands m (if b then Some chain else None)
any_mode_stands n m true chain le are = modes_wider n m chain le are
any_mode_stands n m false chain le are = tt

mode : (s : State) (profile : Profile) (trace : List Entry) (k : ℕ) (e : Explained)
    → Explains s (reverse (steps profile trace)) k e → AnyModeStands (length trace) e.mode
mode s profile trace k e found =
    let d : Requirement = requirement found.step.line in
    let few : length found.older ≤ length trace = omega (arith, long s profile trace k e found) in
    subst (λ (x : Explained). AnyModeStands (length trace) x.mode) (sym found.is)
    (any_mode_stands (length found.older) (length trace) (mode_matters d)
    (mode_chain s found.older found.step.line.pid) few (mode_stands s found.older found.step.line.pid))

pub fits : (s : State) (profile : Profile) (trace : List Entry) (k : ℕ) (e : Explained)
    → explanation s (steps profile trace) k ≡ Some e → FitsLine trace k e
fits s profile trace k e is =
    let found = explains s (reverse (steps profile trace)) k e is in
    record {
      place = place s profile trace k e found;
      one_each = one_each s profile trace k e found;
      cells = cells s profile trace k e found;
      mode = mode s profile trace k e found;
    }

-- ---- its findings

apart : (k n : ℕ) → (n ≡ k → ⊥) → (nat_le k n && nat_le n k) ≡ false
apart k n ne = grind (arith, nat_tests, ne)

together : (k n : ℕ) → n ≡ k → (nat_le k n && nat_le n k) ≡ true
together k n is = grind (arith, nat_tests, is)

-- findings at another position don't lie there, and those at this one do
filter_there : (k n : ℕ) (fs : List Finding) → (n ≡ k → ⊥) → filter (lies_in k k) (map (found_at n) fs) ≡ []
filter_there k n [] ne = refl
filter_there k n (f ∷ fs) ne =
    ap (λ (b : Bool). if b then found_at n f ∷ filter (lies_in k k) (map (found_at n) fs)
    else filter (lies_in k k) (map (found_at n) fs)) (apart k n ne)
    ∙ filter_there k n fs ne

filter_here : (k n : ℕ) (fs : List Finding) → n ≡ k → filter (lies_in k k) (map (found_at n) fs) ≡ map (found_at k) fs
filter_here k n [] is = refl
filter_here k n (f ∷ fs) is =
    ap (λ (b : Bool). if b then found_at n f ∷ filter (lies_in k k) (map (found_at n) fs)
    else filter (lies_in k k) (map (found_at n) fs)) (together k n is)
    ∙ ap (λ (m : ℕ). found_at m f ∷ filter (lies_in k k) (map (found_at n) fs)) is
    ∙ ap (λ (l : List Found). found_at k f ∷ l) (filter_here k n fs is)

filter_older : (s : State) (history : List Step) (k : ℕ) → length history < k
    → filter (lies_in k k) (findings s history) ≡ []
filter_older s [] k lt = refl
filter_older s (step ∷ history) k lt =
    let here : List Found = map (found_at (length history + 1)) (said step (after s history)) in
    filter-append (lies_in k k) (findings s history) here
    ∙ ap (λ (l : List Found). l ++ filter (lies_in k k) here) (filter_older s history k (omega (arith, lt)))
    ∙ filter_there k (length history + 1) (said step (after s history)) (λ e. absurd (omega (arith, e, lt)))

filter_cut : (s : State) (newer : List Step) (step : Step) (older : List Step) (k : ℕ) → k ≡ length older + 1
    → filter (lies_in k k) (findings s (newer ++ step ∷ older)) ≡ map (found_at k) (said step (after s older))
filter_cut s [] step older k is =
    filter-append (lies_in k k) (findings s older) (map (found_at (length older + 1)) (said step (after s older)))
    ∙ ap (λ (l : List Found). l ++ filter (lies_in k k) (map (found_at (length older + 1)) (said step (after s older))))
    (filter_older s older k (omega (arith, is)))
    ∙ filter_here k (length older + 1) (said step (after s older)) (sym is)
filter_cut s (first ∷ newer) step older k is =
    let rest : List Step = newer ++ step ∷ older in
    let none : filter (lies_in k k) (map (found_at (length rest + 1)) (said first (after s rest))) ≡ [] =
    filter_there k (length rest + 1) (said first (after s rest))
    (λ e. absurd (omega (arith, e, is, length-append newer (step ∷ older)))) in
    filter-append (lies_in k k) (findings s rest) (map (found_at (length rest + 1)) (said first (after s rest)))
    ∙ ap (λ (l : List Found). filter (lies_in k k) (findings s rest) ++ l) none
    ∙ append-nil (filter (lies_in k k) (findings s rest)) ∙ filter_cut s newer step older k is

pub explains_what_is_reported : ExplainsWhatIsReported
explains_what_is_reported s trace k e is =
    let found = explains s (reverse trace) k e is in
    ap (λ (h : List Step). filter (lies_in k k) (findings s h)) found.cut
    ∙ filter_cut s found.newer found.step found.older k found.here
    ∙ ap (λ (x : Explained). map (found_at k) x.findings) (sym found.is)

-- ---- the positions that have one

there_by : (s : State) (step : Step) (history : List Step) (k : ℕ) (b : Bool) → (k == length history + 1) ≡ b
    → (k ≤ length history → explained_at s history k ≡ None → ⊥) → k ≤ length (step ∷ history)
    → (if b then Some (explained s history step) else explained_at s history k) ≡ None → ⊥
there_by s step history k true at before high none = absurd (cc)
there_by s step history k false at before high none = before (grind (arith, nat_tests, at, high)) none

is_there : (s : State) (history : List Step) (k : ℕ) → 1 ≤ k → k ≤ length history → explained_at s history k ≡ None → ⊥
is_there s [] k low high none = absurd (omega (arith, low, high))
is_there s (step ∷ history) k low high none =
    there_by s step history k (k == length history + 1) refl (λ le. is_there s history k low le) high none

within : (k n : ℕ) → is_position k n ≡ true → IsAt n k
within k n is = (grind (arith, nat_tests, is), grind (arith, nat_tests, is))

not_within : (k n : ℕ) → is_position k n ≡ false → IsAt n k → ⊥
not_within k n is at = grind (arith, nat_tests, is, at.0, at.1)

refused_none : (trace : List Entry) (k : ℕ) (x : Option Explained) → text_or_refusal trace k x ≡ Err Position
    → x ≡ None
refused_none trace k None is = refl
refused_none trace k (Some e) is = absurd (cc)

no_line_by : (s : State) (profile : Profile) (trace : List Entry) (k : ℕ) → is_position k (length trace) ≡ false
    → (x : Option Explained) → explanation s (steps profile trace) k ≡ x → text_or_refusal trace k x ≡ Err Position
no_line_by s profile trace k is None said = refl
no_line_by s profile trace k is (Some e) said =
    absurd (not_within k (length trace) is (fits s profile trace k e said).place)

pub has_line : (s : State) (profile : Profile) (trace : List Entry) (k : ℕ) → is_position k (length trace) ≡ true
    → explained_line s profile trace k ≡ Err Position → ⊥
has_line s profile trace k is none =
    let at : IsAt (length trace) k = within k (length trace) is in
    is_there s (reverse (steps profile trace)) k at.0
    (omega (arith, at.1, length-reverse (steps profile trace), length-map trace (step profile)))
    (refused_none trace k (explanation s (steps profile trace) k) none)

pub has_no_line : (s : State) (profile : Profile) (trace : List Entry) (k : ℕ) → is_position k (length trace) ≡ false
    → explained_line s profile trace k ≡ Err Position
has_no_line s profile trace k is = no_line_by s profile trace k is (explanation s (steps profile trace) k) refl

-- ---- what the code answers

pub fits_line : (s : State) (profile : Profile) (trace : List Entry) (k : ℕ) (found : Option Explanation)
    (e : Explanation) → option_map explained_by found ≡ explanation s (steps profile trace) k → found ≡ Some e
    → FitsLine trace k (explained_by e)
fits_line s profile trace k found e said is =
    fits s profile trace k (explained_by e) (sym said ∙ ap (option_map explained_by) is)

none_at : (k : ℕ) (fs : List Finding) → map (found_at k) fs ≡ [] → fs ≡ []
none_at k [] none = refl
none_at k (f ∷ fs) none = absurd (cc)

pub is_clean : (s : State) (profile : Profile) (trace : List Entry) (k : ℕ) (found : Option Explanation)
    (e : Explanation) (b : Bool) → option_map explained_by found ≡ explanation s (steps profile trace) k
    → found ≡ Some e → IsTrue b ↔ ((explained_by e).findings ≡ []) → IsTrue b ↔ IsClean s profile trace k
is_clean s profile trace k found e b said is clean =
    let same = explains_what_is_reported s (steps profile trace) k (explained_by e)
    (sym said ∙ ap (option_map explained_by) is) in
    ((λ yes. same ∙ ap (map (found_at k)) (clean.0 yes)), (λ none. clean.1 (none_at k e.verdict (sym same ∙ none))))

-- ---- one of the chains

pub links_are : (s : State) (profile : Profile) (trace : List Entry) (k : ℕ) (found : Option Explanation)
    (e : Explanation) (links : ℕ) → option_map explained_by found ≡ explanation s (steps profile trace) k
    → found ≡ Some e → links ≡ counted_lines (chain_lines trace k (explained_by e))
    → explained_links s profile trace k ≡ Ok links
links_are s profile trace k found e links said is counted =
    ap (links_or_refusal trace k) (sym said ∙ ap (option_map explained_by) is) ∙ ap Ok (sym counted)

pub all_stand : (n : ℕ) (provenances : List CellProvenance) → All (CellStands n) (map cell_chain_of provenances)
    → All (λ (provenance : CellProvenance). CellStands n (cell_chain_of provenance)) provenances
all_stand n provenances all = λ i d lt.
    subst (CellStands n) (get_or-map cell_chain_of provenances i d (cell_chain_of d) lt)
    (all i (cell_chain_of d) (omega (arith, lt, length-map provenances cell_chain_of)))
