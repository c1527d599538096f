-- Where the limits of makers stand: each right after its line. A trace is taken as its lines, each with its rows.
use Rattle.std.proofs.Common.{◌≡◌, ℕ, ◌+◌, ◌-◌, List, [], ◌∷◌, ◌++◌, length, map, refl, sym, ap, ◌∙◌, subst, arith}
use Rattle.std.proofs.Common.{append_assoc, length-append, inl, inr}
use Rattle.std.specs.Prelude.{insert}
use Rattle.std.specs.List.{All}
use Rattle.std.proofs.lemmas.List.{map-append, append-nil}
use Rattle.std.proofs.lemmas.List.Elements.{All-append, All-cons, All-nil}
use Rattle.cap_trace.specs.Entry.{Entry}
use Rattle.cap_machine.specs.declared.cell.Profile.{Profile}
use Rattle.cap_limits.specs.declared.makers.MakerLimit.{MakerLimit}
use Rattle.cap_limits.specs.declared.makers.MakerRow.{MakerRow}
use Rattle.cap_limits.specs.declared.makers.MakerRow.TheVariants as made
use Rattle.cap_machine.specs.declared.step.Step.{Step}
use Rattle.cap_machine.specs.History.{ended}
use Rattle.cap_limits.specs.LimitLaws.{Limited, AreLimits, limit_step, with_limits, without_limits}
use Rattle.cap_limits.specs.Limits.{Row, IsLimit}
use Rattle.cap_limits.specs.Makers.{Place, row_place, made_fds, AreRowsOf, AreMakerRows}
use Rattle.cap_machine.specs.State.{State}
use Rattle.cap_machine.specs.Steps.{step, steps}
use Rattle.cap_session.specs.LimitScripts.{ScriptLine, limit_line, maker_line, makers_script}
use Rattle.cap_session.specs.LimitScriptLaws.{with_script}
use Rattle.cap_session.proofs.LimitStands.{insert_seam, rows_steps}
use Rattle.cap_session.proofs.MakerPlaces.{AreAt, rows_at}

-- ---- a line with its rows, in the order in which their limits are put in

abbrev pub Spot : Type 0
Spot = Entry × List MakerRow

abbrev pub lines_of : List Spot → List Entry
lines_of spots = map (λ (spot : Spot). spot.0) spots

-- the last line's come first
abbrev pub made_in : List Spot → List MakerRow
made_in [] = []
made_in (spot ∷ more) = made_in more ++ spot.1

-- each row belongs to the line that it is with; the lines begin at a position
abbrev pub AreAligned : ℕ → List Spot → Type 0
AreAligned at [] = Unit {0}
AreAligned at (spot ∷ more) = AreAt at spot.0.pid (map row_place spot.1) × AreAligned (at + 1) more

-- ---- what they limit: what is put in later is before what was put in

abbrev pub maker_row : MakerLimit → Row
maker_row limit = (limit.fd, limit.rights)

abbrev pub rows_of : List MakerRow → List Row
rows_of [] = []
rows_of (made.Held limit ∷ more) = rows_of more ++ maker_row limit ∷ []
rows_of (made.Unknown limit ∷ more) = rows_of more

pub rows_among : (xs ys : List MakerRow) → rows_of (xs ++ ys) ≡ rows_of ys ++ rows_of xs
rows_among [] ys = sym (append-nil (rows_of ys))
rows_among (made.Held limit ∷ xs) ys = ap (λ (l : List Row). l ++ maker_row limit ∷ []) (rows_among xs ys)
    ∙ append_assoc (rows_of ys) (rows_of xs) (maker_row limit ∷ [])
rows_among (made.Unknown limit ∷ xs) ys = rows_among xs ys

abbrev pub limited : Profile → Spot → Limited
limited profile spot = (step profile spot.0, rows_of spot.1)

abbrev pub all_limited : Profile → List Spot → List Limited
all_limited profile spots = map (limited profile) spots

-- the lines, each with its limits right after it
abbrev pub laid : List Spot → List Entry
laid [] = []
laid (spot ∷ more) = spot.0 ∷ (map (limit_line spot.0.pid) (rows_of spot.1) ++ laid more)

-- ---- the script puts them there

own_in : (at p : ℕ) (before after : List Entry) (own : List MakerRow) (others : List ScriptLine)
    → AreAt at p (map row_place own) → at ≡ length before → with_script (before ++ after) (makers_script own ++ others)
    ≡ with_script (before ++ (map (limit_line p) (rows_of own) ++ after)) others
own_in at p before after [] others are place = refl
own_in at p before after (made.Held limit ∷ more) others are place =
    let line = limit_line limit.pid (maker_row limit) in
    let position : limit.at + 1 - 1 ≡ length before = omega (arith, are.0.0, place) in
    let put : insert (before ++ after) (limit.at + 1 - 1) line ≡ before ++ line ∷ after =
    ap (λ (i : ℕ). insert (before ++ after) i line) position ∙ insert_seam before after line in
    let own_line : line ≡ limit_line p (maker_row limit) = ap (λ (q : ℕ). limit_line q (maker_row limit)) are.0.1 in
    let rows : List Entry = map (limit_line p) (rows_of more) in
    let last : rows ++ line ∷ after ≡ map (limit_line p) (rows_of (made.Held limit ∷ more)) ++ after =
    ap (λ (l : Entry). rows ++ l ∷ after) own_line
    ∙ sym (append_assoc rows (limit_line p (maker_row limit) ∷ []) after)
    ∙ ap (λ (l : List Entry). l ++ after) (sym (map-append (limit_line p) (rows_of more) (maker_row limit ∷ []))) in
    ap (λ (t : List Entry). with_script t (makers_script more ++ others)) put
    ∙ own_in at p before (line ∷ after) more others are.1 place
    ∙ ap (λ (l : List Entry). with_script (before ++ l) others) last
own_in at p before after (made.Unknown limit ∷ more) others are place =
    own_in at p before after more others are.1 place

spots_in : (before : List Entry) (spots : List Spot) (others : List ScriptLine) → AreAligned (length before + 1) spots
    → with_script (before ++ lines_of spots) (makers_script (made_in spots) ++ others)
    ≡ with_script (before ++ laid spots) others
spots_in before [] others are = refl
spots_in before (spot ∷ more) others are =
    let own : List ScriptLine = makers_script spot.1 in
    let next : List Entry = before ++ spot.0 ∷ [] in
    let long : length before + 1 ≡ length next = sym (length-append before (spot.0 ∷ [])) in
    let rows : List Entry = map (limit_line spot.0.pid) (rows_of spot.1) in
    let apart : makers_script (made_in more ++ spot.1) ++ others ≡ makers_script (made_in more) ++ (own ++ others) =
    ap (λ (l : List ScriptLine). l ++ others) (map-append maker_line (made_in more) spot.1)
    ∙ append_assoc (makers_script (made_in more)) own others in
    ap (with_script (before ++ lines_of (spot ∷ more))) apart
    ∙ ap (λ (t : List Entry). with_script t (makers_script (made_in more) ++ (own ++ others)))
    (sym (append_assoc before (spot.0 ∷ []) (lines_of more)))
    ∙ spots_in next more (own ++ others) (subst (λ (n : ℕ). AreAligned (n + 1) more) long are.1)
    ∙ own_in (length before + 1) spot.0.pid next (laid more) spot.1 others are.0 long
    ∙ ap (λ (t : List Entry). with_script t others) (append_assoc before (spot.0 ∷ []) (rows ++ laid more))

-- each limit is right after its line
pub makers_stand : (spots : List Spot) → AreAligned 1 spots
    → with_script (lines_of spots) (makers_script (made_in spots)) ≡ laid spots
makers_stand spots are =
    ap (with_script (lines_of spots)) (sym (append-nil (makers_script (made_in spots))))
    ∙ spots_in [] spots [] are

-- ---- as steps

laid_steps : (profile : Profile) (spots : List Spot)
    → steps profile (laid spots) ≡ with_limits profile (all_limited profile spots)
laid_steps profile [] = refl
laid_steps profile (spot ∷ more) =
    let p = spot.0.pid in
    let rows : List Entry = map (limit_line p) (rows_of spot.1) in
    ap (λ (l : List Step). step profile spot.0 ∷ l) (map-append (step profile) rows (laid more)
    ∙ ap (λ (l : List Step). l ++ steps profile (laid more)) (rows_steps profile p (rows_of spot.1))
    ∙ ap (λ (l : List Step). map (limit_step profile p) (rows_of spot.1) ++ l) (laid_steps profile more))

pub makers_steps : (profile : Profile) (spots : List Spot) → AreAligned 1 spots
    → steps profile (with_script (lines_of spots) (makers_script (made_in spots)))
    ≡ with_limits profile (all_limited profile spots)
makers_steps profile spots are = ap (steps profile) (makers_stand spots are) ∙ laid_steps profile spots

pub without_steps : (profile : Profile) (spots : List Spot)
    → without_limits (all_limited profile spots) ≡ steps profile (lines_of spots)
without_steps profile [] = refl
without_steps profile (spot ∷ more) = ap (λ (l : List Step). step profile spot.0 ∷ l) (without_steps profile more)

-- ---- the rows of a trace are so

-- the rows of held descriptors limit them
rows_limit : (s : State) (later : List Step) (at p : ℕ) (fds : List ℕ) (own : List MakerRow)
    → AreRowsOf s later at p fds own → All (IsLimit s later p) (rows_of own)
rows_limit s later at p [] own are =
    subst (λ (l : List MakerRow). All (IsLimit s later p) (rows_of l)) (sym are) (All-nil (IsLimit s later p))
rows_limit s later at p (f ∷ fds) own (inl unsaid) = rows_limit s later at p fds own unsaid.1
rows_limit s later at p (f ∷ fds) own (inr (made.Held limit, others, is, place, least, rest)) =
    let mine : IsLimit s later p (maker_row limit) =
    subst (λ (q : ℕ). IsLimit s later q (maker_row limit)) (ap (λ (x : Place). x.1) place) least in
    subst (λ (l : List MakerRow). All (IsLimit s later p) (rows_of l)) (sym is)
    (All-append (IsLimit s later p) (rows_of others) (maker_row limit ∷ [])
    (rows_limit s later at p fds others rest)
    (All-cons (IsLimit s later p) (maker_row limit) [] mine (All-nil (IsLimit s later p))))
rows_limit s later at p (f ∷ fds) own (inr (made.Unknown limit, others, is, place, needed, rest)) =
    subst (λ (l : List MakerRow). All (IsLimit s later p) (rows_of l)) (sym is)
    (rows_limit s later at p fds others rest)

pub record Spots (profile : Profile) (s : State) (at : ℕ) (t : List Entry) (rows : List MakerRow) : Type 0 where
  pub spots : List Spot
  pub lines : lines_of spots ≡ t
  pub all : made_in spots ≡ rows
  pub aligned : AreAligned at spots
  pub are : AreLimits s (all_limited profile spots)

pub spots_of : (profile : Profile) (s : State) (at : ℕ) (t : List Entry) (rows : List MakerRow)
    → AreMakerRows s at (steps profile t) rows → Spots profile s at t rows
spots_of profile s at [] rows are = record { spots = []; lines = refl; all = sym are; aligned = tt; are = tt }
spots_of profile s at (line ∷ later) rows (beyond, own, cut, before, said) =
    let next = ended s (step profile line ∷ []) in
    let rest = spots_of profile next (at + 1) later beyond before in
    let here : AreAt at line.pid (map row_place own) =
    rows_at next (steps profile later) at line.pid (made_fds line.item) own said in
    let same : steps profile later ≡ without_limits (all_limited profile rest.spots) =
    sym (without_steps profile rest.spots ∙ ap (steps profile) rest.lines) in
    record {
      spots = (line, own) ∷ rest.spots;
      lines = ap (λ (l : List Entry). line ∷ l) rest.lines;
      all = ap (λ (l : List MakerRow). l ++ own) rest.all ∙ sym cut;
      aligned = (here, rest.aligned);
      are = (
        subst (λ (l : List Step). All (IsLimit next l line.pid) (rows_of own)) same
            (rows_limit next (steps profile later) at line.pid (made_fds line.item) own said),
        rest.are,
      );
    }
