-- Where profile 2 says nothing of any line, profile 1 says nothing of any.
use Rattle.std.proofs.Common.{◌≡◌, ℕ, ◌+◌, ◌^◌, ◌<◌, Bool, true, false, ◌&&◌, ◌||◌, not, if◌then◌else◌, List, [], ◌∷◌}
use Rattle.std.proofs.Common.{◌++◌, length, map, reverse, Option, Some, refl, sym, ap, ◌∙◌}
use Rattle.std.specs.List.{list_any}
use Rattle.std.proofs.lemmas.Bool.{and_parts, or_parts}
use Rattle.cap_rights.specs.Rights.{has_all}
use Rattle.cap_trace.specs.Entry.{Entry}
use Rattle.cap_machine.specs.declared.cell.Cell.{Cell}
use Rattle.cap_machine.specs.declared.cell.Cell.TheVariants.{Unknown, Closed, Held}
use Rattle.cap_machine.specs.declared.cell.Mode.{Mode}
use Rattle.cap_machine.specs.declared.cell.Profile.TheVariants.{One, Two}
use Rattle.cap_machine.specs.declared.rule.Check.{Check}
use Rattle.cap_machine.specs.declared.rule.Requirement.{Requirement}
use Rattle.cap_machine.specs.declared.rule.LimitWord.{LimitWord}
use Rattle.cap_machine.specs.declared.rule.Reply.{Reply}
use Rattle.cap_machine.specs.declared.rule.Reply.TheVariants.{Success, NotCapable}
use Rattle.cap_machine.specs.declared.verdict.Finding.{Finding}
use Rattle.cap_machine.specs.State.{State}
use Rattle.cap_machine.specs.Steps.{step, steps}
use Rattle.cap_machine.specs.Touch.{turn}
use Rattle.cap_machine.specs.History.{after, cell_after, mode_after, turned}
use Rattle.cap_machine.specs.Judge.{listed, fault, faults, is_excused, all_excused, judged, judged_by, forbidden}
use Rattle.cap_machine.specs.Judge.{has_check, is_outside}
use Rattle.cap_machine.specs.Rule.{requirement}
use Rattle.cap_machine.specs.Check.{check, findings, said, found_at}
use Rattle.cap_machine.specs.ProfileLaws.{is_closefrom, did, Never, NoAlarmLost}
use Rattle.cap_machine.proofs.Profiles.{map-reverse, any-reverse}
use Rattle.cap_machine.proofs.Rights.{has_need, has_excuse}
use Rattle.cap_machine.proofs.NamedNeeds.{AllNamed, item_checks}
use Rattle.cap_machine.proofs.Alarms.{Under, under_same, none_of, has_of_quiet, quiet_of_has, item_fits}

module _ (one two : ℕ → Cell) (under : (f : ℕ) → Under (one f) (two f)) where
  abbrev cells : (ℕ → Cell) → List Check → List Cell
  cells at checks = map (λ (check : Check). at check.fd) checks

  fault_quiet : (word : LimitWord) (check : Check) → check.needs < 2 ^ 63 → (c e : Cell) → Under c e
      → fault word check e ≡ [] → fault word check c ≡ []
  fault_quiet word check is Unknown e u quiet = refl
  fault_quiet word check is Closed Unknown u quiet = absurd u
  fault_quiet word check is Closed Closed u quiet = quiet
  fault_quiet word check is Closed (Held t y) u quiet = absurd u
  fault_quiet word check is (Held s x) Unknown u quiet = absurd u
  fault_quiet word check is (Held s x) Closed u quiet = absurd u
  fault_quiet word check is (Held s x) (Held t y) u quiet = quiet_of_has (has_all s check.needs) _
      (has_need s t check.needs u is (has_of_quiet (has_all t check.needs) _ quiet))

  faults_quiet : (word : LimitWord) (checks : List Check) → AllNamed checks → faults word checks (cells two checks) ≡ []
      → faults word checks (cells one checks) ≡ []
  faults_quiet word [] are quiet = refl
  faults_quiet word (check ∷ checks) are quiet =
      let parts = none_of (fault word check (two check.fd)) (faults word checks (cells two checks)) quiet in
      ap (λ r. r ++ faults word checks (cells one checks))
      (fault_quiet word check are.0 (one check.fd) (two check.fd) (under check.fd) parts.0)
      ∙ faults_quiet word checks are.1 parts.1

  excused_more : (excuse : Option ℕ) (c e : Cell) → Under c e → is_excused excuse c ≡ true → is_excused excuse e ≡ true
  excused_more (Some x) (Held s a) Unknown u is = absurd u
  excused_more (Some x) (Held s a) Closed u is = absurd u
  excused_more (Some x) (Held s a) (Held t b) u is = has_excuse s t x u is
  excused_more _ _ e u is = absurd (cc)

  all_excused_more : (checks : List Check) → all_excused checks (cells one checks) ≡ true
      → all_excused checks (cells two checks) ≡ true
  all_excused_more [] is = refl
  all_excused_more (check ∷ checks) is =
      let parts = and_parts (is_excused check.excuse (one check.fd)) (all_excused checks (cells one checks)) is in
      ap (λ b. b && all_excused checks (cells two checks))
      (excused_more check.excuse (one check.fd) (two check.fd) (under check.fd) parts.0)
      ∙ all_excused_more checks parts.1

  -- a refusal in profile 1 is one in profile 2
  refusal_quiet : (a b c d : Bool) (x : Finding) → (b ≡ true → d ≡ true) → (if a && (d && c) then x ∷ [] else []) ≡ []
      → (if a && (b && c) then x ∷ [] else []) ≡ []
  refusal_quiet false b c d x more quiet = refl
  refusal_quiet true false c d x more quiet = refl
  refusal_quiet true true c d x more quiet = ap (λ e. if e && c then x ∷ [] else []) (sym (more refl)) ∙ quiet

  pub judged_quiet : (d : Requirement) (m : Mode) → AllNamed (listed d.checks) → (reply : Reply)
      → judged_by reply d m (cells two (listed d.checks)) ≡ [] → judged_by reply d m (cells one (listed d.checks)) ≡ []
  judged_quiet d m are Success quiet =
      let parts = none_of (forbidden d.class m) (faults d.word (listed d.checks) (cells two (listed d.checks))) quiet in
      ap (λ r. r ++ faults d.word (listed d.checks) (cells one (listed d.checks))) parts.0
      ∙ faults_quiet d.word (listed d.checks) are parts.1
  judged_quiet d m are NotCapable quiet =
      refusal_quiet (has_check d.checks) (all_excused (listed d.checks) (cells one (listed d.checks)))
      (not d.at || is_outside m)
      (all_excused (listed d.checks) (cells two (listed d.checks))) _ (all_excused_more (listed d.checks)) quiet
  judged_quiet d m are _ quiet = quiet

-- ---- a history

nothing_found : (n : ℕ) (xs : List Finding) → map (found_at n) xs ≡ [] → xs ≡ []
nothing_found n [] none = refl
nothing_found n (x ∷ xs) none = absurd (cc)

-- what is known of a history in both profiles, where profile 2 found nothing in it
record Beside (s : State) (history : List Entry) : Type 0 where
  under : (p f : ℕ) → Under (cell_after s (steps One history) p f) (cell_after s (steps Two history) p f)
  modes : mode_after s (steps One history) ≡ mode_after s (steps Two history)
  quiet : findings s (steps One history) ≡ []

beside : (s : State) (history : List Entry) → Never is_closefrom history → findings s (steps Two history) ≡ []
    → Beside s history
beside s [] never quiet = record { under = λ p f. under_same (s.cell p f); modes = refl; quiet = refl }
beside s (line ∷ history) never quiet =
    let parts = none_of (findings s (steps Two history))
    (map (found_at (length (steps Two history) + 1)) (said (step Two line) (after s (steps Two history)))) quiet in
    let here : said (step Two line) (after s (steps Two history)) ≡ [] =
    nothing_found (length (steps Two history) + 1) (said (step Two line) (after s (steps Two history))) parts.1 in
    let nevers = or_parts (did is_closefrom line) (list_any (did is_closefrom) history) never in
    let before = beside s history nevers.1 parts.0 in
    let me = line.pid in
    let modes_alike : mode_after s (steps One history) me ≡ mode_after s (steps Two history) me =
    ap (λ (m : ℕ → Mode). m me) before.modes in
    let said_two : judged (requirement line) (mode_after s (steps One history) me)
    (map (λ (check : Check). cell_after s (steps Two history) me check.fd) (listed (requirement line).checks)) ≡ [] =
    ap (λ m. judged (requirement line) m (map (λ (check : Check). cell_after s (steps Two history) me check.fd)
    (listed (requirement line).checks))) modes_alike ∙ here in
    let said_one : said (step One line) (after s (steps One history)) ≡ [] =
    judged_quiet (cell_after s (steps One history) me) (cell_after s (steps Two history) me) (before.under me)
    (requirement line) (mode_after s (steps One history) me) (item_checks line.item)
    (requirement line).reply said_two in
    record {
      under = item_fits (cell_after s (steps One history)) (cell_after s (steps Two history)) before.under line.item
          (mode_after s (steps Two history) me) me nevers.0 here;
      modes = let move : (ℕ → Mode) → ℕ → Mode = λ m p. turned (turn (step One line) p) m p in ap move before.modes;
      quiet = ap (λ r. r ++ map (found_at (length (steps One history) + 1))
          (said (step One line) (after s (steps One history)))) before.quiet
          ∙ ap (map (found_at (length (steps One history) + 1))) said_one;
    }

pub no_alarm_lost : NoAlarmLost
no_alarm_lost s trace never quiet =
    ap (findings s) (sym (map-reverse (step One) trace))
    ∙ (beside s (reverse trace) (any-reverse (did is_closefrom) trace ∙ never)
    (ap (findings s) (map-reverse (step Two) trace) ∙ quiet)).quiet
