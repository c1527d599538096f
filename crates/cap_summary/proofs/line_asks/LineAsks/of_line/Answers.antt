use Rattle.cap_summary.specs.{Asks.any_holds, Asks.asks_of, Keys.cells_of, NotCapable, State, findings_of}
use Rattle.cap_machine.specs.declared.rule.Reply.TheVariants.{Success}
use Rattle.cap_summary.specs.{Asks.has_kind, Asks.is_lacked, declared.kinds.TheConstants.Kinds.CLOSED, Keys.mode_cell}
use Rattle.cap_summary.specs.{Asks.has_any, Check, false, list_any, listed, map, not, refl, true, ◌&&◌, ◌||◌, ◌≡◌}
use Rattle.cap_summary.proofs.{Agreed.agree_any, ap, arith, sym, ◌∙◌}
use Rattle.cap_summary.proofs.line_asks.LineAsks.of_line.Goals.{After-with_checks}
use Rattle.cap_summary.proofs.LineAsking.{forbidden_found, not_forbidden, one_finding, refusal_found, refused_same, success_found, success_same}
use Rattle.cap_machine.specs.Judge.{forbidden, is_forbidden, judged_by}
use Rattle.cap_summary.specs.{List, declared.ask.Ask.Ask}
use Rattle.cap_summary.proofs.line_asks.LineAsks.of_line.Goals as goal

-- a call of its class is forbidden
class : (c : After-with_checks) → c.match-matches.matches ≡ is_forbidden c.args.requirement.now.class
class c = elim c.match-matches.branch [
  | goal.in-Forbidden w ↦ rw (w.matches-is, w.in-Forbidden.is) refl
  | goal.in_default w ↦ w.matches-is ∙ sym (not_forbidden c.args.requirement.now.class w.in_default.not-Forbidden)
]

pub returns-after-matches-clause-holds : goal.returns-after-matches-clause-holds
returns-after-matches-clause-holds c = λ s.
    let d = c.args.requirement.now in
    let m = s.mode c.args.me in
    let cell = λ (check : Check). s.cell c.args.me check.fd in
    c.with_checks.ensures.holds d.word s
    ∙ ap (λ b. b || list_any (λ (check : Check). is_lacked false d.word check (cell check)) (listed d.checks))
    (c.of_mode-mode.ensures.holds s ∙ ap (λ b. b && has_kind CLOSED (mode_cell m))
    (class (goal.at.returns-after-matches-clause-holds c).After-with_checks))
    ∙ success_found d.word d.class m cell (listed d.checks)
    ∙ ap (λ reply. has_any (judged_by reply d m (map cell (listed d.checks)))) (sym c.in-Success-default.is-0)

pub returns-after-matches-clause-same : goal.returns-after-matches-clause-same
returns-after-matches-clause-same c = λ s r all.
    let d = c.args.requirement.now in
    let me = c.args.me in
    let asks : List Ask = asks_of c.of_mode-mode.result in
    let at = (goal.at.returns-after-matches-clause-same c).After-with_checks in
    let found : (s : State) → any_holds (cells_of s) asks ≡ has_any (forbidden d.class (s.mode me)) =
    λ s. c.of_mode-mode.ensures.holds s ∙ ap (λ b. b && has_kind CLOSED (mode_cell (s.mode me))) (class at)
    ∙ forbidden_found d.class (s.mode me) in
    success_same d (s.mode me) (r.mode me) (λ check. s.cell me check.fd) (λ check. r.cell me check.fd)
    c.in-Success-default.is-0 (sym (found s)
    ∙ agree_any (cells_of s) (cells_of r) asks (c.with_checks.ensures.mode (cells_of s) (cells_of r) all) ∙ found r)
    (c.with_checks.ensures.same refl d.word s r all)

pub returns-in-NotPermitted-default-clause-same : goal.returns-in-NotPermitted-default-clause-same
returns-in-NotPermitted-default-clause-same c = λ s r all.
    let d = c.args.requirement.now in
    refused_same d (s.mode c.args.me) (r.mode c.args.me) _ _ c.in-NotPermitted-default.is-0
    (sym (c.of_mode.ensures.holds s) ∙ agree_any (cells_of s) (cells_of r) (asks_of c.of_mode.result) all
    ∙ c.of_mode.ensures.holds r)

pub returns-in_default-checks : goal.returns-in_default-checks
returns-in_default-checks c =
    let d = c.args.requirement.now in
    let mode = c.of_mode-mode-in_default-checks.ensures in
    let asked = c.with_checks-in_default-checks.ensures in
    let wrongful : (s : State) → not (any_holds (cells_of s) (asks_of c.with_checks-in_default-checks.result))
    ≡ has_any (findings_of d c.args.me s) = λ s.
    let cell = λ (check : Check). s.cell c.args.me check.fd in
    ap not (asked.holds d.word s
    ∙ ap (λ b. b || list_any (λ (check : Check). is_lacked true d.word check (cell check)) (listed d.checks))
    (mode.holds s))
    ∙ refusal_found d (s.mode c.args.me) cell c.in-NotCapable-default.is-0 c.in_default-checks.not-Nothing in record {
      holds = wrongful;
      same = λ s r is. one_finding d (s.mode c.args.me) (r.mode c.args.me) _ _
          (λ e. absurd (let wrong : NotCapable ≡ Success = sym c.in-NotCapable-default.is-0 ∙ e in cc))
          (sym (wrongful s) ∙ is ∙ wrongful r);
      refusals = rw c.in-NotCapable-default.is-0 (omega arith);
      names = λ names within. asked.names names within.own within.checks (mode.names names within.own);
    }
