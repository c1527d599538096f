use Rattle.std.proofs.Common.{[], ◌++◌, ◌∙◌, Ok, ap, length, refl, sym}
use Rattle.std.specs.Prelude.{decimal}
use Rattle.std.proofs.lemmas.List.{append-nil}
use Rattle.cap_machine.specs.DenialReport.{denial_report}
use Rattle.cap_machine.specs.Steps.{steps}
use Rattle.cap_session.specs.Changes.{changes}
use Rattle.cap_session.specs.Code.Performs.{state_of}
use Rattle.cap_session.specs.Commands.{count_lines, report_all, report_lines, tell_changes, tell_denials}
use Rattle.cap_session.specs.Refusal.{line_feed}
use Rattle.cap_session.specs.Shown.{ranged}
use Rattle.cap_session.specs.Settings.{report_by, state_before}
use Rattle.cap_session.specs.declared.script.Reply.TheVariants.{Long, Short}
use Rattle.cap_session.proofs.Performed.{shown_is, told_is}
use Rattle.cap_session.proofs.script.perform.Goals as goal

pub returns-in-Count-clause-performs : goal.returns-in-Count-clause-performs
returns-in-Count-clause-performs c =
    let t = c.args.session.now in
    rw c.in-Count.is (shown_is t.setting (state_of t) count_lines line_feed (decimal (length t.trace))
    (Ok (decimal (length t.trace))) (Short c.numbered.result) refl refl
    (c.numbered.ensures ∙ ap (λ n. decimal n ++ line_feed) c.count-count.ensures.count))

pub returns-in_ok-report-in-Report-clause-performs : goal.returns-in_ok-report-in-Report-clause-performs
returns-in_ok-report-in-Report-clause-performs c =
    let t = c.args.session.now in
    let told = c.in_ok-report-in-Report in
    rw c.in-Report.is (told_is t c.report.new.self report_all (report_by t.setting t.trace) (Long told.field-0)
    refl told.ensures.report told.ensures.base told.ensures.unchanged)

pub returns-in_ok-report_range-in-ReportRange-clause-performs : goal.returns-in_ok-report_range-in-ReportRange-clause-performs
returns-in_ok-report_range-in-ReportRange-clause-performs c =
    let t = c.args.session.now in
    let told = c.in_ok-report_range-in-ReportRange in
    rw c.in-ReportRange.is (shown_is t.setting (state_of t) (report_lines c.in-ReportRange.first c.in-ReportRange.last) []
    told.field-0.items (ranged t.setting t.trace c.in-ReportRange.first c.in-ReportRange.last) (Long told.field-0) refl
    told.ensures.text (sym (append-nil told.field-0.items)))

pub returns-in_ok-changes-in-Changes-clause-performs : goal.returns-in_ok-changes-in-Changes-clause-performs
returns-in_ok-changes-in-Changes-clause-performs c =
    let t = c.args.session.now in
    let told = c.in_ok-changes-in-Changes in
    rw c.in-Changes.is (told_is t c.changes.new.self tell_changes (changes t.setting t.base t.trace) (Long told.field-0)
    refl told.ensures.text told.ensures.base told.ensures.unchanged)

pub returns-in_ok-denials-in-Denials-clause-performs : goal.returns-in_ok-denials-in-Denials-clause-performs
returns-in_ok-denials-in-Denials-clause-performs c =
    let t = c.args.session.now in
    let told = c.in_ok-denials-in-Denials in
    rw c.in-Denials.is (shown_is t.setting (state_of t) tell_denials [] told.field-0.items
    (Ok (denial_report (state_before t.setting) (steps t.setting.profile t.trace))) (Long told.field-0) refl
    (ap Ok (sym told.ensures.denials)) (sym (append-nil told.field-0.items)))
