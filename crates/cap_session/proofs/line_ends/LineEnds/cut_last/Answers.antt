use Rattle.std.proofs.Common.{◌+◌, ◌-◌, ◌≤◌, length, drop, take, refl, sym, subst}
use Rattle.std.specs.Prelude.{None, Some}
use Rattle.std.proofs.lemmas.List.{take_rest}
use Rattle.memchr.specs.Find.{IsFirstByte, is_byte}
use Rattle.cap_session.specs.Code.LineEnds.{IsCut, IsWithin}
use Rattle.cap_session.proofs.LineMarks.{found_beyond, none_beyond}
use Rattle.cap_session.proofs.line_ends.LineEnds.cut_last.Goals as goal

pub returns-in-Some : goal.returns-in-Some
returns-in-Some c =
    let text = c.self.inside.rest.now in
    let at = c.args.from + c.in-Some.at in
    let found : IsFirstByte (is_byte 10) (drop c.args.from text) (Some c.in-Some.at) =
    subst (λ t. IsFirstByte (is_byte 10) t (Some c.in-Some.at)) (take_rest text c.args.from) c.in-Some.ensures in
    let before : IsWithin text c.args.from =
    subst (λ t. IsWithin t c.args.from) (sym c.self.view_is) c.requires.before in
    let within : c.args.from ≤ length text =
    subst (λ t. c.args.from ≤ length t) (sym c.self.view_is) c.requires.from in
    subst (λ t. IsCut t (take at text) (take (length text - (at + 1)) (drop (at + 1) text))) c.self.view_is
    (subst (λ r. IsCut text (take at text) r) (sym (take_rest text (at + 1)))
    (found_beyond text c.args.from c.in-Some.at before found within))

pub returns-in-None : goal.returns-in-None
returns-in-None c =
    let text = c.self.inside.rest.now in
    let found : IsFirstByte (is_byte 10) (drop c.args.from text) None =
    subst (λ t. IsFirstByte (is_byte 10) t None) (take_rest text c.args.from) c.in-None.ensures in
    let before : IsWithin text c.args.from =
    subst (λ t. IsWithin t c.args.from) (sym c.self.view_is) c.requires.before in
    let within : c.args.from ≤ length text =
    subst (λ t. c.args.from ≤ length t) (sym c.self.view_is) c.requires.from in (
      subst (λ t. IsFirstByte (is_byte 10) t None) c.self.view_is (none_beyond text c.args.from before found within),
      refl,
    )
