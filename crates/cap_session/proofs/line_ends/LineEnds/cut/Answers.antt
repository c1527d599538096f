use Rattle.std.proofs.Common.{rules, ◌+◌, ◌-◌, ◌/◌, ◌^◌, length, drop, take, sym, subst, arith, w64}
use Rattle.std.specs.Int.{trailing_zeros}
use Rattle.std.proofs.lemmas.List.{take_rest, length-take-le}
use Rattle.cap_session.specs.Code.LineEnds.{AreMarks, IsCut}
use Rattle.cap_session.proofs.LineMarks.{first_in, cut_at, left_marks}
use Rattle.cap_session.proofs.line_ends.LineEnds.cut.Goals as goal

pub slice_bounds-line-end : goal.slice_bounds-line-end
slice_bounds-line-end c =
    let text = c.self.inside.rest.now in
    let bit = first_in _ text c.args.from c.args.seen c.args.marks c.self.view_is c.requires.from c.requires.before
    c.requires.marks c.requires.some c.ranges.marks.fits in
    sym (length-take-le _ text (omega (arith, bit.high)))

pub slice_bounds-self-count : goal.slice_bounds-self-count
slice_bounds-self-count c =
    let text = c.self.inside.rest.now in
    let bit = first_in _ text c.args.from c.args.seen c.args.marks c.self.view_is c.requires.from c.requires.before
    c.requires.marks c.requires.some c.ranges.marks.fits in
    omega (arith, bit.high)

pub slice_bounds-self-start : goal.slice_bounds-self-start
slice_bounds-self-start c =
    let text = c.self.inside.rest.now in
    let bit = first_in _ text c.args.from c.args.seen c.args.marks c.self.view_is c.requires.from c.requires.before
    c.requires.marks c.requires.some c.ranges.marks.fits in
    let high = bit.high in
    search rules

pub overflow_sub-left : goal.overflow_sub-left
overflow_sub-left c =
    let text = c.self.inside.rest.now in
    let bit = first_in _ text c.args.from c.args.seen c.args.marks c.self.view_is c.requires.from c.requires.before
    c.requires.marks c.requires.some c.ranges.marks.fits in
    omega (arith, bit.low)

pub overflow_sub-self : goal.overflow_sub-self
overflow_sub-self c =
    let text = c.self.inside.rest.now in
    let bit = first_in _ text c.args.from c.args.seen c.args.marks c.self.view_is c.requires.from c.requires.before
    c.requires.marks c.requires.some c.ranges.marks.fits in
    omega (arith, bit.low)

pub invariant_of-self : goal.invariant_of-self
invariant_of-self c =
    let text = c.self.inside.rest.now in
    let at = trailing_zeros w64 c.args.marks in
    let bit = first_in _ text c.args.from c.args.seen c.args.marks c.self.view_is c.requires.from c.requires.before
    c.requires.marks c.requires.some c.ranges.marks.fits in
    let are : AreMarks (drop c.args.from text) c.args.seen c.args.marks =
    subst (λ t. AreMarks (drop c.args.from t) c.args.seen c.args.marks) (sym c.self.view_is) c.requires.marks in
    subst (λ t. AreMarks t (c.args.seen - at - 1) (c.args.marks / 2 ^ at / 2))
    (sym (take_rest text (c.args.from + at + 1)))
    (left_marks text c.args.from c.args.seen c.args.marks at are bit.low)

pub returns : goal.returns
returns c =
    let text = c.self.inside.rest.now in
    let at = c.args.from + trailing_zeros w64 c.args.marks in
    let bit = first_in _ text c.args.from c.args.seen c.args.marks c.self.view_is c.requires.from c.requires.before
    c.requires.marks c.requires.some c.ranges.marks.fits in
    subst (λ t. IsCut t (take at text) (take (length text - (at + 1)) (drop (at + 1) text))) c.self.view_is
    (subst (λ r. IsCut text (take at text) r) (sym (take_rest text (at + 1)))
    (cut_at text at bit.high bit.ends bit.before))
