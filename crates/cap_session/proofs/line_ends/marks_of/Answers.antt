use Rattle.std.proofs.Common.{eqb, take, sym, subst, arith, w8}
use Rattle.std.proofs.lemmas.Simd.{bitmask_splat}
use Rattle.std.proofs.lemmas.List.{length-take-le}
use Rattle.cap_session.specs.Code.LineEnds.{AreMarks}
use Rattle.cap_session.proofs.LineMarks.{marked}
use Rattle.cap_session.proofs.line_ends.marks_of.Goals as goal

pub returns : goal.returns
returns c =
    let bytes = c.args.bytes.now in
    subst (AreMarks bytes 64)
    (sym (bitmask_splat w8 eqb (take 64 bytes) 64 10 (length-take-le 64 bytes c.requires) (omega arith)))
    (marked bytes c.requires)
