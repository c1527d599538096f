-- Which plans fit the words.
use Rattle.std.proofs.Common.{List, inl, inr}
use Rattle.clap.specs.Words.{Text, kind_of}
use Rattle.clap.specs.declared.error.Error.{Error}
use Rattle.capcheck.specs.Plans.{Fits, NamesNone, TellsKind}
use Rattle.capcheck.specs.declared.plan.Plan.{Plan}
use Rattle.capcheck.specs.declared.plan.Plan.TheVariants.{Run, Help, Usage, Memory}

-- the answer to an error fits the words for which it comes
pub told_fits : (words : List Text) (plan : Plan) (e : Error) → NamesNone words e → TellsKind (kind_of e) plan
    → Fits words plan
told_fits words (Run run) e n t = absurd t
told_fits words (Help text) e (inl (inl h)) (inl t) = cc
told_fits words (Help text) e (inl (inl h)) (inr t) = cc
told_fits words (Help text) e (inl (inr h)) t = (kind_of e, h, t)
told_fits words (Help text) e (inr n) (inl t) = let h = n.2 in cc
told_fits words (Help text) e (inr n) (inr t) = let h = n.2 in cc
told_fits words (Usage text) e (inl (inl h)) t = absurd (t.0 h)
told_fits words (Usage text) e (inl (inr h)) t = inl (kind_of e, h, t.1)
told_fits words (Usage text) e (inr n) t = inr (n.0, n.1)
told_fits words Memory e n t = tt
