use Rattle.std.proofs.Common.{ℕ, ◌==◌, nat_cmp, Option, if◌then◌else◌, refl, ap, ◌∙◌, subst}
use Rattle.std.specs.BTreeMap.{BTreeMap, get, is_at}
use Rattle.std.specs.Option.{IsSome, option_map_or}
use Rattle.std.proofs.lemmas.Result.{on_ok_weaker}
use Rattle.std.proofs.Math.Path.{fun_ext}
use Rattle.cap_machine.specs.declared.cell.OnExec.{OnExec}
use Rattle.cap_limits.specs.declared.live.process.LiveProcess.{LiveProcess}
use Rattle.cap_limits.specs.Code.Wanted.{wanted_of, wanted, undone, with_requirement}
use Rattle.cap_limits.proofs.LiveBack.{written_at}
use Rattle.cap_limits.proofs.StandingRows.{at_is}
use Rattle.cap_limits.proofs.live.LiveRights.pass_own.Goals as goal

pub returns-in-Some-clause-rights : goal.returns-in-Some-clause-rights
returns-in-Some-clause-rights c =
    let updates = (c.get_mut.follows.holds c.pass.new.self).3
    (subst (λ (o : Option LiveProcess). IsSome o) c.in-Some.ensures.value refl) in
    on_ok_weaker c.pass.result
    (λ is p f x. written_at (λ (o : Option LiveProcess). option_map_or (λ own. wanted_of own f x) o 0) c.args.me p
    (is_at (nat_cmp c.args.me) p) c.pass.new.self (get nat_cmp c.args.self.now.processes p)
    (get nat_cmp (c.get_mut.follows.lender c.pass.new.self) p) (at_is c.args.me p) (updates.0 p)
    ∙ ap (λ (n : ℕ). if p == c.args.me then n else wanted c.args.self.now p f x)
    (is f x ∙ ap (λ (o : Option LiveProcess). with_requirement c.args.requirement.now
    (undone c.args.effect.now (λ g y. option_map_or (λ own. wanted_of own g y) o 0)) f x) c.in-Some.ensures.value))
    c.pass.ensures.rights

pub returns-in_ok-pass-in-None-clause-rights : goal.returns-in_ok-pass-in-None-clause-rights
returns-in_ok-pass-in-None-clause-rights c =
    on_ok_weaker c.put.result
    (λ is p f x. is p f x
    ∙ ap (λ (m : BTreeMap ℕ LiveProcess). if p == c.args.me then wanted_of c.pass-in-None.new.self f x
    else option_map_or (λ own. wanted_of own f x) (get nat_cmp m p) 0) c.get_mut.follows.holds-at-none
    ∙ ap (λ (n : ℕ). if p == c.args.me then n else wanted c.args.self.now p f x)
    (c.in_ok-pass-in-None.ensures.rights f x
    ∙ ap (λ (u : ℕ → OnExec → ℕ). with_requirement c.args.requirement.now (undone c.args.effect.now u) f x)
    (fun_ext (λ g. fun_ext (λ y. c.none-own.ensures.rights g y
    ∙ ap (λ (o : Option LiveProcess). option_map_or (λ own. wanted_of own g y) o 0) c.in-None.ensures.value)))))
    c.put.ensures.rights
