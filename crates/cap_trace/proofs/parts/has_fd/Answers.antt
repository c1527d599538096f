use Rattle.std.proofs.Common.{ℕ, Bool, Ok, ap, sym, ◌∙◌}
use Rattle.std.specs.Prelude.{◌==◌, ◌||◌}
use Rattle.std.proofs.lemmas.Bool.{eq-eqb, ne_eqb}
use Rattle.std.specs.List.{list_any}
use Rattle.cap_trace.specs.Views.{fds_in}
use Rattle.cap_trace.proofs.Rising.{any_on, any_end}
use Rattle.cap_trace.proofs.parts.has_fd.Goals as goal

pub returns-then-fd-found : goal.returns-then-fd-found
returns-then-fd-found c =
    sym (ap (λ (b : Bool). b || list_any (λ (g : ℕ). c.args.fd == g) (fds_in c.next_fd.new.self))
    (eq-eqb c.args.fd c.in-Ok.found c.if-fd-found.true))
    ∙ any_on (λ (g : ℕ). c.args.fd == g) c.loop-next.parts c.next_fd.new.self c.in-Some.next (Ok c.in-Ok.found) _
    c.in-Some.ensures.value c.in-Ok.is c.loop-next.invariant

pub loop-next-preserved-else-fd-found : goal.loop-next-preserved-else-fd-found
loop-next-preserved-else-fd-found c =
    sym (ap (λ (b : Bool). b || list_any (λ (g : ℕ). c.args.fd == g) (fds_in c.next_fd.new.self))
    (ne_eqb c.args.fd c.in-Ok.found c.if-fd-found.false))
    ∙ any_on (λ (g : ℕ). c.args.fd == g) c.loop-next.parts c.next_fd.new.self c.in-Some.next (Ok c.in-Ok.found) _
    c.in-Some.ensures.value c.in-Ok.is c.loop-next.invariant

pub loop-next-preserved : goal.loop-next-preserved
loop-next-preserved c =
    any_on (λ (g : ℕ). c.args.fd == g) c.loop-next.parts c.next_fd.new.self c.in-Some.next
    _ _ c.in-Some.ensures.value c.in_default-next.is c.loop-next.invariant

pub returns : goal.returns
returns c = any_end (λ (g : ℕ). c.args.fd == g) c.loop-next.parts _ c.in_default.ensures.value.0 c.loop-next.invariant
