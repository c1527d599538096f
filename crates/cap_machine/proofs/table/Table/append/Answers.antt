use Rattle.std.proofs.Common.{rules, ◌≡◌, ℕ, List, ap, ◌∙◌, refl, length, ◌==◌, if◌then◌else◌}
use Rattle.cap_machine.specs.declared.table.Process.{Process}
use Rattle.cap_machine.specs.Code.Table.{own_at, place_in}
use Rattle.cap_machine.proofs.Owners.{append_own, places_own}
use Rattle.cap_machine.proofs.table.Table.append.Goals as goal

pub returns-clause-ok : goal.returns-clause-ok
returns-clause-ok c =
    let long : c.len.result ≡ length c.args.self.now.processes.items = search rules in
    λ r.
    ap (λ (ps : List Process). own_at ps (place_in c.set_place.new.places.items r) r) c.in_ok-push.ensures.items
    ∙ append_own (place_in c.args.self.now.places.items) (place_in c.set_place.new.places.items) c.args.self.now.processes.items
    c.args.process.pid c.args.process r (c.in_ok-set_place.ensures.ok r
    ∙ ap (λ (n : ℕ). if r == c.args.process.pid then n else place_in c.args.self.now.places.items r) long) refl

pub returns-in_err-push-clause-err : goal.returns-in_err-push-clause-err
returns-in_err-push-clause-err c =
    let long : c.len.result ≡ length c.args.self.now.processes.items = search rules in
    let same : (r : ℕ) → own_at c.push.new.self.items (place_in c.set_place.new.places.items r) r
    ≡ own_at c.args.self.now.processes.items (place_in c.args.self.now.places.items r) r = λ r.
    ap (λ (ps : List Process). own_at ps (place_in c.set_place.new.places.items r) r) c.in_err-push.ensures.items
    ∙ places_own (place_in c.args.self.now.places.items)
    (place_in c.set_place.new.places.items) c.args.self.now.processes.items c.args.process.pid r (c.in_ok-set_place.ensures.ok r
    ∙ ap (λ (n : ℕ). if r == c.args.process.pid then n else place_in c.args.self.now.places.items r) long) c.requires in
    search (rules, same)
