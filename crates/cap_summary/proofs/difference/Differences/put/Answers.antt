use Rattle.cap_summary.specs.{Differing.AreListed, Differing.is_key, [], declared.difference.Difference.Difference, true}
use Rattle.std.specs.Prelude.{Bool, false, not, refl, ◌≡◌}
use Rattle.cap_summary.proofs.{Apart.all_put, Apart.listed_one, Apart.listed_same, Equal.same_cell, sym, ◌∙◌}
use Rattle.cap_summary.proofs.difference.Differences.put.Goals as goal

not_false : (b : Bool) → not b ≡ false → b ≡ true
not_false true is = refl
not_false false is = absurd cc

pub returns : goal.returns
returns c = λ old new now_old now_new differ was now.
    let pid = c.args.pid in
    let key = c.args.key in
    let one : Difference = record { pid = pid; key = key; was = c.args.was; now = c.args.now } in
    let first : AreListed now_old now_new (λ p k. is_key pid key p k ≡ true) [] c.if-ne.put.cells.items =
    elim c.if-ne.branch [
      | goal.then-ne+in_ok-push w ↦ rw (w.put-is, w.in_ok-push.ensures.items, c.none-put.ensures.empty)
          (listed_one now_old now_new one [] (record { was = was.here; now = now.here }))
      | goal.else-ne w ↦ rw (w.put-is, c.none-put.ensures.empty) (listed_same now_old now_new pid key []
          (was.here ∙ same_cell c.args.was c.args.now (not_false _ (sym c.ne.ensures ∙ w.if-ne.false)) ∙ sym now.here))
    ] in
    all_put c.args.self.now.cells.items _ _ one old new now_old now_new differ was now first
    (c.in_ok-put_others.ensures old new now_old now_new differ was.others now.others)
