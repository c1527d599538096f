use Rattle.std.proofs.Common.{true, ◌<◌, length, [], sym, ap, ◌∙◌, arith, rules, refl}
use Rattle.std.proofs.lemmas.List.{length-map}
use Rattle.std.proofs.lemmas.Grind.{put_three}
use Rattle.cap_rights.specs.Names.{table}
use Rattle.cap_rights.proofs.Rows.{table_row}
use Rattle.cap_rights.proofs.Held.{held_none, shown_more, written_same}
use Rattle.cap_rights.proofs.display.NamesDisplay.fmt.Goals as goal
use Rattle.cap_rights.proofs.display.NamesDisplay.fmt.Goals.{then-holds+in_ok-write_str+in_ok-write_str-2, else-holds}

pub bounds-flags-right : goal.bounds-flags-right
unfolding table
bounds-flags-right g c = let size = ap length (sym (c.flags-flags.ensures tt))
    ∙ length-map c.flags-flags.result.now _ in omega (arith, size)

pub rights-init : goal.rights-init
rights-init g c = record {
  text = search rules;
  written = rw held_none (search rules);
  next = rw held_none refl;
}

pub rights-preserved : goal.rights-preserved
unfolding table
rights-preserved g c =
    let size = ap length (sym (c.flags-flags.ensures tt)) ∙ length-map c.flags-flags.result.now _ in
    let lt : c.rights.right < length c.flags-flags.result.now = omega (arith, size) in
    let at = table_row (λ f. (f.name.now, f.value.0)) c.flags-flags.result.now table c.rights.right
    (record { name = record { ref_ptr = (0, 0); now = [] }; value = record { 0 = 0 } })
    (c.flags-flags.ensures tt) lt in
    elim c.if-holds.branch [
      | then-holds+in_ok-write_str+in_ok-write_str-2 w ↦
          let m = shown_more c.rights.right c.args.self.now.0 _ c.rights.separator.now at.0 at.1
          (sym c.holds.ensures.held ∙ w.if-holds.true) c.rights.invariant.next in
          record {
            text = rw w.separator-is (search rules);
            written = λ plain. rw w.f-is (
                let before = c.rights.invariant.written plain in
                let one = w.in_ok-write_str.ensures.writes before.plain (refl {a = true}) in
                let two = w.in_ok-write_str-2.ensures.writes one.plain (refl {a = true}) in
                put_three _ _ _ _ _ _ _ _ _ before one two m.0);
            next = rw w.separator-is m.1;
          }
      | else-holds w ↦
          let m =
          written_same c.rights.right c.args.self.now.0 _ at.0 at.1 (sym c.holds.ensures.held ∙ w.if-holds.false) in
          record {
            text = rw w.separator-is (c.rights.invariant.text);
            written = rw (w.f-is, m) c.rights.invariant.written;
            next = rw (w.separator-is, m) c.rights.invariant.next;
          }
    ]
