use Rattle.std.proofs.Common.{◌≡◌, List, length, ◌∙◌, ap, sym, subst, arith}
use Rattle.std.proofs.lemmas.List.{length-map}
use Rattle.cap_trace.specs.Entry.{Entry}
use Rattle.cap_limits.specs.declared.makers.MakerRow.{MakerRow}
use Rattle.cap_limits.specs.Makers.{AreMakerRows}
use Rattle.cap_machine.specs.Steps.{step, steps}
use Rattle.cap_machine.specs.State.{start_state}
use Rattle.cap_session.specs.LimitScripts.{maker_lines}
use Rattle.cap_session.proofs.MakerPlaces.{places_below, makers_text_is}
use Rattle.cap_session.proofs.limits_text.makers_text.Goals as goal

pub script_of-requires : goal.script_of-requires
script_of-requires c =
    let s = start_state c.args.start.now in
    let lines : List Entry = c.as_slice-all.result.now in
    let most = c.as_slice-all.type_inv.1 in
    let long : length (steps c.args.profile lines) ≡ length lines = length-map lines (step c.args.profile) in
    places_below s (steps c.args.profile lines) c.as_slice.result.now 9223372036854775808
    (subst (λ (l : List MakerRow). AreMakerRows s 1 (steps c.args.profile lines) l) (sym c.as_slice.ensures.value)
    c.in_ok-rows.ensures) (omega (arith, long, most))

pub returns : goal.returns
returns c =
    let s = start_state c.args.start.now in
    record {
      rows = c.in_ok-rows.rows.items;
      least = subst (λ (l : List Entry). AreMakerRows s 1 (steps c.args.profile l) c.in_ok-rows.rows.items)
          c.as_slice-all.ensures.value c.in_ok-rows.ensures;
      is = c.in_ok-text.ensures ∙ ap maker_lines c.as_slice.ensures.value
          ∙ makers_text_is c.in_ok-rows.rows.items;
    }
