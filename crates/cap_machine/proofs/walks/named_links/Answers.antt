use Rattle.std.proofs.Common.{Vec, Global, ◌≡◌, Bool, List, [], ◌∷◌, ◌++◌, reverse, if◌then◌else◌, sym, ap, ◌∙◌}
use Rattle.std.proofs.lemmas.List.{reverse-append}
use Rattle.cap_machine.specs.declared.cell.Cell.{Cell}
use Rattle.cap_machine.specs.declared.provenance.CellLink.{CellLink}
use Rattle.cap_machine.specs.declared.walks.Passage.{Passage}
use Rattle.cap_machine.specs.Code.Passages.{cell_along, links_along}
use Rattle.cap_machine.proofs.Passages.{cell_along-oldest, one_more_named}
use Rattle.cap_machine.proofs.walks.named_links.Goals as goal
use Rattle.cap_machine.proofs.walks.named_links.Goals.{then-not-is_idle+in_ok-push, else-not-is_idle}

pub loop-passage-preserved : goal.loop-passage-preserved
loop-passage-preserved c =
    let passage : Passage = c.in-Some.passage.now in
    let newer : List Passage = c.in-Some.newer.now in
    let rest : List Passage = c.loop-passage.rest.now in
    let was : List CellLink = c.loop-passage.links.items in
    let now : List CellLink = c.if-not-is_idle.links.items in
    let oldest : Bool → List CellLink = λ b. if b then [] else passage.link ∷ [] in
    let more : reverse now ≡ links_along (passage ∷ []) c.loop-passage.cell ++ reverse was =
    elim c.if-not-is_idle.branch [
      | then-not-is_idle+in_ok-push w ↦
          ap (λ (v : Vec CellLink Global). reverse v.items) w.links-is ∙ ap reverse w.in_ok-push.ensures.items
          ∙ reverse-append was (passage.link ∷ [])
          ∙ ap (λ (b : Bool). oldest b ++ reverse was) (sym (sym c.is_idle.ensures ∙ w.if-not-is_idle.true))
      | else-not-is_idle w ↦
          ap (λ (v : Vec CellLink Global). reverse v.items) w.links-is
          ∙ ap (λ (b : Bool). oldest b ++ reverse was) (sym (sym c.is_idle.ensures ∙ w.if-not-is_idle.false))
    ] in
    record {
      cell = ap (cell_along newer) c.on-cell.ensures
          ∙ sym (ap (λ (r : List Passage). cell_along r c.loop-passage.cell) c.in-Some.ensures.cases.0
          ∙ cell_along-oldest newer passage c.loop-passage.cell)
          ∙ c.loop-passage.invariant.cell;
      links = ap (λ (d : Cell). links_along newer d ++ reverse now) c.on-cell.ensures
          ∙ one_more_named rest newer passage c.loop-passage.cell was now c.in-Some.ensures.cases.0 more
          ∙ c.loop-passage.invariant.links;
    }
