use Rattle.gu_flow.proofs.Words.{◌∙◌, ap, CutLists, is_reached}
use Rattle.gu_flow.proofs.CutMembers.{none_at_all}
use Rattle.gu_flow.proofs.cutting.cut_by.Goals as goal
use Rattle.gu_flow.proofs.cutting.cut_by.Goals.{then-branch+in_ok-add_offers, else-branch}

pub returns : goal.returns
returns c =
    let added = c.in_ok-add_keys.ensures in
    elim c.if-branch.branch [
      | then-branch+in_ok-add_offers w ↦ rw w.cut-is (record { keys = rw w.in_ok-add_offers.ensures.keys added.keys; offers = w.in_ok-add_offers.ensures.offers })
      | else-branch w ↦ rw w.cut-is (record {
        keys = added.keys;
        offers = rw (added.offers ∙ ap (λ (cut : CutLists). cut.offers) c.new-cut.ensures)
            (none_at_all c.args.view.now (is_reached c.args.marks.now) c.args.arcs.now c.requires (added.more w.if-branch.false));
      })
    ]
