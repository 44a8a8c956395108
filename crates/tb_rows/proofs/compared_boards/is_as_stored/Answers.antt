use Rattle.std.proofs.Common.{◌∙◌, sym, not}
use Rattle.tb_rows.proofs.TaskMasks.{masks_are}
use Rattle.tb_rows.proofs.Telling.{tells_other, tells_whole}
use Rattle.tb_rows.proofs.compared_boards.is_as_stored.Goals as goal

pub returns-then-not-branch-2 : goal.returns-then-not-branch-2
returns-then-not-branch-2 c = tells_other c.in_ok-have_masks.field-0 c.if-not-branch-2.true c.in_ok-have_masks.ensures (λ are. are.masks ∙ masks_are c.args.board.now)

pub returns : goal.returns
returns c =
    tells_whole c.have_instances.result c.have_instances.ensures
    (λ instances. record {
      row_is = c.in_ok-has_row.ensures.0 c.if-not-branch.false;
      horizon_is = c.has_horizon.ensures.0 c.if-not-has_horizon.false;
      masks = c.in_ok-have_masks.ensures.0 c.if-not-branch-2.false ∙ sym (masks_are c.args.board.now);
      links_are = c.in_ok-have_links.ensures.0 c.if-not-branch-3.false;
      instances_are = instances;
    })
    (λ are. are.instances_are)
