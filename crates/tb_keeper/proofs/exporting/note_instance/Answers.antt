use Rattle.std.proofs.Common.{◌≡◌, ◌∙◌, ◌++◌, ap, subst}
use Rattle.tb_keeper.specs.Lending.{stored_row}
use Rattle.tb_keeper.specs.Noting.{note_of_row}
use Rattle.tb_keeper.proofs.exporting.note_instance.Goals as goal

pub returns-clause-noted : goal.returns-clause-noted
returns-clause-noted g c clean s stored = record {
  more =
      c.in_ok-note_row.ensures
      ∙ ap (λ row. c.args.notes.now ++ note_of_row c.args.at row) (subst (λ n. c.in_ok-row.row ≡ stored_row s.world c.args.board n) c.saturating_sub.ensures (c.in_ok-row.ensures.found clean s stored));
}
