use Rattle.tb_keeper.proofs.FirstRows.{first_old_rows}
use Rattle.tb_keeper.proofs.first_version.first_rows.Goals as goal

pub returns : goal.returns
returns c = first_old_rows c.rows_are_apart.ensures c.args.name.now c.args.key.now _ c.has_form.ensures c.has_form-2.ensures c.in_ok-first.ensures
