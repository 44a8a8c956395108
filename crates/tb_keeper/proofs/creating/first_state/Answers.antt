use Rattle.tb_keeper.proofs.FirstRows.{first_rows}
use Rattle.tb_keeper.proofs.creating.first_state.Goals as goal

pub returns-clause-rows : goal.returns-clause-rows
returns-clause-rows c = first_rows c.rows_are_apart.ensures c.args.name.now c.args.key.now _ c.has_form.ensures c.has_form-2.ensures c.in_ok-rows.ensures
