use Rattle.tb_rows.proofs.Worlds.{reads_back}
use Rattle.tb_rows.proofs.laws.rows_are_read_back.Goals as goal

pub returns : goal.returns
returns c = reads_back c.ids_are_read.ensures
