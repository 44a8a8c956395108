use Rattle.tb_rows.proofs.Found.{world_found}
use Rattle.tb_rows.proofs.Orders.{in_order}
use Rattle.tb_rows.proofs.laws.rows_are_found_again.Goals as goal

pub returns : goal.returns
returns c = λ w content good form same. world_found c.ids_are_read.ensures w content same good (in_order w good) form
