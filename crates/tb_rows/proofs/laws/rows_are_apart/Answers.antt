use Rattle.tb_rows.proofs.Apart.{rows_apart}
use Rattle.tb_rows.proofs.Orders.{in_order}
use Rattle.tb_rows.proofs.laws.rows_are_apart.Goals as goal

pub returns : goal.returns
returns c = λ v w good_v good_w form_v form_w same. rows_apart c.ids_are_read.ensures v w good_v good_w (in_order v good_v) (in_order w good_w) form_v form_w same
