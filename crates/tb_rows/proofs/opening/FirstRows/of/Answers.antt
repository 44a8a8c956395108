use Rattle.std.proofs.Common.{refl}
use Rattle.tb_rows.proofs.opening.FirstRows.of.Goals as goal

pub returns : goal.returns
returns c = rw (c.in_ok-person.ensures, c.in_ok-board.ensures) refl
