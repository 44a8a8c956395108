use Rattle.tb_keeper.proofs.SoundHistories.{none_found}
use Rattle.tb_keeper.proofs.sound_histories.has_none_between.Goals as goal

pub returns-clause-tells : goal.returns-clause-tells
returns-clause-tells g c clean content stands = none_found _ c.in_ok-rows.rows (c.in_ok-rows.ensures.found clean content stands).same c.is_empty.result c.is_empty.ensures
