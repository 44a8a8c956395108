use Rattle.tb_keeper.proofs.SoundHistories.{one_found}
use Rattle.tb_keeper.proofs.sound_histories.has_kept.Goals as goal

pub returns-clause-tells : goal.returns-clause-tells
returns-clause-tells g c clean content stands = rw c.is_some.ensures (one_found _ c.in_ok-kept.kept (c.in_ok-kept.ensures.found clean content stands))
