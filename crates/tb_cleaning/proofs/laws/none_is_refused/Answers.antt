use Rattle.tb_cleaning.proofs.Readable.{brought_read}
use Rattle.tb_cleaning.proofs.laws.none_is_refused.Goals as goal

pub returns : goal.returns
returns c = brought_read
