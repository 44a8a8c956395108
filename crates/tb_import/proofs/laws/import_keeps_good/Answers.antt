use Rattle.tb_import.proofs.Keeping as keeping
use Rattle.tb_import.proofs.laws.import_keeps_good.Goals as goal

pub returns : goal.returns
returns c = keeping.import_keeps_good
