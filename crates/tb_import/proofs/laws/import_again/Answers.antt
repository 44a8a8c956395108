use Rattle.tb_import.proofs.Again as again
use Rattle.tb_import.proofs.laws.import_again.Goals as goal

pub returns : goal.returns
returns c = again.import_again
