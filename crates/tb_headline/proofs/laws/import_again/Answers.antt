use Rattle.tb_headline.proofs.ImportedAgain.{json_again}
use Rattle.tb_headline.proofs.laws.import_again.Goals as goal

pub returns : goal.returns
returns c = json_again
