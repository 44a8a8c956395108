use Rattle.tb_headline.proofs.FilesInTurn.{headline_of_files}
use Rattle.tb_headline.proofs.laws.headline_of_files.Goals as goal

pub returns : goal.returns
returns c = headline_of_files
