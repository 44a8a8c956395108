use Rattle.tb_todotxt.proofs.Spelling.{spelled_once}
use Rattle.tb_todotxt.proofs.reading.one_spelling.Goals as goal

pub returns : goal.returns
returns c = spelled_once
