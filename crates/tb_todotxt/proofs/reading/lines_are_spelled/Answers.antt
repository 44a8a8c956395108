use Rattle.tb_todotxt.proofs.Readings.{spelled_when_read}
use Rattle.tb_todotxt.proofs.reading.lines_are_spelled.Goals as goal

pub returns : goal.returns
returns c = spelled_when_read
