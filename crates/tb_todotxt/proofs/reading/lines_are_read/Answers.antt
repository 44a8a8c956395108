use Rattle.tb_todotxt.proofs.Readings.{read_when_spelled}
use Rattle.tb_todotxt.proofs.reading.lines_are_read.Goals as goal

pub returns : goal.returns
returns c = read_when_spelled
