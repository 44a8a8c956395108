use Rattle.tb_todotxt.proofs.DayTexts.{hyphened_text, IsAscii-hyphened}
use Rattle.tb_todotxt.proofs.day.Day.write.Goals as goal

pub returns-clause-text : goal.returns-clause-text
returns-clause-text c = hyphened_text c.args.self _ _ c.write-digits.ensures.text c.start.ensures

pub returns-clause-ascii : goal.returns-clause-ascii
returns-clause-ascii c = IsAscii-hyphened _ c.write-digits.ensures.ascii
