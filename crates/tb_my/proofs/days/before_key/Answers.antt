use Rattle.tb_my.proofs.Keys.{before_key-from}
use Rattle.tb_my.proofs.days.before_key.Goals as goal

pub returns : goal.returns
returns c = before_key-from c.args.key.now c.args.word.now c.strip_suffix.result c.strip_suffix.ensures.cases
