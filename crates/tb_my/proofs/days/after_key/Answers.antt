use Rattle.tb_my.proofs.Keys.{after_key-from}
use Rattle.tb_my.proofs.days.after_key.Goals as goal

pub returns : goal.returns
returns c = after_key-from c.args.key.now c.args.word.now c.strip_prefix.result c.strip_prefix.ensures.cases
