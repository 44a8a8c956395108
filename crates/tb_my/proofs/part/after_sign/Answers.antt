use Rattle.std.proofs.Common.{arith}
use Rattle.std.proofs.lemmas.Str.{lead_after_ascii}
use Rattle.tb_my.proofs.part.after_sign.Goals as goal

pub range_from-requires : goal.range_from-requires
range_from-requires c = λ _. (omega (arith, c.requires.long), lead_after_ascii c.args.word.now 0 c.utf8.word c.requires.sign)
