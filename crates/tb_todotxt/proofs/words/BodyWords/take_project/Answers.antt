use Rattle.std.proofs.Common.{arith}
use Rattle.tb_todotxt.proofs.Signs.{signed}
use Rattle.tb_todotxt.proofs.words.BodyWords.take_project.Goals as goal

pub after_sign-requires-clause-long : goal.after_sign-requires-clause-long
after_sign-requires-clause-long c = (signed 43 c.args.word.now c.requires).long

pub after_sign-requires-clause-sign : goal.after_sign-requires-clause-sign
after_sign-requires-clause-sign c = omega (arith, (signed 43 c.args.word.now c.requires).first)
