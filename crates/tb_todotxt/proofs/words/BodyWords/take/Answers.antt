use Rattle.std.proofs.Common.{◌∙◌, sym, arith}
use Rattle.tb_todotxt.proofs.Signs.{signed, project_sign, tag_sign}
use Rattle.tb_todotxt.proofs.words.BodyWords.take.Goals as goal

pub after_sign-requires-clause-long : goal.after_sign-requires-clause-long
after_sign-requires-clause-long c = (signed 64 c.args.word.now (tag_sign c.args.word.now (sym c.kind_of.ensures ∙ c.in-Tag.is))).long

pub after_sign-requires-clause-sign : goal.after_sign-requires-clause-sign
after_sign-requires-clause-sign c = omega (arith, (signed 64 c.args.word.now (tag_sign c.args.word.now (sym c.kind_of.ensures ∙ c.in-Tag.is))).first)

pub take_project-requires : goal.take_project-requires
take_project-requires c = project_sign c.args.word.now (sym c.kind_of.ensures ∙ c.in-Project.is)
