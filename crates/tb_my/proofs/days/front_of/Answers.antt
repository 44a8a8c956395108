use Rattle.std.proofs.lemmas.Str.{IsCharBoundary-before_ascii}
use Rattle.tb_my.proofs.days.front_of.Goals as goal

pub range-requires-clause-end_boundary : goal.range-requires-clause-end_boundary
range-requires-clause-end_boundary c = IsCharBoundary-before_ascii c.args.word.now c.args.start c.requires.within c.requires.ascii
