use Rattle.std.proofs.Common.{length}
use Rattle.tb_causes.proofs.wrong_word.+first_wrong.Given as goal

abbrev pub decreases-first_wrong : goal.decreases-first_wrong
decreases-first_wrong l = length l.words.now
