use Rattle.std.proofs.Common.{rules}
use Rattle.tb_command_line.proofs.Leaving.{words_behind}
use Rattle.tb_command_line.proofs.extra.words_from.Goals as goal

pub returns : goal.returns
returns c = search (rules, words_behind)
