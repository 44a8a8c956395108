use Rattle.tb_my.proofs.Fields.{opened_kept_word}
use Rattle.tb_my.proofs.undo.push_word.Goals as goal

pub returns-clause-again : goal.returns-clause-again
returns-clause-again c = opened_kept_word c.args.word.now c.utf8.word

pub returns-in_err-characters-clause-again : goal.returns-in_err-characters-clause-again
returns-in_err-characters-clause-again c = opened_kept_word c.args.word.now c.utf8.word
