use Rattle.tb_serve.proofs.TakingTurns as serving
use Rattle.tb_serve.proofs.laws.any_turns.Goals as goal

pub returns-clause-turns : goal.returns-clause-turns
returns-clause-turns c = serving.any_turns

pub returns-clause-alone : goal.returns-clause-alone
returns-clause-alone c = serving.one_alone
