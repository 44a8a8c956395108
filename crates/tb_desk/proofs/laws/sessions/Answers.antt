use Rattle.tb_desk.proofs.Resumed.{joined, resumed, told_is_kept}
use Rattle.tb_desk.proofs.laws.sessions.Goals as goal

pub returns-clause-join : goal.returns-clause-join
returns-clause-join c = joined

pub returns-clause-kept : goal.returns-clause-kept
returns-clause-kept c = told_is_kept

pub returns-clause-resume : goal.returns-clause-resume
returns-clause-resume c = resumed
