use Rattle.tb_headline.proofs.InLine.{rest_is_free}
use Rattle.tb_headline.proofs.Lives.{headline, lives_on}
use Rattle.tb_headline.proofs.laws.headline.Goals as goal

pub returns-clause-whole : goal.returns-clause-whole
returns-clause-whole c = headline

pub returns-clause-rest : goal.returns-clause-rest
returns-clause-rest c = rest_is_free

pub returns-clause-join : goal.returns-clause-join
returns-clause-join c = lives_on
