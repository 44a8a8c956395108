use Rattle.tb_headline.proofs.InTurn as in_turn
use Rattle.tb_headline.proofs.Texts as texts
use Rattle.tb_headline.proofs.laws.headline_of_connections.Goals as goal

pub returns-clause-headline : goal.returns-clause-headline
returns-clause-headline c = in_turn.headline_of_connections

pub returns-clause-join : goal.returns-clause-join
returns-clause-join c = in_turn.stops_join

pub returns-clause-told : goal.returns-clause-told
returns-clause-told c = texts.tells_replies
