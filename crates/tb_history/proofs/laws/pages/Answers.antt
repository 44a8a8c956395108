use Rattle.tb_history.proofs.Pages.{chosen_few, few_all, from_number, last_at_end}
use Rattle.tb_history.proofs.laws.pages.Goals as goal

pub returns-clause-few : goal.returns-clause-few
returns-clause-few c = chosen_few

pub returns-clause-from : goal.returns-clause-from
returns-clause-from c = from_number

pub returns-clause-all : goal.returns-clause-all
returns-clause-all c = few_all

pub returns-clause-end : goal.returns-clause-end
returns-clause-end c = last_at_end
