use Rattle.taskboard.proofs.LeadsOn.{leads_on}
use Rattle.taskboard.proofs.laws.server_leads_on.Goals as goal

pub returns : goal.returns
returns g c = leads_on _
