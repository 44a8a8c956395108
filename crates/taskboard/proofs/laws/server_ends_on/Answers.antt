use Rattle.taskboard.proofs.LeadsOn.{ends_on}
use Rattle.taskboard.proofs.laws.server_ends_on.Goals as goal

pub returns : goal.returns
returns g c = ends_on _ g.met.D.Disk.seen_may_stay
