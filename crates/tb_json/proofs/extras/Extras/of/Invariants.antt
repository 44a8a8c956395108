use Rattle.serde_json.specs.View.{members_view}
use Rattle.tb_json.proofs.ExtraSteps.{SoFar}
use Rattle.tb_json.proofs.extras.Extras.of.Given as goal

abbrev pub invariant-loop-name : goal.invariant-loop-name
invariant-loop-name l = SoFar l.extras.kept l.extras.dropped (members_view l.name-iterator) (members_view l.members.entries)
