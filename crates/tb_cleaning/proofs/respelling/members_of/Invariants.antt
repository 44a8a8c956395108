use Rattle.std.proofs.Common.{◌≡◌}
use Rattle.serde_json.specs.Data.{no_members}
use Rattle.serde_json.specs.View.{members_view}
use Rattle.tb_cleaning.specs.Respelling.{members_on}
use Rattle.tb_cleaning.proofs.respelling.members_of.Given as goal

abbrev pub invariant-loop-name : goal.invariant-loop-name
invariant-loop-name l = members_on (members_view l.found.entries) (members_view l.name-iterator) ≡ members_on no_members (members_view l.members.entries)
