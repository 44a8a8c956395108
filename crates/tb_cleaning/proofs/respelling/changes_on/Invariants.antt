use Rattle.std.proofs.Common.{◌≡◌, []}
use Rattle.serde_json.specs.View.{members_view}
use Rattle.tb_cleaning.specs.Respelling.{changes_on}
use Rattle.tb_cleaning.proofs.respelling.changes_on.Given as goal

abbrev pub invariant-loop-name : goal.invariant-loop-name
invariant-loop-name l = changes_on l.found (members_view l.name-iterator) ≡ changes_on [] (members_view l.members.entries)
