use Rattle.std.proofs.Common.{◌≡◌}
use Rattle.serde_json.specs.View.{members_view, view}
use Rattle.tb_cleaning.specs.Losses.{drops_on}
use Rattle.tb_cleaning.proofs.losses.push_drops.Given as goal

abbrev pub invariant-loop-name : goal.invariant-loop-name
invariant-loop-name l = drops_on (view l.task) l.incoming l.found (members_view l.name-iterator) ≡ drops_on (view l.task) l.incoming l.fn.found (members_view l.members.entries)
