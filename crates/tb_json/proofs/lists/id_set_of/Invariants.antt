use Rattle.std.proofs.Common.{◌≡◌, [], drop}
use Rattle.tb_json.specs.Lists.{with_ids}
use Rattle.tb_json.proofs.lists.id_set_of.Given as goal

abbrev pub invariant-loop-id : goal.invariant-loop-id
invariant-loop-id l = with_ids l.set.keys (drop l.id-index l.ids) ≡ with_ids [] l.ids
