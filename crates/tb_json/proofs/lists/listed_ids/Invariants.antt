use Rattle.std.proofs.Common.{◌≡◌, ◌++◌}
use Rattle.tb_json.proofs.lists.listed_ids.Given as goal

abbrev pub invariant-loop-id : goal.invariant-loop-id
invariant-loop-id l = l.list ++ l.id-iterator ≡ l.fn.set.keys
