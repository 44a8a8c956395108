use Rattle.std.proofs.Common.{◌≡◌, drop}
use Rattle.serde_json.specs.Data.{no_members}
use Rattle.serde_json.specs.View.{members_view}
use Rattle.tb_json.specs.Writing.{with_fields, extra_fields}
use Rattle.tb_json.proofs.writing.members_of_extras.Given as goal

abbrev pub invariant-loop-extra : goal.invariant-loop-extra
invariant-loop-extra l = with_fields (extra_fields (drop l.extra-index l.extras)) (members_view l.object.entries) ≡ with_fields (extra_fields l.extras) no_members
