use Rattle.std.proofs.Common.{◌≡◌, []}
use Rattle.serde_json.specs.View.{members_view}
use Rattle.tb_json.specs.Modify.{edits_of}
use Rattle.tb_json.proofs.modify.edits_of.Given as goal

abbrev pub invariant-loop-name : goal.invariant-loop-name
invariant-loop-name l = edits_of l.edits (members_view l.name-iterator) ≡ edits_of [] (members_view l.members.entries)
