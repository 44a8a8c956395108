use Rattle.std.proofs.Common.{◌≡◌, drop}
use Rattle.tb_my.specs.Part.{is_rest_of_name}
use Rattle.tb_my.proofs.part.is_rest_of_name.Given as goal

abbrev pub invariant-loop-index : goal.invariant-loop-index
invariant-loop-index l = is_rest_of_name (drop l.index l.word) ≡ is_rest_of_name l.word
