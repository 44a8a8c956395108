use Rattle.std.proofs.Common.{◌≡◌, take}
use Rattle.tb_board.specs.Changing.{without_place}
use Rattle.tb_board.proofs.gone.gone_without.Given as goal

abbrev pub invariant-loop-item : goal.invariant-loop-item
invariant-loop-item l = l.rest ≡ without_place l.template l.place (take l.item-index l.gone)
