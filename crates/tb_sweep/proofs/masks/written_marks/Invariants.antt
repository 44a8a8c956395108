use Rattle.std.proofs.Common.{◌≡◌, map, take, unwrap_or}
use Rattle.tb_sweep.proofs.masks.written_marks.Given as goal

abbrev pub invariant-loop-mark : goal.invariant-loop-mark
invariant-loop-mark l = l.mask ≡ map (λ o. unwrap_or o 63) (take l.mark-index l.marks)
