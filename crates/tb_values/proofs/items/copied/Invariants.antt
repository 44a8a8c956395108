use Rattle.std.proofs.Common.{◌≡◌, take}
use Rattle.tb_values.proofs.items.copied.Given as goal

-- the items so far are equal to those that they were copied from
abbrev pub invariant-loop-item : goal.invariant-loop-item
invariant-loop-item g l = l.twins.items ≡ take l.item-index l.items
