use Rattle.std.proofs.Common.{◌≡◌, map, drop}
use Rattle.tb_my.specs.Undo.{after_entry}
use Rattle.tb_my.proofs.undo.after_entry.Given as goal

abbrev pub invariant-loop-index : goal.invariant-loop-index
invariant-loop-index l =
    after_entry (map (λ line. line.now) (drop l.index l.lines)) ≡ after_entry (map (λ line. line.now) l.lines)
