use Rattle.std.proofs.Common.{◌≡◌, ◌++◌, false, map, drop, string_bytes}
use Rattle.tb_my.specs.Undo.{kept_entries}
use Rattle.tb_my.proofs.undo.kept_entries.Given as goal

-- the lines so far and those that are left are all
abbrev pub invariant-loop-line : goal.invariant-loop-line
invariant-loop-line l =
    string_bytes l.text ++ kept_entries l.left l.is_begun (map (λ line. line.now) (drop l.line-index l.lines))
    ≡ kept_entries 49 false (map (λ line. line.now) l.lines)
