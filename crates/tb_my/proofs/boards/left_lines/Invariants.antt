use Rattle.std.proofs.Common.{◌≡◌, ◌++◌, drop, map, string_bytes}
use Rattle.tb_my.specs.Boards.{left_lines}
use Rattle.tb_my.proofs.boards.left_lines.Given as goal

-- the lines so far and those that are left are all
abbrev pub invariant-loop-line : goal.invariant-loop-line
invariant-loop-line l =
    string_bytes l.text ++ left_lines (map (λ line. line.now) (drop l.line-index l.lines))
    ≡ left_lines (map (λ line. line.now) l.lines)
