use Rattle.std.proofs.Common.{◌≡◌, ◌++◌, drop, map, string_bytes}
use Rattle.tb_my.specs.Boards.{kept_lines}
use Rattle.tb_my.proofs.boards.kept_lines.Given as goal

-- the lines so far and those that are left are all
abbrev pub invariant-loop-line : goal.invariant-loop-line
invariant-loop-line l =
    string_bytes l.text ++ kept_lines (map (λ line. line.now) (drop l.line-index l.lines))
    ≡ kept_lines (map (λ line. line.now) l.lines)
