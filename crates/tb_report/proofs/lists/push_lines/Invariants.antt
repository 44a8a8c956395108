use Rattle.std.proofs.Common.{◌≡◌, ◌++◌, drop, string_bytes}
use Rattle.tb_report.specs.Lists.{lines}
use Rattle.tb_report.specs.Marked.{waits_in}
use Rattle.tb_report.proofs.lists.push_lines.Given as goal

-- the text so far and the lines of the ranks that are left are all
abbrev pub invariant-loop-rank : goal.invariant-loop-rank
invariant-loop-rank l = string_bytes l.text ++ lines (waits_in l.waits.blocked.items l.waits.blocking.items) l.tasks (drop l.rank-index l.ranks) ≡ string_bytes l.fn.text ++ lines (waits_in l.waits.blocked.items l.waits.blocking.items) l.tasks l.ranks
