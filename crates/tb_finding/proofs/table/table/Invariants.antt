use Rattle.std.proofs.Common.{◌≡◌, ◌++◌, drop, string_bytes}
use Rattle.tb_finding.specs.Table.{lines, table}
use Rattle.tb_finding.proofs.table.table.Given as goal

-- the lines so far and those that are left are all
abbrev pub invariant-loop-one : goal.invariant-loop-one
invariant-loop-one l =
    string_bytes l.text ++ lines l.style l.widths (drop l.one-index l.cells) ≡ table l.style l.cells
