use Rattle.std.proofs.Common.{◌≡◌, ◌++◌, drop, string_bytes}
use Rattle.tb_finding.specs.Names.{name_lines}
use Rattle.tb_finding.proofs.names.name_lines.Given as goal

-- the lines so far and those that are left are all
abbrev pub invariant-loop-name : goal.invariant-loop-name
invariant-loop-name l =
    string_bytes l.text ++ name_lines (drop l.name-index l.names) l.all ≡ name_lines l.names l.all
