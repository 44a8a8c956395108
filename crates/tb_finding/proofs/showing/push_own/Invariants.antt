use Rattle.std.proofs.Common.{◌≡◌, ◌++◌, drop, string_bytes}
use Rattle.tb_finding.specs.Showing.{own_lines}
use Rattle.tb_finding.proofs.showing.push_own.Given as goal

-- the lines so far and those that are left are all
abbrev pub invariant-loop-extra : goal.invariant-loop-extra
invariant-loop-extra l =
    string_bytes l.text ++ own_lines (drop l.extra-index l.extras) ≡ string_bytes l.fn.text ++ own_lines l.extras
