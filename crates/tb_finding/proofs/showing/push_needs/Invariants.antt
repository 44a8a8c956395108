use Rattle.std.proofs.Common.{◌≡◌, ◌++◌, drop, string_bytes}
use Rattle.tb_finding.specs.Showing.{need_lines}
use Rattle.tb_finding.proofs.showing.push_needs.Given as goal

-- the lines so far and those that are left are all
abbrev pub invariant-loop-id : goal.invariant-loop-id
invariant-loop-id l =
    string_bytes l.text ++ need_lines l.tasks (drop l.id-index l.ids) ≡ string_bytes l.fn.text ++ need_lines l.tasks l.ids
