use Rattle.std.proofs.Common.{◌≡◌, ◌++◌, true, drop, string_bytes}
use Rattle.tb_finding.specs.Json.{json_tasks}
use Rattle.tb_finding.proofs.json.push_tasks.Given as goal

-- the tasks so far and those that are left are all
abbrev pub invariant-loop-key : goal.invariant-loop-key
invariant-loop-key l =
    string_bytes l.text ++ json_tasks l.look l.is_first (drop l.key-index l.keys)
    ≡ string_bytes l.fn.text ++ json_tasks l.look true l.keys
