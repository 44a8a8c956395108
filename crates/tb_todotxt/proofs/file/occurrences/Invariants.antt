use Rattle.std.proofs.Common.{◌≡◌, ◌+◌, ◌≤◌, map, drop}
use Rattle.tb_todotxt.specs.File.{count_of}
use Rattle.tb_todotxt.proofs.file.occurrences.Given as goal

-- the equal ones so far, and those to come
abbrev pub invariant-loop-other : goal.invariant-loop-other
invariant-loop-other l =
    (l.count ≤ l.other-index)
    × (l.count + count_of l.line (map (λ other. other.now) (drop l.other-index l.lines)) ≡ count_of l.line (map (λ other. other.now) l.lines))
