use Rattle.std.proofs.Common.{◌≡◌, ◌≤◌, ℕ, length, get_or, drop}
use Rattle.tb_graph.specs.Taking.{occurrences, counts_without, work_without}
use Rattle.tb_graph.proofs.acyclic.take_links.Given as goal

-- the targets that are left make of the counts and the work what all of them make of the first ones
abbrev pub invariant-loop-target : goal.invariant-loop-target
invariant-loop-target l =
    record {
      size : length l.counts ≡ length l.fn.counts;
      enough : (v : ℕ) → occurrences v (drop l.target-index l.targets) ≤ get_or l.counts v 0;
      counts : counts_without l.counts (drop l.target-index l.targets) ≡ counts_without l.fn.counts l.targets;
      work : work_without l.counts l.work.items (drop l.target-index l.targets) ≡ work_without l.fn.counts l.fn.work.items l.targets;
    }
