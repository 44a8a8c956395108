use Rattle.std.proofs.Common.{◌≡◌, length, drop}
use Rattle.tb_graph.specs.Search.{marks_after, work_after}
use Rattle.tb_graph.proofs.search.mark_targets.Given as goal

-- the targets that are left make of the marks and the work what all of them make of the first ones
abbrev pub invariant-loop-target : goal.invariant-loop-target
invariant-loop-target l =
    record {
      size : length l.marks ≡ length l.fn.marks;
      marks : marks_after l.marks (drop l.target-index l.targets) ≡ marks_after l.fn.marks l.targets;
      work : work_after l.marks l.work.items (drop l.target-index l.targets) ≡ work_after l.fn.marks l.fn.work.items l.targets;
    }
