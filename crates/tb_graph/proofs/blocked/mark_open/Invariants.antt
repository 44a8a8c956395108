use Rattle.std.proofs.Common.{◌≡◌, length, drop}
use Rattle.tb_graph.specs.Blocked.{is_other_open, marks_where}
use Rattle.tb_graph.proofs.blocked.mark_open.Given as goal

abbrev pub invariant-loop-target : goal.invariant-loop-target
invariant-loop-target l =
    record {
      size : length l.marks ≡ length l.fn.marks;
      marks : marks_where (is_other_open l.open_nodes l.node) l.marks (drop l.target-index l.targets) ≡ marks_where (is_other_open l.open_nodes l.node) l.fn.marks l.targets;
    }
