use Rattle.std.proofs.Common.{◌≡◌, ◌<◌, ◌↔◌, ℕ, get_or}
use Rattle.tb_graph.specs.Walk.{IsIn}
use Rattle.tb_graph.proofs.acyclic.sources.Given as goal

abbrev pub invariant-loop-node : goal.invariant-loop-node
invariant-loop-node l = (v : ℕ) → IsIn v l.work.items ↔ ((v < l.node) × (get_or l.counts v 0 ≡ 0))
