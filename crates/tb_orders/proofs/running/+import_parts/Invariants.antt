use Rattle.std.proofs.Common.{length}
use Rattle.tb_orders.proofs.running.+import_parts.Given as goal

abbrev pub decreases-import_parts : goal.decreases-import_parts
decreases-import_parts g l = length l.parts.now
