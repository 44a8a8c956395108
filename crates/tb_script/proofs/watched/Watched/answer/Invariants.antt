use Rattle.std.proofs.Common.{◌≡◌, ◌≤◌, ◌-◌, length, take}
use Rattle.std.specs.Io.KnownBytes.{Appends}
use Rattle.tb_script.proofs.watched.Watched.answer.Given as goal

-- the first bytes have gone out
abbrev pub invariant-loop-written : goal.invariant-loop-written
invariant-loop-written g l = record {
  within : l.written ≤ length l.answers;
  front : Appends (g.W.Write.contents l.fn.writer) (g.W.Write.contents l.writer) (take l.written l.answers);
  failed : l.self.write_failed ≡ l.fn.self.write_failed;
  left : l.self.left ≡ l.fn.self.left;
  reads : l.self.reads ≡ l.fn.self.reads;
  read_failed : l.self.read_failed ≡ l.fn.self.read_failed;
}

abbrev pub decreases-loop-written : goal.decreases-loop-written
decreases-loop-written g l = length l.answers - l.written
