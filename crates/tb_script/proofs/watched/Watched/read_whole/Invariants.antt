use Rattle.std.proofs.Common.{◌≡◌, ◌≤◌}
use Rattle.std.specs.Io.KnownBytes.{Consumes}
use Rattle.tb_script.proofs.watched.Watched.read_whole.Given as goal

-- what was read so far is what the reader lost
abbrev pub invariant-reads : goal.invariant-reads
invariant-reads g l = record {
  eaten : Consumes l.fn.self.left l.self.left l.bytes.items;
  counted : l._taken ≤ l.self.reads;
  unwritten : l.self.write_failed ≡ l.fn.self.write_failed;
}
