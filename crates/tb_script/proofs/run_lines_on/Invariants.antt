use Rattle.std.proofs.Common.{true, ◌≡◌, ◌≤◌}
use Rattle.tb_script.proofs.Runs.{UnderWay}
use Rattle.tb_script.proofs.run_lines_on.Given as goal

abbrev pub invariant-reads : goal.invariant-reads
invariant-reads g l = record {
  under_way : g.K.Keep.is_honest l.desk ≡ true → UnderWay (g.K.Keep.holds l.fn.desk) (g.K.Keep.holds l.desk) l.fn.reader.left (g.W.Write.contents l.fn.writer) (g.W.Write.contents l.writer) l.reader.left l.buffer.line.items;
  honest : g.K.Keep.is_honest l.desk ≡ true → g.K.Keep.is_honest l.fn.desk ≡ true;
  counted : l._taken ≤ l.reader.reads;
  failed : g.K.Keep.has_failed l.desk ≡ g.K.Keep.has_failed l.fn.desk;
  heard : l.reader.read_failed ≡ l.fn.reader.read_failed;
  unwritten : l.reader.write_failed ≡ l.fn.reader.write_failed;
}
