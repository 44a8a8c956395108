use Rattle.std.proofs.Common.{inr}
use Rattle.tb_files.proofs.file.begin.Goals as goal

pub returns-in-Err-open_desk-clause-unopened : goal.returns-in-Err-open_desk-clause-unopened
returns-in-Err-open_desk-clause-unopened g c = inr (record {
  found = c.in-Ok.conn;
  is_found = c.in-Ok.ensures.found;
  left = c.in-Err-open_desk.untaken.left;
  untaken = c.in-Err-open_desk.ensures.untaken;
})
