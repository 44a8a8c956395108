use Rattle.tb_files.proofs.file.close_conn.Goals as goal

pub returns-in-Ok-clause-saved : goal.returns-in-Ok-clause-saved
returns-in-Ok-clause-saved g c = (c.in-Ok.files, c.in-Ok.ensures.copied)

pub returns-in-Err-clause-unsaved : goal.returns-in-Err-clause-unsaved
returns-in-Err-clause-unsaved g c = record {
  left = c.in-Err.store;
  error = _;
  closed = c.in-Err.ensures.err.0;
  fails = c.in-Err.ensures.err.1;
}
