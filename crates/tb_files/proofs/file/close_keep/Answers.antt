use Rattle.std.proofs.Common.{subst}
use Rattle.std.specs.Prelude.{OnErr, OnOk}
use Rattle.tb_files.specs.File.{IsSaved, IsUnsaved}
use Rattle.tb_files.proofs.file.close_keep.Goals as goal

pub returns-clause-saved : goal.returns-clause-saved
returns-clause-saved g c =
    subst (λ conn. OnOk c.close_conn.result ((files : _) × IsSaved conn files)) c.close.ensures.conn c.close_conn.ensures.saved

pub returns-clause-unsaved : goal.returns-clause-unsaved
returns-clause-unsaved g c = subst (λ conn. OnErr c.close_conn.result (IsUnsaved conn)) c.close.ensures.conn c.close_conn.ensures.unsaved
