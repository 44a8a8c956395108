use Rattle.std.proofs.Common.{subst}
use Rattle.std.specs.Prelude.{OnErr, OnOk}
use Rattle.tb_files.specs.File.{IsSaved, IsUnsaved}
use Rattle.tb_files.proofs.file.close_desk.Goals as goal

pub returns-clause-saved : goal.returns-clause-saved
returns-clause-saved g c =
    subst (λ keep. OnOk c.close_keep.result ((files : _) × IsSaved keep.conn files)) c.into_keep.ensures c.close_keep.ensures.saved

pub returns-clause-unsaved : goal.returns-clause-unsaved
returns-clause-unsaved g c = subst (λ keep. OnErr c.close_keep.result (IsUnsaved keep.conn)) c.into_keep.ensures c.close_keep.ensures.unsaved
