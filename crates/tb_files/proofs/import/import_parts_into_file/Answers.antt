use Rattle.std.proofs.Common.{inl, inr, refl}
use Rattle.std.proofs.lemmas.Result.{IfErr-weaker, IfOk-weaker}
use Rattle.tb_files.proofs.import.import_parts_into_file.Goals as goal

pub returns-in-Ok-clause-imported : goal.returns-in-Ok-clause-imported
returns-in-Ok-clause-imported g c =
    let begun = c.in-Ok.ensures.begun in
    IfOk-weaker c.import_parts_over.result _ _ (λ ending over. (begun.0, begun.1, record { old = c.in-Ok.desk; begun = begun.2; does = over }))
    (rw c.new-reader.ensures.left at c.import_parts_over.ensures.imported)

pub returns-in-Ok-clause-failed : goal.returns-in-Ok-clause-failed
returns-in-Ok-clause-failed g c =
    let begun = c.in-Ok.ensures.begun in
    IfErr-weaker c.import_parts_over.result _ _ (λ failed over. inr (begun.0, begun.1, record { old = c.in-Ok.desk; begun = begun.2; does = over }))
    (rw c.new-reader.ensures.left at c.import_parts_over.ensures.failed)

pub returns-clause-failed : goal.returns-clause-failed
returns-clause-failed g c = inl (c.in-Err.ensures.unopened, refl)

pub returns-in-Ok-clause-item : goal.returns-in-Ok-clause-item
returns-in-Ok-clause-item g c = rw c.new-reader.ensures.left at c.import_parts_over.ensures.item
