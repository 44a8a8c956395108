use Rattle.std.proofs.Common.{arith}
use Rattle.std.proofs.lemmas.Result.{err_from_is_err_and}
use Rattle.tb_sql_tables.proofs.read.TaskRowStored.read.Goals as goal

pub returns-in_err-mask_at-clause-refused : goal.returns-in_err-mask_at-clause-refused
returns-in_err-mask_at-clause-refused c =
    let p = err_from_is_err_and c.from_residual-in_err-mask_at.result c.from_residual-in_err-mask_at.ensures.1 in
    rw (p.1, p.2) (λ other is. c.in_err-mask_at.ensures.refused other (omega (arith, is.all)) is.mask)
