use Rattle.std.proofs.Common.{rules}
use Rattle.tb_files.proofs.giving.print_given.Goals.{else-asked-via-then-asked+else-reply-eq0, else-asked-via-else-asked}
use Rattle.tb_files.proofs.giving.print_given.Goals as goal

pub returns-in_err-print_line-2-clause-front : goal.returns-in_err-print_line-2-clause-front
returns-in_err-print_line-2-clause-front g c =
    elim c.else-asked.branch [
      | else-asked-via-then-asked+else-reply-eq0 w ↦ search rules
      | else-asked-via-else-asked w ↦ search rules
    ]
