-- What is told of an audit.
use Rattle.std.specs.Prelude.{ℕ, ◌==◌, List, [], ◌∷◌, ◌++◌, codes, decimal, if◌then◌else◌}
use Rattle.tb_keeper.specs.declared.auditing.Audit.{Audit}
use Rattle.tb_orders.specs.declared.ending.Ending.{Ending}
use Rattle.tb_orders.specs.declared.ending.Ending.TheVariants.{Accepted, Refused}

-- `boards B tasks T faults F`
abbrev pub audit_text : Audit → List ℕ
audit_text audit =
    codes "boards " ++ (decimal audit.boards
    ++ (codes " tasks " ++ (decimal audit.tasks ++ (codes " faults " ++ decimal audit.faults))))

abbrev pub audit_line : Audit → List ℕ
audit_line audit = audit_text audit ++ 10 ∷ []

-- refused where there is a fault
-- Rule: check ends with 1 where something differs. Tried by outcomes.
abbrev pub ending_of_audit : Audit → Ending
ending_of_audit audit = if audit.faults == 0 then Accepted else Refused
