-- The letters of priorities in Taskwarrior's task format.
use Rattle.std.specs.Prelude.{◌≡◌, ℕ, if◌then◌else◌, List, Option, Some, None, bytes_eq, codes}
use Rattle.tb_task.specs.declared.priority.Priority.{Priority}
use Rattle.tb_task.specs.declared.priority.Priority.TheVariants.{High, Medium, Low}

abbrev pub priority_letter : Priority → List ℕ
priority_letter High = codes "H"
priority_letter Medium = codes "M"
priority_letter Low = codes "L"

unfoldable pub priority_of : List ℕ → Option Priority
priority_of s =
    if bytes_eq s (codes "H") then Some High
    else if bytes_eq s (codes "M") then Some Medium
    else if bytes_eq s (codes "L") then Some Low
    else None

-- what is written is read again
abbrev pub ArePrioritiesRead : Type 0
ArePrioritiesRead = (priority : Priority) → priority_of (priority_letter priority) ≡ Some priority
