-- What is written in turn is the listing.
use Rattle.std.proofs.Common.{◌≡◌, ℕ, List, ◌++◌, length, ap, ◌∙◌, append_assoc}
use Rattle.tb_task.specs.declared.task.Task.{Task}
use Rattle.tb_report.specs.Rank.{Rank, rank_order, ordered}
use Rattle.tb_report.specs.Lists.{Waits, ranks_from, lines, last_line, tasks_listed, header}

pub written : (w : Waits) (m : ℕ) (ts : List Task) (rs : List Rank) (begun lined ended : List ℕ) → rs ≡ ordered rank_order (ranks_from w m 0 ts)
    → begun ≡ header → lined ≡ begun ++ lines w ts rs → ended ≡ lined ++ last_line (length rs) (length ts)
    → ended ≡ tasks_listed w ts m
unfolding tasks_listed
written w m ts rs begun lined ended order first second third =
    rw (← order)
    (third ∙ ap (λ text. text ++ last_line (length rs) (length ts)) (second ∙ ap (λ text. text ++ lines w ts rs) first)
    ∙ append_assoc header (lines w ts rs) (last_line (length rs) (length ts)))
