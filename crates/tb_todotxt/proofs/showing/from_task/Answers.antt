use Rattle.std.proofs.Common.{◌≡◌, ◌∙◌, Some, false, inl, inr, sym, ap}
use Rattle.std.specs.Prelude.{◌⊎◌}
use Rattle.tb_task.specs.declared.task.Task.{Task}
use Rattle.tb_task.specs.declared.status.Status.{Status}
use Rattle.tb_task.specs.declared.status.Status.TheVariants.{Pending, Waiting, Completed}
use Rattle.tb_todotxt.specs.Showing.{line_for, line_for_status, parts_of}
use Rattle.tb_todotxt.proofs.showing.from_task.Goals as goal

line_at : (t u : Task) (s : Status) → t ≡ u → t.status ≡ s → line_for_status s t ≡ line_for u
line_at t u s same is = ap (λ r. line_for_status r t) (sym is) ∙ ap line_for same

open_line : (t u : Task) → t ≡ u → (t.status ≡ Pending) ⊎ (t.status ≡ Waiting) → Some (parts_of false t) ≡ line_for u
open_line t u same is = elim is [ inl pending ↦ line_at t u Pending same pending | inr waiting ↦ line_at t u Waiting same waiting ]

pub returns-in_ok-line_of-in-Pending : goal.returns-in_ok-line_of-in-Pending
returns-in_ok-line_of-in-Pending c =
    ap (λ l. Some l) c.in_ok-line_of-in-Pending.ensures ∙ open_line c.get-task.result.now c.args.shown.now.task c.get-task.ensures c.in-Pending.is

pub returns-in_ok-line_of-in-Completed : goal.returns-in_ok-line_of-in-Completed
returns-in_ok-line_of-in-Completed c =
    ap (λ l. Some l) c.in_ok-line_of-in-Completed.ensures ∙ line_at c.get-task.result.now c.args.shown.now.task Completed c.get-task.ensures c.in-Completed.is
