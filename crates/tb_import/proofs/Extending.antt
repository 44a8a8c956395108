-- An import leaves what a board has.
use Rattle.std.proofs.Common.{List, Option, Some, None, IfOk, refl, sym, subst}
use Rattle.tb_task.specs.declared.incoming.Incoming.{Incoming}
use Rattle.tb_board.specs.declared.board.Board.{Board}
use Rattle.tb_board.specs.Extends.{ExtendsBoard}
use Rattle.tb_board.proofs.Extending.{board-append}
use Rattle.tb_import.specs.declared.refusal.ImportRefusal.{ImportRefusal}
use Rattle.tb_import.specs.Import.{board_after, counts_after, with_masks}
use Rattle.tb_import.specs.News.{new_tasks}
use Rattle.tb_import.specs.Refusal.{import_refusals, judged_import, least, unless_refused}
use Rattle.tb_import.proofs.Templates.{entered_tasks, shape}

extends-after : (b : Board) (is : List Incoming) → ExtendsBoard b (board_after b is)
extends-after b is =
    let new = new_tasks b is in
    let start = with_masks b new in
    subst (ExtendsBoard b) (sym (shape b new start new)) (board-append b _ (entered_tasks b new start.gone new) refl refl)

unless-refused : (b : Board) (is : List Incoming) (o : Option ImportRefusal) → IfOk (unless_refused o (board_after b is) (counts_after b is)) (λ after. ExtendsBoard b after.0)
unless-refused b is None = extends-after b is
unless-refused b is (Some refusal) = tt

pub extends-import : (b : Board) (is : List Incoming) → IfOk (judged_import b is) (λ after. ExtendsBoard b after.0)
extends-import b is = unless-refused b is (least (import_refusals b is))
