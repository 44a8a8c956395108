-- The sweep leaves what a board has.
use Rattle.std.proofs.Common.{ℕ, zero, suc, ◌+◌, List, [], ◌∷◌, refl, inl, inr}
use Rattle.std.proofs.lemmas.Bool.{cases_Bool}
use Rattle.tb_task.specs.declared.task.Task.{Task}
use Rattle.tb_task.specs.Checks.{is_recurring}
use Rattle.tb_recur.specs.Instances.{instance}
use Rattle.tb_board.specs.declared.board.Board.{Board}
use Rattle.tb_board.specs.Board.{wake, with_task}
use Rattle.tb_board.specs.Extends.{ExtendsBoard}
use Rattle.tb_board.specs.Numbers.{free_id}
use Rattle.tb_board.specs.Templates.{count}
use Rattle.tb_board.proofs.Extending.{board-append, board-refl, board-trans, board-wake}
use Rattle.tb_sweep.specs.Sweeping.{batch, grown, grown_all, sweep, with_instances}

extends-instances : (m : ℕ) (t : Task) (k n : ℕ) (b : Board) → ExtendsBoard b (with_instances m t k n b)
extends-instances m t k zero b = board-refl b
extends-instances m t k (suc n) b =
    let made = instance t k (free_id b) m in
    let one = with_task b made in
    board-trans b one (with_instances m t (k + 1) n one) (board-append b one (made ∷ []) refl refl) (extends-instances m t (k + 1) n one)

extends-grown : (m : ℕ) (b : Board) (t : Task) → ExtendsBoard b (grown m b t)
extends-grown m b t =
    elim (cases_Bool (is_recurring t.status)) [
      | inl recurring ↦ rw recurring (extends-instances m t (count b t.id) (batch m b t) b)
      | inr other ↦ rw other (board-refl b)
    ]

extends-all : (m : ℕ) (b : Board) (ts : List Task) → ExtendsBoard b (grown_all m b ts)
extends-all m b [] = board-refl b
extends-all m b (t ∷ ts) = board-trans b (grown m b t) (grown_all m (grown m b t) ts) (extends-grown m b t) (extends-all m (grown m b t) ts)

pub extends-sweep : (b : Board) (m : ℕ) → ExtendsBoard b (sweep b m)
extends-sweep b m = board-trans b (wake b m) (sweep b m) (board-wake b m) (extends-all m (wake b m) (wake b m).tasks)
