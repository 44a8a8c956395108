-- What the types of a world's values keep of them.
use Rattle.std.specs.Prelude.{◌≡◌, true, IfSome}
use Rattle.std.specs.List.{AllByRecursion}
use Rattle.std.specs.List.Sorted.{IsStrictlySortedBy}
use Rattle.tb_task.specs.Extra.{by_name}
use Rattle.tb_task.specs.Mask.{is_mark}
use Rattle.tb_task.specs.Ranges.{HasLinks, HasTexts, IsNamedExtra}
use Rattle.tb_task.specs.Storable.{HasMoments}
use Rattle.tb_task.specs.declared.task.Task.{Task}
use Rattle.tb_board.specs.Ahead.{is_ahead}
use Rattle.tb_board.specs.Names.{is_name, is_key, is_title}
use Rattle.tb_board.specs.declared.board.Board.{Board}
use Rattle.tb_board.specs.declared.gone.Gone.{Gone}
use Rattle.tb_board.specs.declared.world.Person.{Person}
use Rattle.tb_board.specs.declared.world.World.{World}

pub record HasTaskForm (t : Task) : Type 0 where
  pub moments : HasMoments t
  pub links : HasLinks t
  pub texts : HasTexts t
  pub extras : AllByRecursion IsNamedExtra t.extras
  pub names : IsStrictlySortedBy by_name t.extras

abbrev pub HasMark : Gone → Type 0
HasMark g = is_mark g.mark ≡ true

pub record HasBoardForm (b : Board) : Type 0 where
  pub title : is_title b.title ≡ true
  pub tasks : AllByRecursion HasTaskForm b.tasks
  pub gone : AllByRecursion HasMark b.gone
  pub ahead : is_ahead b.ahead ≡ true

pub record HasPersonForm (p : Person) : Type 0 where
  pub name : is_name p.name ≡ true
  pub key : IfSome p.key (λ key. is_key key ≡ true)

pub record HasForm (w : World) : Type 0 where
  pub people : AllByRecursion HasPersonForm w.people
  pub boards : AllByRecursion HasBoardForm w.boards
