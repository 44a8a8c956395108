-- What words come to of a board that is named by its number or its title.
use Rattle.std.specs.Prelude.{◌≡◌, Bool, List, ◌++◌, Option, Some, None}
use Rattle.tb_mine.specs.Asked.{Asked, IsDone, IsRefused, Output}
use Rattle.tb_mine.specs.Naming.{IsFound}
use Rattle.tb_mine.specs.declared.context.Context.{Context}
use Rattle.tb_my.specs.Days.{Text}

-- of the board that was found; where none was, nothing more is asked for
abbrev pub IsDoneAt : Option Text → Context → List Text → List Asked → Output → Output → Bool
    → Type 0
IsDoneAt (Some board) context words more before after is_accepted =
    IsDone (record context { board = board }) words more before after is_accepted
IsDoneAt None context words more before after is_accepted =
    IsRefused more before after is_accepted

-- The board of the context's name is found first.
pub record IsDoneOnBoard (context : Context) (words : List Text) (asked : List Asked)
    (before after : Output) (is_accepted : Bool) : Type 0 where
  pub look : List Asked
  pub board : Option Text
  pub found : IsFound context.board look board
  pub more : List Asked
  pub first : asked ≡ look ++ more
  pub done : IsDoneAt board context words more before after is_accepted
