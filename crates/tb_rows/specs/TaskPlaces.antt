-- How the places of a board's tasks are found.
use Rattle.tb_board.specs.declared.board.Board.{Board}
use Rattle.tb_board.specs.Tasks.{ids, ArePlaces}
use Rattle.tb_rows.specs.declared.task_places.TaskPlaces.{TaskPlaces}
use Rattle.tb_rows.specs.declared.task_places.TaskPlaces.TheVariants.{Listed, Sought}

-- what is listed are the places of the board's tasks
abbrev pub AreFor : Board → TaskPlaces → Type 0
AreFor b (Listed places) = ArePlaces (ids b.tasks) places
AreFor b Sought = Unit {0}
