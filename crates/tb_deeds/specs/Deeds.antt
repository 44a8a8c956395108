-- What an accepted command did on a board.
use Rattle.std.specs.Prelude.{ℕ, Bool, ◌||◌, List, Option, Some, None, Result, Ok, Err, if◌then◌else◌, length, nat_lt}
use Rattle.std.specs.List.{list_any}
use Rattle.tb_board.specs.declared.board.Board.{Board}
use Rattle.tb_board.specs.declared.world.World.{World}
use Rattle.tb_board.specs.Tasks.{ids, place_in, wakes}
use Rattle.tb_core.specs.declared.command.Answer.{Answer}
use Rattle.tb_core.specs.declared.command.Answer.TheVariants as answer
use Rattle.tb_core.specs.declared.command.BoardCommand.{BoardCommand}
use Rattle.tb_core.specs.declared.command.BoardCommand.TheVariants as on
use Rattle.tb_core.specs.declared.command.Command.{Command}
use Rattle.tb_core.specs.declared.command.Command.TheVariants as command
use Rattle.tb_core.specs.declared.look.SeenBoard.{SeenBoard}
use Rattle.tb_core.specs.declared.refusal.Refusal.{Refusal}
use Rattle.tb_core.specs.Apply.{apply, seen_of}
use Rattle.tb_deeds.specs.declared.deed.Deed.{Deed}
use Rattle.tb_deeds.specs.declared.kind.DeedKind.{DeedKind}
use Rattle.tb_deeds.specs.declared.kind.DeedKind.TheVariants as kind
use Rattle.tb_deeds.specs.Kinds.{kind_of_action, kind_of_import}

-- the sweep of a board changes it: a task wakes, or instances come
abbrev pub is_swept : Board → ℕ → ℕ → Bool
is_swept b m added = list_any (wakes m) b.tasks || nat_lt 0 added

abbrev pub done_on : Board → DeedKind → Option ℕ → Deed
done_on b kind place = record { board = b.number; what = kind; place = place }

-- the place of the task of an identifier
abbrev pub place_named : Board → ℕ → Option ℕ
place_named b id = place_in (ids b.tasks) id

-- Rule: a sweep that changes nothing is no deed. Tried by no test.
abbrev pub swept_on : Board → ℕ → ℕ → Option Deed
swept_on b m added = if is_swept b m added then Some (done_on b kind.Sweep None) else None

-- what an accepted command on a board did, where the board was this before and so many instances came
abbrev pub deed_on : Board → BoardCommand → ℕ → ℕ → Option Deed
deed_on b (on.Add i) m added = Some (done_on b kind.Add (Some (length b.tasks)))
deed_on b (on.OnTask id a) m added = Some (done_on b (kind_of_action a) (place_named b id))
deed_on b (on.Modify id edits) m added = Some (done_on b kind.Modify (place_named b id))
deed_on b (on.Depend id other) m added = Some (done_on b kind.Depend (place_named b id))
deed_on b (on.Undepend id other) m added = Some (done_on b kind.Undepend (place_named b id))
deed_on b (on.SetAhead ahead) m added = Some (done_on b kind.Ahead None)
deed_on b (on.Retitle title) m added = Some (done_on b kind.Title None)
deed_on b on.Sweep m added = swept_on b m added
deed_on b (on.Import tasks) m added = Some (done_on b (kind_of_import tasks) None)

-- what an accepted command did that looked at this board
abbrev pub deed_about : Board → Command → ℕ → ℕ → Option Deed
deed_about b (command.NewPerson name key) m added = None
deed_about b (command.NewBoard title) m added = None
deed_about b (command.OwnKey old new) m added = None
deed_about b (command.SetKey name key) m added = None
deed_about b (command.SetRole n name role) m added = Some (done_on b kind.Role None)
deed_about b (command.Take n) m added = Some (done_on b kind.Take None)
deed_about b (command.OnBoard n c) m added = deed_on b c m added

-- how many instances came, as an answer says
abbrev pub added_in : Answer → ℕ
added_in (answer.OnBoard a) = a.added
added_in (answer.OfPerson name) = 0
added_in (answer.NewBoard n) = 0

-- a refused command does nothing, nor does one that looks at no board
-- Rule: a refused call is no deed. Tried by no test.
abbrev pub deed_by : Option SeenBoard → Command → ℕ → Result Answer Refusal → Option Deed
deed_by b c m (Err refusal) = None
deed_by None c m (Ok a) = None
deed_by (Some b) c m (Ok a) = deed_about b.board c m (added_in a)

-- what a person's command does in a world
abbrev pub deed_of : World → List ℕ → Command → ℕ → Option Deed
deed_of w name c m = deed_by (seen_of w name c).board c m (apply w name c m).answer
