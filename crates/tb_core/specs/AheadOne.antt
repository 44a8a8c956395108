-- Where each board looks one ahead and nobody is a reader, commands do what they did before boards could look ahead.
use Rattle.std.specs.Prelude.{◌≡◌, ℕ, Bool, true, false, List, [], ◌∷◌, Option, Some, None, Result}
use Rattle.std.specs.List.{AllByRecursion}
use Rattle.tb_board.specs.declared.board.Board.{Board}
use Rattle.tb_board.specs.declared.world.Role.{Role}
use Rattle.tb_board.specs.declared.world.RoleOn.{RoleOn}
use Rattle.tb_board.specs.declared.world.World.{World}
use Rattle.tb_board.specs.World.{may_change}
use Rattle.tb_core.specs.declared.command.Answer.{Answer}
use Rattle.tb_core.specs.declared.command.Command.{Command}
use Rattle.tb_core.specs.declared.command.Command.TheVariants as command
use Rattle.tb_core.specs.declared.command.BoardCommand.{BoardCommand}
use Rattle.tb_core.specs.declared.command.BoardCommand.TheVariants.{Add, OnTask, Modify, Depend, Undepend, SetAhead, Retitle, Sweep, Import}
use Rattle.tb_core.specs.declared.refusal.Refusal.{Refusal}
use Rattle.tb_core.specs.Apply.{apply}
use Rattle.tb_core.specs.AtOnce.{apply_at_once}
use Rattle.tb_core.specs.Outcomes.{Outcome}

abbrev pub LooksOne : Board → Type 0
LooksOne b = b.ahead ≡ 1

abbrev pub IsNoReader : RoleOn → Type 0
IsNoReader r = may_change r.role ≡ true

-- each board looks one ahead, and nobody is a reader
pub record IsFirstWorld (w : World) : Type 0 where
  pub boards : AllByRecursion LooksOne w.boards
  pub roles : AllByRecursion IsNoReader w.roles

-- not a reader's
abbrev pub is_first_role : Option Role → Bool
is_first_role None = true
is_first_role (Some role) = may_change role

-- one of the first commands on a board: none says how far it looks ahead or retitles it
abbrev pub is_first_board_command : BoardCommand → Bool
is_first_board_command (Add i) = true
is_first_board_command (OnTask id a) = true
is_first_board_command (Modify id edits) = true
is_first_board_command (Depend id on) = true
is_first_board_command (Undepend id on) = true
is_first_board_command (SetAhead ahead) = false
is_first_board_command (Retitle title) = false
is_first_board_command Sweep = true
is_first_board_command (Import tasks) = true

-- one of the first commands: neither lets a board look ahead nor makes a reader, changes no key and no title, and takes no board
abbrev pub is_first_command : Command → Bool
is_first_command (command.NewPerson name key) = true
is_first_command (command.NewBoard title) = true
is_first_command (command.OwnKey old new) = false
is_first_command (command.SetKey name key) = false
is_first_command (command.SetRole n name role) = is_first_role role
is_first_command (command.Take n) = false
is_first_command (command.OnBoard n c) = is_first_board_command c

-- a person's command at a moment
pub record Request : Type 0 where
  pub name : List ℕ
  pub command : Command
  pub at : ℕ

abbrev pub IsFirstRequest : Request → Type 0
IsFirstRequest r = is_first_command r.command ≡ true

-- the answers to requests, one after the other, by a text of what a command makes of a world
abbrev pub answers_by : (World → List ℕ → Command → ℕ → Outcome) → World → List Request
    → List (Result Answer Refusal)
answers_by text w [] = []
answers_by text w (r ∷ rs) =
    (text w r.name r.command r.at).answer ∷ answers_by text (text w r.name r.command r.at).world rs

-- the world after them
abbrev pub world_by : (World → List ℕ → Command → ℕ → Outcome) → World → List Request → World
world_by text w [] = w
world_by text w (r ∷ rs) = world_by text (text w r.name r.command r.at).world rs

abbrev pub AheadOne : Type 0
AheadOne = (w : World) (rs : List Request) → IsFirstWorld w → AllByRecursion IsFirstRequest rs
    → (answers_by apply w rs ≡ answers_by apply_at_once w rs)
    × (world_by apply w rs ≡ world_by apply_at_once w rs)
