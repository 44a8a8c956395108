-- What a command looks at, but for how many people and boards there are.
use Rattle.std.specs.Prelude.{◌≡◌, ◌==◌, ℕ, Bool, true, false, ◌&&◌, List, Option, Some, None, if◌then◌else◌, nat_eq}
use Rattle.std.specs.Map.{lookup}
use Rattle.tb_board.specs.declared.board.Board.{Board}
use Rattle.tb_board.specs.declared.world.World.{World}
use Rattle.tb_board.specs.declared.world.Role.{Role}
use Rattle.tb_board.specs.declared.world.Role.TheVariants.{Owner}
use Rattle.tb_board.specs.World.{number_of, owners}
use Rattle.tb_core.specs.declared.command.Command.{Command}
use Rattle.tb_core.specs.declared.command.Command.TheVariants.{NewPerson, NewBoard, OwnKey, SetKey, SetRole, Take, OnBoard}
use Rattle.tb_core.specs.declared.look.SeenBoard.{SeenBoard}
use Rattle.tb_core.specs.Apply.{board_for, board_of, board_seen, board_taken, number_for, other_of, own_for, owners_for, person_for}
use Rattle.tb_keeper.specs.declared.looking.Glance.{Glance}
use Rattle.tb_keeper.specs.declared.looking.Parties.{Parties}

-- the command takes a board
abbrev pub takes : Command → Bool
takes (NewPerson name key) = false
takes (NewBoard title) = false
takes (OwnKey old new) = false
takes (SetKey name key) = false
takes (SetRole n name role) = false
takes (Take n) = true
takes (OnBoard n c) = false

-- these are the caller and the other person whom a command names
pub record AreParties (w : World) (name : List ℕ) (c : Command) (parties : Parties) : Type 0 where
  pub caller_is : parties.caller ≡ number_of w name
  pub own_is : parties.own ≡ own_for w name c
  pub other_is : parties.other ≡ number_for w (other_of c)

-- the role in which the caller sees a board, if there is a caller: the first person sees one that it takes as an owner does
abbrev pub caller_role : Bool → Option ℕ → Option Role → Option Role
caller_role taken None role = None
caller_role taken (Some caller) role = if taken && caller == 1 then Some Owner else role

-- the board that is taken, or that the caller has a role on
abbrev pub board_at : World → Bool → Option ℕ → ℕ → Option SeenBoard
board_at w true caller n = board_taken w caller n
board_at w false caller n = board_for w caller (Some n)

-- what is seen of a board for these people
pub record IsGlanceAt (w : World) (board : ℕ) (taken : Bool) (parties : Parties)
    (glance : Glance) : Type 0 where
  pub caller_is : glance.caller ≡ parties.caller
  pub own_is : glance.own ≡ parties.own
  pub board_is : glance.board ≡ board_at w taken parties.caller board
  pub other_is : glance.other ≡ person_for w (Some board) parties.other
  pub owners_are : glance.owners ≡ owners w board

-- what the command of a person looks at
pub record IsGlance (w : World) (name : List ℕ) (c : Command) (glance : Glance) : Type 0 where
  pub caller_is : glance.caller ≡ number_of w name
  pub own_is : glance.own ≡ own_for w name c
  pub board_is : glance.board ≡ board_seen w (number_of w name) c
  pub other_is : glance.other ≡ person_for w (board_of c) (number_for w (other_of c))
  pub owners_are : glance.owners ≡ owners_for w (board_of c)

-- the board that is seen is the one at hand under a number
abbrev pub IsSeenAtHand : List (ℕ × Board) → ℕ → Option SeenBoard → Type 0
IsSeenAtHand cached n None = Unit {0}
IsSeenAtHand cached n (Some seen) = lookup (nat_eq n) cached ≡ Some seen.board
