-- The shape of the changes that one decision makes.
use Rattle.std.specs.Prelude.{◌≡◌, ◌⊎◌, ℕ, List, [], ◌∷◌, ◌++◌, Option, Some}
use Rattle.std.specs.List.{AllByRecursion}
use Rattle.tb_board.specs.declared.change.Change.{Change}
use Rattle.tb_board.specs.declared.change.Change.TheVariants.{AddPerson, SetKey, AddBoard, SetRole}
use Rattle.tb_board.specs.declared.world.Role.{Role}
use Rattle.tb_board.specs.declared.world.Role.TheVariants.{Owner}
use Rattle.tb_board.specs.Changing.{IsOn}

-- all are changes of one board
pub record AreOnOneBoard (cs : List Change) : Type 0 where
  pub board : ℕ
  pub are_on : AllByRecursion (IsOn board) cs

-- a role on a board is set, behind changes of that board
pub record EndInRole (cs : List Change) : Type 0 where
  pub board : ℕ
  pub person : ℕ
  pub role : Option Role
  pub own : List Change
  pub are_on : AllByRecursion (IsOn board) own
  pub are : cs ≡ own ++ SetRole board person role ∷ []

-- a board begins, and a person owns it
pub record BeginBoard (cs : List Change) : Type 0 where
  pub board : ℕ
  pub title : List ℕ
  pub person : ℕ
  pub are : cs ≡ AddBoard board title ∷ SetRole board person (Some Owner) ∷ []

-- a person comes in
pub record LetIn (cs : List Change) : Type 0 where
  pub name : List ℕ
  pub key : List ℕ
  pub are : cs ≡ AddPerson name key ∷ []

-- a person has another key, or none
pub record GiveKey (cs : List Change) : Type 0 where
  pub name : List ℕ
  pub key : Option (List ℕ)
  pub are : cs ≡ SetKey name key ∷ []

-- the changes are of one board or of one person
abbrev pub AreOfOne : List Change → Type 0
AreOfOne cs = AreOnOneBoard cs ⊎ (EndInRole cs ⊎ (BeginBoard cs ⊎ (LetIn cs ⊎ GiveKey cs)))
