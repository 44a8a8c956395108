-- New people and new boards.
use Rattle.std.specs.Prelude.{ℕ, ◌+◌, ◌==◌, not, List, [], ◌∷◌, ◌++◌, Option, Some, None, is_some, Err, nat_le}
use Rattle.tb_board.specs.declared.change.Change.TheVariants.{AddPerson, AddBoard, SetRole}
use Rattle.tb_core.specs.declared.command.Answer.TheVariants.{OfPerson, NewBoard}
use Rattle.tb_core.specs.declared.deciding.Decision.{Decision}
use Rattle.tb_core.specs.declared.look.Seen.{Seen}
use Rattle.tb_core.specs.declared.refusal.Refusal.{Refusal}
use Rattle.tb_core.specs.declared.refusal.Refusal.TheVariants.{NotAllowed, Full, NameTaken, UnknownCaller}
use Rattle.tb_board.specs.declared.world.Role.TheVariants.{Owner}
use Rattle.tb_board.specs.declared.world.World.{World}
use Rattle.tb_core.specs.Outcomes.{Outcome, decision_of, given}
use Rattle.tb_core.specs.Refusals.{least, where_holds}
use Rattle.tb_board.specs.Roles.{set_role}
use Rattle.tb_task.specs.Limits.{most_boards, most_people}

-- the first person alone lets others in
-- Rule: the first person alone adds people. Refused as NotAllowed. Tried by people_and_roles.
abbrev pub person_refusals : Seen → ℕ → List (Option Refusal)
person_refusals seen caller =
    where_holds NotAllowed (not (caller == 1))
    ∷ where_holds Full (nat_le most_people seen.people)
    ∷ where_holds NameTaken (is_some seen.other)
    ∷ []

abbrev pub with_person : World → List ℕ → List ℕ → World
with_person w name key =
    record w { people = w.people ++ record { name = name; key = Some key } ∷ [] }

abbrev pub new_person : World → Seen → Option ℕ → List ℕ → List ℕ → Outcome
new_person w seen None name key = record { world = w; answer = Err UnknownCaller }
new_person w seen (Some caller) name key =
    given (least (person_refusals seen caller)) w (with_person w name key) (OfPerson name)

abbrev pub board_refusals : Seen → List (Option Refusal)
board_refusals seen = where_holds Full (nat_le most_boards seen.boards) ∷ []

-- the next number, and the caller owns the board
-- Rule: who makes a board owns it. Tried by me_and_people.
abbrev pub with_new_board : World → ℕ → ℕ → List ℕ → World
with_new_board w number caller title = record w {
  boards = w.boards
      ++ record { number = number; title = title; tasks = []; gone = []; ahead = 1 } ∷ [];
  roles = set_role w.roles number caller (Some Owner);
}

abbrev pub new_board : World → Seen → Option ℕ → List ℕ → Outcome
new_board w seen None title = record { world = w; answer = Err UnknownCaller }
new_board w seen (Some caller) title =
    given (least (board_refusals seen)) w (with_new_board w (seen.boards + 1) caller title)
    (NewBoard (seen.boards + 1))

-- the decisions
abbrev pub person_decision : Seen → Option ℕ → List ℕ → List ℕ → Decision
person_decision seen None name key = record { changes = []; answer = Err UnknownCaller }
person_decision seen (Some caller) name key =
    decision_of (least (person_refusals seen caller)) (AddPerson name key ∷ []) (OfPerson name)

abbrev pub board_decision : Seen → Option ℕ → List ℕ → Decision
board_decision seen None title = record { changes = []; answer = Err UnknownCaller }
board_decision seen (Some caller) title =
    decision_of (least (board_refusals seen))
    (AddBoard (seen.boards + 1) title ∷ SetRole (seen.boards + 1) caller (Some Owner) ∷ [])
    (NewBoard (seen.boards + 1))
