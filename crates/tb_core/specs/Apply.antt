-- What a command makes of a world.
use Rattle.std.specs.Prelude.{◌≡◌, ℕ, Bool, true, false, not, ◌==◌, List, [], ◌∷◌, Option, Some, None, is_some, Result, Ok, Err, if◌then◌else◌, find, length}
use Rattle.tb_board.specs.declared.board.Board.{Board}
use Rattle.tb_core.specs.declared.command.Answer.{Answer}
use Rattle.tb_core.specs.declared.command.Answer.TheVariants.{OnBoard}
use Rattle.tb_core.specs.declared.command.BoardAnswer.{BoardAnswer}
use Rattle.tb_core.specs.declared.command.Command.{Command}
use Rattle.tb_core.specs.declared.command.Command.TheVariants as command
use Rattle.tb_core.specs.declared.command.BoardCommand.{BoardCommand}
use Rattle.tb_core.specs.declared.command.BoardCommand.TheVariants.{Add, OnTask, Modify, Depend, Undepend, SetAhead, Retitle, Sweep, Import}
use Rattle.tb_core.specs.declared.command.Import.{Import as ImportedTasks}
use Rattle.tb_core.specs.declared.command.Import.TheVariants.{Json, Todo}
use Rattle.tb_core.specs.declared.command.AnswerDetail.{AnswerDetail}
use Rattle.tb_core.specs.declared.command.AnswerDetail.TheVariants.{Swept}
use Rattle.tb_core.specs.declared.deciding.Decision.{Decision}
use Rattle.tb_core.specs.declared.look.Seen.{Seen}
use Rattle.tb_core.specs.declared.look.SeenBoard.{SeenBoard}
use Rattle.tb_core.specs.declared.look.SeenPerson.{SeenPerson}
use Rattle.tb_core.specs.declared.refusal.Refusal.{Refusal}
use Rattle.tb_core.specs.declared.refusal.Refusal.TheVariants.{UnknownCaller, NoBoard, NotAllowed, NoPerson, LastOwner}
use Rattle.tb_board.specs.declared.world.Person.{Person}
use Rattle.tb_board.specs.declared.world.Role.{Role}
use Rattle.tb_board.specs.declared.world.Role.TheVariants.{Owner}
use Rattle.tb_board.specs.declared.world.World.{World}
use Rattle.tb_core.specs.Action.{judged_action}
use Rattle.tb_core.specs.Add.{judged_add}
use Rattle.tb_core.specs.Allowed.{allows}
use Rattle.tb_core.specs.Linking.{judged_depend, judged_undepend}
use Rattle.tb_board.specs.Board.{wake}
use Rattle.tb_board.specs.Changing.{change_board, changed, with_ahead, with_title}
use Rattle.tb_core.specs.ImportJson.{judged_import_json}
use Rattle.tb_core.specs.ImportTodo.{judged_import_todo}
use Rattle.tb_core.specs.Keys.{key_given, own_key}
use Rattle.tb_core.specs.Modify.{judged_modify}
use Rattle.tb_core.specs.Outcomes.{Outcome, given}
use Rattle.tb_core.specs.People.{new_board, new_person}
use Rattle.tb_core.specs.Refusals.{least, where_holds}
use Rattle.tb_core.specs.Owners.{leaves_none, person_number}
use Rattle.tb_board.specs.Roles.{set_role}
use Rattle.tb_sweep.specs.Sweeping.{added, more, sweep}
use Rattle.tb_board.specs.World.{find_board, has_name, is_owner, number_of, owners, role_of}

-- the board that a command names
abbrev pub board_of : Command → Option ℕ
board_of (command.NewPerson name key) = None
board_of (command.NewBoard title) = None
board_of (command.OwnKey old new) = None
board_of (command.SetKey name key) = None
board_of (command.SetRole n name role) = Some n
board_of (command.Take n) = Some n
board_of (command.OnBoard n c) = Some n

-- the other person whom a command names
abbrev pub other_of : Command → Option (List ℕ)
other_of (command.NewPerson name key) = Some name
other_of (command.NewBoard title) = None
other_of (command.OwnKey old new) = None
other_of (command.SetKey name key) = Some name
other_of (command.SetRole n name role) = Some name
other_of (command.Take n) = None
other_of (command.OnBoard n c) = None

abbrev pub seen_with : Option Role → Option Board → Option SeenBoard
seen_with None b = None
seen_with (Some role) None = None
seen_with (Some role) (Some b) = Some (record { board = b; role = role })

-- the board, if there is one and the caller has a role on it
abbrev pub board_for : World → Option ℕ → Option ℕ → Option SeenBoard
board_for w None n = None
board_for w (Some caller) None = None
board_for w (Some caller) (Some n) = seen_with (role_of w n caller) (find_board w n)

-- the first person sees a board that it takes as an owner sees it
-- Rule: the first person may take any board there is. Refused as NoBoard. Tried by board_taken.
abbrev pub taking_role : World → ℕ → ℕ → Option Role
taking_role w n caller = if caller == 1 then Some Owner else role_of w n caller

-- the board, if there is one that the caller takes or has a role on
abbrev pub board_taken : World → Option ℕ → ℕ → Option SeenBoard
board_taken w None n = None
board_taken w (Some caller) n = seen_with (taking_role w n caller) (find_board w n)

-- the board that a command looks at
abbrev pub board_seen : World → Option ℕ → Command → Option SeenBoard
board_seen w caller (command.NewPerson name key) = board_for w caller None
board_seen w caller (command.NewBoard title) = board_for w caller None
board_seen w caller (command.OwnKey old new) = board_for w caller None
board_seen w caller (command.SetKey name key) = board_for w caller None
board_seen w caller (command.SetRole n name role) = board_for w caller (Some n)
board_seen w caller (command.Take n) = board_taken w caller n
board_seen w caller (command.OnBoard n c) = board_for w caller (Some n)

-- the caller, where the command is about that person's own key
abbrev pub own_for : World → List ℕ → Command → Option Person
own_for w name (command.NewPerson other key) = None
own_for w name (command.NewBoard title) = None
own_for w name (command.OwnKey old new) = find (has_name name) w.people
own_for w name (command.SetKey other key) = None
own_for w name (command.SetRole n other role) = None
own_for w name (command.Take n) = None
own_for w name (command.OnBoard n c) = None

abbrev pub person_for : World → Option ℕ → Option ℕ → Option SeenPerson
person_for w n None = None
person_for w None (Some person) = Some (record { number = person; role = None })
person_for w (Some n) (Some person) = Some (record { number = person; role = role_of w n person })

-- a person of whom no role is asked
abbrev pub bare_person : Option ℕ → Option SeenPerson
bare_person None = None
bare_person (Some person) = Some (record { number = person; role = None })

abbrev pub number_for : World → Option (List ℕ) → Option ℕ
number_for w None = None
number_for w (Some name) = number_of w name

abbrev pub owners_for : World → Option ℕ → ℕ
owners_for w None = 0
owners_for w (Some n) = owners w n

-- what the command of a person looks at
abbrev pub seen_of : World → List ℕ → Command → Seen
seen_of w name c = record {
  caller = number_of w name;
  own = own_for w name c;
  board = board_seen w (number_of w name) c;
  other = person_for w (board_of c) (number_for w (other_of c));
  owners = owners_for w (board_of c);
  people = length w.people;
  boards = length w.boards;
}

-- what an import makes of a board that is awake
abbrev pub judged_tasks : Board → ImportedTasks → Result (Board × AnswerDetail) Refusal
judged_tasks b (Json is) = judged_import_json b is
judged_tasks b (Todo ts) = judged_import_todo b ts

-- what a command makes of a board that is awake
abbrev pub judged : Board → BoardCommand → ℕ → Result (Board × AnswerDetail) Refusal
judged b (Add i) m = judged_add b i m
judged b (OnTask id a) m = judged_action b id a m
judged b (Modify id edits) m = judged_modify b id edits m
judged b (Depend id on) m = judged_depend b id on m
judged b (Undepend id on) m = judged_undepend b id on m
judged b (SetAhead ahead) m = Ok (with_ahead ahead b, Swept)
judged b (Retitle title) m = Ok (with_title title b, Swept)
judged b Sweep m = Ok (b, Swept)
judged b (Import tasks) m = judged_tasks b tasks

-- the answer about a board that the sweep follows
abbrev pub board_answer : Board → ℕ → AnswerDetail → BoardAnswer
board_answer b m detail =
    record { board = b.number; added = added b m; more = more (sweep b m) m; detail = detail }

-- the sweep follows a command that is accepted
-- Rule: the sweep follows each accepted command. Tried by instances_after_a_gap.
abbrev pub answered : ℕ → Result (Board × AnswerDetail) Refusal
    → Result (Board × BoardAnswer) Refusal
answered m (Ok r) = Ok (sweep r.0 m, board_answer r.0 m r.1)
answered m (Err refusal) = Err refusal

-- what a command makes of a board: it is judged on the board that is awake, and the sweep follows
abbrev pub outcome : Board → BoardCommand → ℕ → Result (Board × BoardAnswer) Refusal
outcome b c m = answered m (judged (wake b m) c m)

-- a role that doesn't suffice is refused
abbrev pub if_allowed : Bool → Result (Board × BoardAnswer) Refusal
    → Result (Board × BoardAnswer) Refusal
if_allowed true r = r
if_allowed false r = Err NotAllowed

-- who isn't known is refused, then who has no role on the board, or where there is none, and then whose role doesn't suffice
-- Rule: no role on a board is answered as no board. Refused as NoBoard. Tried by me_and_people.
abbrev pub decided : Option ℕ → Option SeenBoard → BoardCommand → ℕ
    → Result (Board × BoardAnswer) Refusal
decided None b c m = Err UnknownCaller
decided (Some caller) None c m = Err NoBoard
decided (Some caller) (Some b) c m = if_allowed (allows b.role c) (outcome b.board c m)

-- a refusal changes nothing
-- Rule: a refusal changes nothing. Tried by import_cycle.
abbrev pub applied : World → Result (Board × BoardAnswer) Refusal → Outcome
applied w (Ok r) =
    record {
      world = record w { boards = change_board r.0.number (λ _. r.0) w.boards };
      answer = Ok (OnBoard r.1);
    }
applied w (Err refusal) = record { world = w; answer = Err refusal }

abbrev pub on_board : World → Seen → BoardCommand → ℕ → Outcome
on_board w seen c m = applied w (decided seen.caller seen.board c m)

-- an owner gives roles, and a board is left with an owner
-- Rule: owners alone give and take roles. Refused as NotAllowed. Tried by people_and_roles.
abbrev pub role_refusals : Seen → SeenBoard → Option Role → List (Option Refusal)
role_refusals seen b role =
    where_holds NotAllowed (not (is_owner b.role))
    ∷ where_holds NoPerson (not (is_some seen.other))
    ∷ where_holds LastOwner (leaves_none seen.other role seen.owners)
    ∷ []

abbrev pub with_role : World → Board → ℕ → Option Role → World
with_role w b person role =
    record w {
      boards = change_board b.number (λ _. b) w.boards;
      roles = set_role w.roles b.number person role;
    }

abbrev pub role_answer : Board → ℕ → Answer
role_answer b m = OnBoard (board_answer b m Swept)

-- the role is set, and the sweep follows
abbrev pub role_given : World → Seen → Option ℕ → Option SeenBoard → Option Role → ℕ → Outcome
role_given w seen None b role m = record { world = w; answer = Err UnknownCaller }
role_given w seen (Some caller) None role m = record { world = w; answer = Err NoBoard }
role_given w seen (Some caller) (Some b) role m =
    given (least (role_refusals seen b role)) w
    (with_role w (sweep b.board m) (person_number seen.other) role) (role_answer b.board m)

-- the first person alone takes boards
-- Rule: the first person alone takes boards. Refused as NotAllowed. Tried by board_taken.
abbrev pub take_refusals : ℕ → List (Option Refusal)
take_refusals caller = where_holds NotAllowed (not (caller == 1)) ∷ []

-- the caller owns the board, and the sweep follows
abbrev pub taken : World → Option ℕ → Option SeenBoard → ℕ → Outcome
taken w None b m = record { world = w; answer = Err UnknownCaller }
taken w (Some caller) None m = record { world = w; answer = Err NoBoard }
taken w (Some caller) (Some b) m =
    given (least (take_refusals caller)) w
    (with_role w (sweep b.board m) caller (Some Owner)) (role_answer b.board m)

-- a command at a moment, by what it looks at
abbrev pub apply_seen : World → Seen → Command → ℕ → Outcome
apply_seen w seen (command.NewPerson name key) m = new_person w seen seen.caller name key
apply_seen w seen (command.NewBoard title) m = new_board w seen seen.caller title
apply_seen w seen (command.OwnKey old new) m = own_key w seen.own old new
apply_seen w seen (command.SetKey name key) m = key_given w seen seen.caller name key
apply_seen w seen (command.SetRole n name role) m =
    role_given w seen seen.caller seen.board role m
apply_seen w seen (command.Take n) m = taken w seen.caller seen.board m
apply_seen w seen (command.OnBoard n c) m = on_board w seen c m

-- a person's command at a moment
abbrev pub apply : World → List ℕ → Command → ℕ → Outcome
apply w name c m = apply_seen w (seen_of w name c) c m

-- the decision's answer is the outcome's, and its changes make of the world the outcome's
pub record IsDecision (w : World) (d : Decision) (o : Outcome) : Type 0 where
  pub answer : d.answer ≡ o.answer
  pub world : changed w d.changes ≡ o.world
