-- A decision is what applying its command gives.
use Rattle.std.proofs.Common.{◌≡◌, ℕ, ◌==◌, true, false, List, [], ◌∷◌, Option, Some, None, Ok, is_none, find, refl, sym, ◌∙◌, ap, subst}
use Rattle.tb_board.specs.declared.board.Board.{Board}
use Rattle.tb_board.specs.declared.change.Change.TheVariants as change
use Rattle.tb_core.specs.declared.command.Answer.TheVariants.{OnBoard}
use Rattle.tb_core.specs.declared.command.Command.{Command}
use Rattle.tb_core.specs.declared.command.Command.TheVariants as Commands
use Rattle.tb_core.specs.declared.command.BoardCommand.{BoardCommand}
use Rattle.tb_core.specs.declared.deciding.Accepted.{Accepted}
use Rattle.tb_core.specs.declared.deciding.Decision.{Decision}
use Rattle.tb_core.specs.declared.look.Seen.{Seen}
use Rattle.tb_core.specs.declared.look.SeenBoard.{SeenBoard}
use Rattle.tb_core.specs.declared.look.SeenPerson.{SeenPerson}
use Rattle.tb_board.specs.declared.world.Role.{Role}
use Rattle.tb_board.specs.declared.world.Role.TheVariants.{Owner}
use Rattle.tb_board.specs.declared.world.World.{World}
use Rattle.tb_core.specs.Allowed.{allows}
use Rattle.tb_core.specs.Apply.{apply, board_for, board_seen, board_taken, decided, on_board, outcome, role_answer, role_given, role_refusals, take_refusals, taken, taking_role, with_role, seen_of, seen_with, IsDecision}
use Rattle.tb_sweep.specs.Sweeping.{sweep}
use Rattle.tb_sweep.proofs.Adding.{number-sweep}
use Rattle.tb_board.specs.Changing.{change_board, changed, replayed}
use Rattle.tb_core.specs.Deciding.{IsAccepted}
use Rattle.tb_core.specs.Giving.{IsRoleDecision}
use Rattle.tb_core.specs.Outcomes.{given}
use Rattle.tb_core.specs.Refusals.{least}
use Rattle.tb_core.specs.Owners.{leaves_none, person_number}
use Rattle.tb_board.specs.Roles.{set_role}
use Rattle.tb_board.specs.World.{has_number, find_board, is_owner, number_of, role_of}
use Rattle.tb_board.proofs.Worlds.{changed-append, changed-draft}

found_with : (role : Option Role) (b : Option Board) (found : SeenBoard) → seen_with role b ≡ Some found → b ≡ Some found.board
found_with None b found h = absurd (cc)
found_with (Some role) None found h = absurd (cc)
found_with (Some role) (Some b) found h = ap (board_in b) h
  where
    board_in : Board → Option SeenBoard → Option Board
    board_in b None = Some b
    board_in b (Some s) = Some s.board

-- the board that is seen is the first with the number that the command names
stands_there : (w : World) (caller n : Option ℕ) (found : SeenBoard) → board_for w caller n ≡ Some found
    → (number : ℕ) × (find (has_number number) w.boards ≡ Some found.board)
stands_there w None n found h = absurd (cc)
stands_there w (Some caller) None found h = absurd (cc)
stands_there w (Some caller) (Some n) found h = (n, found_with (role_of w n caller) (find_board w n) found h)

stands_taken : (w : World) (caller : Option ℕ) (n : ℕ) (found : SeenBoard) → board_taken w caller n ≡ Some found
    → (number : ℕ) × (find (has_number number) w.boards ≡ Some found.board)
stands_taken w None n found h = absurd (cc)
stands_taken w (Some caller) n found h = (n, found_with (taking_role w n caller) (find_board w n) found h)

there : (w : World) (name : List ℕ) (c : Command) (found : SeenBoard) → board_seen w (number_of w name) c ≡ Some found
    → (number : ℕ) × (find (has_number number) w.boards ≡ Some found.board)
there w name (Commands.NewPerson p k) found h = stands_there w (number_of w name) None found h
there w name (Commands.NewBoard title) found h = stands_there w (number_of w name) None found h
there w name (Commands.OwnKey old new) found h = stands_there w (number_of w name) None found h
there w name (Commands.SetKey other key) found h = stands_there w (number_of w name) None found h
there w name (Commands.SetRole n other role) found h = stands_there w (number_of w name) (Some n) found h
there w name (Commands.Take n) found h = stands_taken w (number_of w name) n found h
there w name (Commands.OnBoard n c) found h = stands_there w (number_of w name) (Some n) found h

-- it is so of the board that the command looks at
is_there : (w : World) (seen : Seen) (name : List ℕ) (c : Command) (found : SeenBoard) → seen ≡ seen_of w name c → seen.board ≡ Some found
    → (number : ℕ) × (find (has_number number) w.boards ≡ Some found.board)
is_there w seen name c found is board = there w name c found (ap (λ (s : Seen). s.board) (sym is) ∙ board)

on_known : (caller : Option ℕ) (found : SeenBoard) (c : BoardCommand) (m : ℕ) → is_none caller ≡ false → allows found.role c ≡ true
    → decided caller (Some found) c m ≡ outcome found.board c m
on_known None found c m h allowed = absurd (cc)
on_known (Some caller) found c m h allowed = rw allowed refl

pub is_accepted : (w : World) (seen : Seen) (name : List ℕ) (n : ℕ) (c : BoardCommand) (m : ℕ) (found : SeenBoard) (a : Accepted)
    → seen ≡ seen_of w name (Commands.OnBoard n c) → is_none seen.caller ≡ false → seen.board ≡ Some found → allows found.role c ≡ true → IsAccepted found.board c m a
    → IsDecision w (record { changes = a.changes; answer = Ok (OnBoard a.answer) }) (on_board w seen c m)
is_accepted w seen name n c m found a is known board allowed accepts =
    let at = is_there w seen name (Commands.OnBoard n c) found is board in
    let later = replayed found.board a.changes in
    let here : decided seen.caller seen.board c m ≡ Ok (later, a.answer)
    = ap (λ (b : Option SeenBoard). decided seen.caller b c m) board ∙ on_known seen.caller found c m known allowed ∙ accepts.gives in
    rw here (record { answer = refl; world = changed-draft w at.0 found.board (record { board = later; changes = a.changes }) at.1 accepts.made })

role_known : (w : World) (seen : Seen) (caller : Option ℕ) (found : SeenBoard) (role : Option Role) (m : ℕ) → is_none caller ≡ false
    → role_given w seen caller (Some found) role m
    ≡ given (least (role_refusals seen found role)) w (with_role w (sweep found.board m) (person_number seen.other) role) (role_answer found.board m)
role_known w seen None found role m h = absurd (cc)
role_known w seen (Some caller) found role m h = refl

-- the changes of the sweep and then the role make the world in which it is set
role_world : (w : World) (number : ℕ) (b : Board) (person : ℕ) (role : Option Role) (m : ℕ) (d : Decision) → find (has_number number) w.boards ≡ Some b
    → IsRoleDecision b person role m d → changed w d.changes ≡ with_role w (sweep b m) person role
role_world w number b person role m d found decides =
    let draft = decides.draft in
    let woke = changed-draft w number b draft found decides.made in
    ap (changed w) decides.changes ∙ changed-append w draft.changes (change.SetRole b.number person role ∷ [])
    ∙ ap (λ (v : World). changed v (change.SetRole b.number person role ∷ [])) woke
    ∙ ap (λ (x : Board). record w { boards = change_board x.number (λ _. x) w.boards; roles = set_role w.roles b.number person role }) decides.swept
    ∙ ap (λ n. record w { boards = change_board (sweep b m).number (λ _. sweep b m) w.boards; roles = set_role w.roles n person role }) (sym (number-sweep b m))

-- the role is set, and the sweep follows
pub is_role : (w : World) (seen : Seen) (name : List ℕ) (n : ℕ) (other : List ℕ) (role : Option Role) (m : ℕ) (found : SeenBoard) (p : SeenPerson) (d : Decision)
    → seen ≡ seen_of w name (Commands.SetRole n other role) → is_none seen.caller ≡ false → seen.board ≡ Some found → seen.other ≡ Some p
    → is_owner found.role ≡ true → leaves_none (Some p) role seen.owners ≡ false → IsRoleDecision found.board p.number role m d
    → IsDecision w d (role_given w seen seen.caller seen.board role m)
is_role w seen name n other role m found p d is known board person owner stays decides =
    let at = is_there w seen name (Commands.SetRole n other role) found is board in
    let accepted : least (role_refusals seen found role) ≡ None = rw (owner, person, stays) refl in
    let here : role_given w seen seen.caller seen.board role m
    ≡ given (least (role_refusals seen found role)) w (with_role w (sweep found.board m) (person_number seen.other) role) (role_answer found.board m)
    = ap (λ (b : Option SeenBoard). role_given w seen seen.caller b role m) board ∙ role_known w seen seen.caller found role m known in
    let number : person_number seen.other ≡ p.number = ap person_number person in
    rw (here, accepted, number)
    (record {
      answer = decides.answer;
      world = role_world w at.0 found.board p.number role m d at.1 decides;
    })

pub role_applies : (w : World) (seen : Seen) (name : List ℕ) (n : ℕ) (other : List ℕ) (role : Option Role) (m : ℕ) (d : Decision)
    → seen ≡ seen_of w name (Commands.SetRole n other role) → IsDecision w d (role_given w seen seen.caller seen.board role m)
    → IsDecision w d (apply w name (Commands.SetRole n other role) m)
role_applies w seen name n other role m d is decides = subst (λ (s : Seen). IsDecision w d (role_given w s s.caller s.board role m)) is decides

-- the first person owns the board, and the sweep follows
pub is_taken : (w : World) (seen : Seen) (name : List ℕ) (n : ℕ) (m caller : ℕ) (found : SeenBoard) (d : Decision)
    → seen ≡ seen_of w name (Commands.Take n) → seen.caller ≡ Some caller → seen.board ≡ Some found → (caller == 1) ≡ true
    → IsRoleDecision found.board caller (Some Owner) m d → IsDecision w d (taken w seen.caller seen.board m)
is_taken w seen name n m caller found d is known board first decides =
    let at = is_there w seen name (Commands.Take n) found is board in
    let accepted : least (take_refusals caller) ≡ None = rw first refl in
    let here : taken w seen.caller seen.board m
    ≡ given (least (take_refusals caller)) w (with_role w (sweep found.board m) caller (Some Owner)) (role_answer found.board m)
    = ap (λ (k : Option ℕ). taken w k seen.board m) known ∙ ap (λ (b : Option SeenBoard). taken w (Some caller) b m) board in
    rw (here, accepted) (record { answer = decides.answer; world = role_world w at.0 found.board caller (Some Owner) m d at.1 decides })

pub take_applies : (w : World) (seen : Seen) (name : List ℕ) (n m : ℕ) (d : Decision)
    → seen ≡ seen_of w name (Commands.Take n) → IsDecision w d (taken w seen.caller seen.board m)
    → IsDecision w d (apply w name (Commands.Take n) m)
take_applies w seen name n m d is decides = subst (λ (s : Seen). IsDecision w d (taken w s.caller s.board m)) is decides
