-- A command leaves what a world has.
use Rattle.std.proofs.Common.{◌≡◌, ℕ, ◌+◌, Bool, true, false, List, [], ◌∷◌, Option, Some, None, IfOk, Result, Ok, Err, find, refl, sym, ◌∙◌, subst, inl, inr}
use Rattle.std.proofs.lemmas.Bool.{cases_Bool}
use Rattle.tb_task.specs.declared.edit.Edit.{Edit}
use Rattle.tb_task.specs.declared.task.Task.{Task}
use Rattle.tb_board.specs.declared.board.Board.{Board}
use Rattle.tb_board.specs.declared.world.Person.{Person}
use Rattle.tb_board.specs.declared.world.Role.{Role}
use Rattle.tb_board.specs.declared.world.Role.TheVariants.{Owner}
use Rattle.tb_board.specs.declared.world.World.{World}
use Rattle.tb_board.specs.Board.{wake, with_task}
use Rattle.tb_board.specs.Tasks.{has_id}
use Rattle.tb_board.specs.Changing.{change_board}
use Rattle.tb_board.specs.Extends.{Extends, ExtendsBoard, ExtendsTask, IsFrontOf}
use Rattle.tb_board.specs.World.{find_board, has_number, number_of, role_of}
use Rattle.tb_board.proofs.Extending.{board-append, board-change, board-refl, board-retitle, board-trans, board-wake, extends-board, extends-refl, front-append, front-refl, people-append, people-refl, people-set_key}
use Rattle.tb_board.proofs.Worlds.{number_found}
use Rattle.tb_sweep.specs.Sweeping.{sweep}
use Rattle.tb_sweep.proofs.Extending.{extends-sweep}
use Rattle.tb_import.specs.declared.imported.ImportCounts.{ImportCounts}
use Rattle.tb_import.specs.declared.refusal.ImportRefusal.{ImportRefusal}
use Rattle.tb_import.specs.Refusal.{judged_import}
use Rattle.tb_import.proofs.Extending.{extends-import}
use Rattle.tb_core.specs.declared.action.Action.{Action}
use Rattle.tb_core.specs.declared.action.Action.TheVariants.{Done, Delete, Reopen, Start, Stop, Annotate, Denotate}
use Rattle.tb_core.specs.declared.command.Answer.{Answer}
use Rattle.tb_core.specs.declared.command.Answer.TheVariants as Answers
use Rattle.tb_core.specs.declared.command.BoardAnswer.{BoardAnswer}
use Rattle.tb_core.specs.declared.command.Command.TheVariants as Commands
use Rattle.tb_core.specs.declared.command.BoardCommand.{BoardCommand}
use Rattle.tb_core.specs.declared.command.BoardCommand.TheVariants.{Add, OnTask, Modify, Depend, Undepend, SetAhead, Retitle, Sweep, Import}
use Rattle.tb_core.specs.declared.command.Import.TheVariants.{Json, Todo}
use Rattle.tb_core.specs.declared.command.AnswerDetail.{AnswerDetail}
use Rattle.tb_core.specs.declared.look.Seen.{Seen}
use Rattle.tb_core.specs.declared.refusal.Refusal.{Refusal}
use Rattle.tb_core.specs.Action.{acted, action_refusals}
use Rattle.tb_core.specs.Add.{add_refusals, entered}
use Rattle.tb_core.specs.Allowed.{allows}
use Rattle.tb_core.specs.Apply.{answered, applied, board_for, board_taken, decided, if_allowed, judged, outcome, own_for, role_answer, role_given, role_refusals, seen_of, seen_with, take_refusals, taken, taking_role, with_role}
use Rattle.tb_core.specs.Linking.{depend_refusals, depends_on, linked, undepend_refusals, unlinked}
use Rattle.tb_core.specs.Edits.{modified}
use Rattle.tb_core.specs.GoodLaws.{AlwaysExtends}
use Rattle.tb_core.specs.ImportJson.{told_of}
use Rattle.tb_core.specs.ImportTodo.{import_todo_refusals, imported, new_tasks}
use Rattle.tb_core.specs.Keys.{key_given, key_refusals, own_key, own_refusals, with_key_of}
use Rattle.tb_core.specs.Modify.{modify_refusals}
use Rattle.tb_core.specs.Outcomes.{given}
use Rattle.tb_core.specs.Owners.{person_number}
use Rattle.tb_core.specs.People.{board_refusals, new_board, new_person, person_refusals, with_new_board, with_person}
use Rattle.tb_core.specs.Refusals.{least, unless_refused}
use Rattle.tb_core.proofs.SoundEdits.{is_edited_by}

-- ---- what a command makes of a board

acted_task : (m : ℕ) (a : Action) (t : Task) → ExtendsTask t (acted m a t)
acted_task m Done t = record { id = refl; parent = refl; imask = refl }
acted_task m Delete t = record { id = refl; parent = refl; imask = refl }
acted_task m Reopen t = record { id = refl; parent = refl; imask = refl }
acted_task m Start t = record { id = refl; parent = refl; imask = refl }
acted_task m Stop t = record { id = refl; parent = refl; imask = refl }
acted_task m (Annotate text) t = record { id = refl; parent = refl; imask = refl }
acted_task m (Denotate text) t = record { id = refl; parent = refl; imask = refl }

modified_task : (m : ℕ) (es : List Edit) (t : Task) → ExtendsTask t (modified m es t)
modified_task m es t = let left = is_edited_by es t in record { id = left.id; parent = left.parent; imask = left.imask }

linked_task : (m on : ℕ) (t : Task) → ExtendsTask t (linked m on t)
linked_task m on t =
    elim (cases_Bool (depends_on on t)) [
      | inl before ↦ rw before (record { id = refl; parent = refl; imask = refl })
      | inr new ↦ rw new (record { id = refl; parent = refl; imask = refl })
    ]

unless : (b c : Board) (o : Option Refusal) (detail : AnswerDetail) → ExtendsBoard b c → IfOk (unless_refused o c detail) (λ after. ExtendsBoard b after.0)
unless b c None detail extends = extends
unless b c (Some refusal) detail extends = tt

told_import : (b : Board) (r : Result (Board × ImportCounts) ImportRefusal) → IfOk r (λ after. ExtendsBoard b after.0) → IfOk (told_of r) (λ after. ExtendsBoard b after.0)
told_import b (Ok after) extends = extends
told_import b (Err refusal) extends = tt

extends_judged : (b : Board) (c : BoardCommand) (m : ℕ) → IfOk (judged b c m) (λ after. ExtendsBoard b after.0)
extends_judged b (Add i) m = unless b (with_task b (entered b i m)) (least (add_refusals b i)) _ (board-append b (with_task b (entered b i m)) (entered b i m ∷ []) refl refl)
extends_judged b (OnTask id a) m = unless b _ (least (action_refusals b id a)) _ (board-change b (has_id id) (acted m a) (acted_task m a))
extends_judged b (Modify id es) m = unless b _ (least (modify_refusals b id es m)) _ (board-change b (has_id id) (modified m es) (modified_task m es))
extends_judged b (Depend id on) m = unless b _ (least (depend_refusals b id on)) _ (board-change b (has_id id) (linked m on) (linked_task m on))
extends_judged b (Undepend id on) m =
    unless b _ (least (undepend_refusals b id on)) _ (board-change b (has_id id) (unlinked m on) (λ t. record { id = refl; parent = refl; imask = refl }))
extends_judged b (SetAhead ahead) m = record { number = refl; tasks = (board-refl b).tasks }
extends_judged b (Retitle title) m = board-retitle b title
extends_judged b Sweep m = board-refl b
extends_judged b (Import (Json is)) m = told_import b (judged_import b is) (extends-import b is)
extends_judged b (Import (Todo ts)) m = unless b (imported b ts) (least (import_todo_refusals b ts)) _ (board-append b (imported b ts) (new_tasks b ts) refl refl)

extends_answered : (b : Board) (m : ℕ) (r : Result (Board × AnswerDetail) Refusal) → IfOk r (λ after. ExtendsBoard b after.0) → IfOk (answered m r) (λ after. ExtendsBoard b after.0)
extends_answered b m (Ok after) extends = board-trans b after.0 (sweep after.0 m) extends (extends-sweep after.0 m)
extends_answered b m (Err refusal) extends = tt

first_awake : (b : Board) (m : ℕ) (r : Result (Board × BoardAnswer) Refusal) → IfOk r (λ after. ExtendsBoard (wake b m) after.0) → IfOk r (λ after. ExtendsBoard b after.0)
first_awake b m (Ok after) extends = board-trans b (wake b m) after.0 (board-wake b m) extends
first_awake b m (Err refusal) extends = tt

extends_outcome : (b : Board) (c : BoardCommand) (m : ℕ) → IfOk (outcome b c m) (λ after. ExtendsBoard b after.0)
extends_outcome b c m = first_awake b m (outcome b c m) (extends_answered (wake b m) m (judged (wake b m) c m) (extends_judged (wake b m) c m))

-- ---- what it makes of the world

-- the board stands in the place of the first of its number
in_place : (w : World) (n : ℕ) (x b : Board) → find (has_number n) w.boards ≡ Some x → ExtendsBoard x b → IsFrontOf ExtendsBoard w.boards (change_board b.number (λ _. b) w.boards)
in_place w n x b found extends =
    let number : b.number ≡ n = extends.number ∙ number_found n w.boards x found in
    subst (λ i. IsFrontOf ExtendsBoard w.boards (change_board i (λ _. b) w.boards)) (sym number) (extends-board w n x b found extends)

extends_applied : (w : World) (n : ℕ) (x : Board) (r : Result (Board × BoardAnswer) Refusal) → find (has_number n) w.boards ≡ Some x → IfOk r (λ after. ExtendsBoard x after.0)
    → Extends w (applied w r).world
extends_applied w n x (Ok after) found extends = record { people = people-refl w.people; boards = in_place w n x after.0 found extends }
extends_applied w n x (Err refusal) found extends = extends-refl w

extends_allowed : (w : World) (allowed : Bool) (r : Result (Board × BoardAnswer) Refusal) → Extends w (applied w r).world → Extends w (applied w (if_allowed allowed r)).world
extends_allowed w true r extends = extends
extends_allowed w false r extends = extends-refl w

extends_seen : (w : World) (caller n : ℕ) (role : Option Role) (o : Option Board) (c : BoardCommand) (m : ℕ) → find_board w n ≡ o
    → Extends w (applied w (decided (Some caller) (seen_with role o) c m)).world
extends_seen w caller n None o c m is = extends-refl w
extends_seen w caller n (Some role) None c m is = extends-refl w
extends_seen w caller n (Some role) (Some x) c m is =
    extends_allowed w (allows role c) (outcome x c m) (extends_applied w n x (outcome x c m) is (extends_outcome x c m))

extends_decided : (w : World) (caller n : Option ℕ) (c : BoardCommand) (m : ℕ) → Extends w (applied w (decided caller (board_for w caller n) c m)).world
extends_decided w None n c m = extends-refl w
extends_decided w (Some caller) None c m = extends-refl w
extends_decided w (Some caller) (Some n) c m = extends_seen w caller n (role_of w n caller) (find_board w n) c m refl

extends_given : (o : Option Refusal) (w v : World) (a : Answer) → Extends w v → Extends w (given o w v a).world
extends_given None w v a extends = extends
extends_given (Some refusal) w v a extends = extends-refl w

extends_role : (w : World) (seen : Seen) (caller n : ℕ) (own : Option Role) (o : Option Board) (role : Option Role) (m : ℕ) → find_board w n ≡ o
    → Extends w (role_given w seen (Some caller) (seen_with own o) role m).world
extends_role w seen caller n None o role m is = extends-refl w
extends_role w seen caller n (Some own) None role m is = extends-refl w
extends_role w seen caller n (Some own) (Some x) role m is =
    extends_given (least (role_refusals seen (record { board = x; role = own }) role)) w (with_role w (sweep x m) (person_number seen.other) role) (role_answer x m)
    (record { people = people-refl w.people; boards = in_place w n x (sweep x m) is (extends-sweep x m) })

extends_role_by : (w : World) (seen : Seen) (caller : Option ℕ) (n : ℕ) (role : Option Role) (m : ℕ) → Extends w (role_given w seen caller (board_for w caller (Some n)) role m).world
extends_role_by w seen None n role m = extends-refl w
extends_role_by w seen (Some caller) n role m = extends_role w seen caller n (role_of w n caller) (find_board w n) role m refl

extends_person : (w : World) (seen : Seen) (caller : Option ℕ) (p k : List ℕ) → Extends w (new_person w seen caller p k).world
extends_person w seen None p k = extends-refl w
extends_person w seen (Some caller) p k =
    extends_given (least (person_refusals seen caller)) w (with_person w p k) (Answers.OfPerson p)
    (record { people = people-append w.people (record { name = p; key = Some k } ∷ []); boards = front-refl ExtendsBoard board-refl w.boards })

extends_key : (w : World) (o : Option Refusal) (name : List ℕ) (key : Option (List ℕ)) (a : Answer) → Extends w (given o w (with_key_of w name key) a).world
extends_key w o name key a =
    extends_given o w (with_key_of w name key) a (record { people = people-set_key name key w.people; boards = front-refl ExtendsBoard board-refl w.boards })

extends_own : (w : World) (own : Option Person) (old new : List ℕ) → Extends w (own_key w own old new).world
extends_own w None old new = extends-refl w
extends_own w (Some p) old new = extends_key w (least (own_refusals p old)) p.name (Some new) (Answers.OfPerson p.name)

extends_set : (w : World) (seen : Seen) (caller : Option ℕ) (name : List ℕ) (key : Option (List ℕ)) → Extends w (key_given w seen caller name key).world
extends_set w seen None name key = extends-refl w
extends_set w seen (Some caller) name key = extends_key w (least (key_refusals seen caller)) name key (Answers.OfPerson name)

extends_taken : (w : World) (caller n : ℕ) (own : Option Role) (o : Option Board) (m : ℕ) → find_board w n ≡ o → Extends w (taken w (Some caller) (seen_with own o) m).world
extends_taken w caller n None o m is = extends-refl w
extends_taken w caller n (Some own) None m is = extends-refl w
extends_taken w caller n (Some own) (Some x) m is =
    extends_given (least (take_refusals caller)) w (with_role w (sweep x m) caller (Some Owner)) (role_answer x m)
    (record { people = people-refl w.people; boards = in_place w n x (sweep x m) is (extends-sweep x m) })

extends_taken_by : (w : World) (caller : Option ℕ) (n m : ℕ) → Extends w (taken w caller (board_taken w caller n) m).world
extends_taken_by w None n m = extends-refl w
extends_taken_by w (Some caller) n m = extends_taken w caller n (taking_role w n caller) (find_board w n) m refl

extends_new_board : (w : World) (seen : Seen) (caller : Option ℕ) (title : List ℕ) → Extends w (new_board w seen caller title).world
extends_new_board w seen None title = extends-refl w
extends_new_board w seen (Some caller) title =
    let number = seen.boards + 1 in
    let board : Board = record { number = number; title = title; tasks = []; gone = []; ahead = 1 } in
    extends_given (least (board_refusals seen)) w (with_new_board w number caller title) (Answers.NewBoard number)
    (record { people = people-refl w.people; boards = front-append ExtendsBoard board-refl w.boards (board ∷ []) })

pub extends : AlwaysExtends
extends w name (Commands.NewPerson p k) m = extends_person w (seen_of w name (Commands.NewPerson p k)) (number_of w name) p k
extends w name (Commands.NewBoard title) m = extends_new_board w (seen_of w name (Commands.NewBoard title)) (number_of w name) title
extends w name (Commands.OwnKey old new) m = extends_own w (own_for w name (Commands.OwnKey old new)) old new
extends w name (Commands.SetKey other key) m = extends_set w (seen_of w name (Commands.SetKey other key)) (number_of w name) other key
extends w name (Commands.Take n) m = extends_taken_by w (number_of w name) n m
extends w name (Commands.SetRole n other role) m = extends_role_by w (seen_of w name (Commands.SetRole n other role)) (number_of w name) n role m
extends w name (Commands.OnBoard n c) m = extends_decided w (number_of w name) (Some n) c m
