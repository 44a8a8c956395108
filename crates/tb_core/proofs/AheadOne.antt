-- Where each board looks one ahead and nobody is a reader, commands do what they did before boards could look ahead.
use Rattle.std.proofs.Common.{◌≡◌, ℕ, ◌+◌, ◌-◌, Bool, true, false, true≢false, List, [], ◌∷◌, Option, Some, None, IfOk, Result, Ok, Err, length, find, refl, sym, ◌∙◌, ap, subst, inl, inr}
use Rattle.std.specs.List.{AllByRecursion}
use Rattle.std.specs.Option.{option_map}
use Rattle.std.proofs.lemmas.Bool.{cases_Bool}
use Rattle.tb_task.specs.declared.incoming.Incoming.{Incoming}
use Rattle.tb_board.specs.declared.board.Board.{Board}
use Rattle.tb_board.specs.declared.world.Role.{Role}
use Rattle.tb_board.specs.declared.world.Role.TheVariants.{Owner}
use Rattle.tb_board.specs.declared.world.RoleOn.{RoleOn}
use Rattle.tb_board.specs.declared.world.World.{World}
use Rattle.tb_board.specs.Board.{wake}
use Rattle.tb_board.specs.Roles.{set_role}
use Rattle.tb_board.specs.World.{find_board, has_number, is_role_of, may_change, number_of, role_of}
use Rattle.tb_board.proofs.Goodness.{all_push}
use Rattle.tb_import.specs.declared.refusal.ImportRefusal.{ImportRefusal}
use Rattle.tb_import.specs.Entering.{with_all, with_new}
use Rattle.tb_import.specs.Import.{board_after, counts_after, with_masks}
use Rattle.tb_import.specs.News as import_new
use Rattle.tb_import.specs.Refusal as import
use Rattle.tb_sweep.specs.AtOnce.{sweep_at_once}
use Rattle.tb_sweep.specs.Sweeping.{more, sweep}
use Rattle.tb_sweep.proofs.Adding.{ahead-sweep}
use Rattle.tb_sweep.proofs.AtOnce.{more_same, sweep_same}
use Rattle.tb_core.specs.declared.command.Answer.{Answer}
use Rattle.tb_core.specs.declared.command.Answer.TheVariants as Answers
use Rattle.tb_core.specs.declared.command.BoardAnswer.{BoardAnswer}
use Rattle.tb_core.specs.declared.command.Command.{Command}
use Rattle.tb_core.specs.declared.command.Command.TheVariants as Commands
use Rattle.tb_core.specs.declared.command.BoardCommand.{BoardCommand}
use Rattle.tb_core.specs.declared.command.BoardCommand.TheVariants.{Add, OnTask, Modify, Depend, Undepend, SetAhead, Retitle, Sweep, Import}
use Rattle.tb_core.specs.declared.command.Import.TheVariants.{Json, Todo}
use Rattle.tb_core.specs.declared.command.AnswerDetail.{AnswerDetail}
use Rattle.tb_core.specs.declared.command.AnswerDetail.TheVariants.{Swept}
use Rattle.tb_core.specs.declared.look.Seen.{Seen}
use Rattle.tb_core.specs.declared.refusal.Refusal.{Refusal}
use Rattle.tb_core.specs.Action.{action_refusals}
use Rattle.tb_core.specs.Add.{add_refusals}
use Rattle.tb_core.specs.AheadOne.{answers_by, is_first_command, is_first_role, is_first_board_command, world_by, AheadOne, IsFirstWorld, IsNoReader, LooksOne}
use Rattle.tb_core.specs.Allowed.{allows}
use Rattle.tb_core.specs.Apply.{answered, applied, apply, board_answer, board_for, decided, if_allowed, judged, outcome, role_answer, role_given, role_refusals, seen_of, seen_with, with_role}
use Rattle.tb_core.specs.AtOnce.{answer_at_once, answered_at_once, apply_at_once, decided_at_once, outcome_at_once, role_at_once}
use Rattle.tb_core.specs.Linking.{depend_refusals, undepend_refusals}
use Rattle.tb_core.specs.ImportJson.{told_of}
use Rattle.tb_core.specs.ImportTodo.{import_todo_refusals}
use Rattle.tb_core.specs.Modify.{modify_refusals}
use Rattle.tb_core.specs.Outcomes.{Outcome, given}
use Rattle.tb_core.specs.Owners.{person_number}
use Rattle.tb_core.specs.People.{board_refusals, new_board, new_person, person_refusals, with_new_board, with_person}
use Rattle.tb_core.specs.Refusals.{least, unless_refused}
use Rattle.tb_core.proofs.GoodRoles.{all-set}
use Rattle.tb_core.proofs.GoodWorlds.{all-changed, all-found}

-- ---- how far a board looks stays

looks_unless : (b c : Board) (o : Option Refusal) (detail : AnswerDetail) → c.ahead ≡ b.ahead → IfOk (unless_refused o c detail) (λ after. after.0.ahead ≡ b.ahead)
looks_unless b c None detail same = same
looks_unless b c (Some refusal) detail same = tt

looks_all : (first : Board) (new : List Incoming) (b : Board) (is : List Incoming) → (with_all first new b is).ahead ≡ b.ahead
looks_all first new b [] = refl
looks_all first new b (i ∷ is) = looks_all first new (with_new first new b i) is

looks_import : (b : Board) (is : List Incoming) (o : Option ImportRefusal)
    → IfOk (told_of (import.unless_refused o (board_after b is) (counts_after b is))) (λ after. after.0.ahead ≡ b.ahead)
looks_import b is None = looks_all b (import_new.new_tasks b is) (with_masks b (import_new.new_tasks b is)) (import_new.new_tasks b is)
looks_import b is (Some refusal) = tt

looks_judged : (b : Board) (c : BoardCommand) (m : ℕ) → is_first_board_command c ≡ true → IfOk (judged b c m) (λ after. after.0.ahead ≡ b.ahead)
looks_judged b (Add i) m command = looks_unless b _ (least (add_refusals b i)) _ refl
looks_judged b (OnTask id a) m command = looks_unless b _ (least (action_refusals b id a)) _ refl
looks_judged b (Modify id es) m command = looks_unless b _ (least (modify_refusals b id es m)) _ refl
looks_judged b (Depend id on) m command = looks_unless b _ (least (depend_refusals b id on)) _ refl
looks_judged b (Undepend id on) m command = looks_unless b _ (least (undepend_refusals b id on)) _ refl
looks_judged b (SetAhead ahead) m command = absurd (true≢false (sym command))
looks_judged b (Retitle title) m command = refl
looks_judged b Sweep m command = refl
looks_judged b (Import (Json is)) m command = looks_import b is (import.least (import.import_refusals b is))
looks_judged b (Import (Todo ts)) m command = looks_unless b _ (least (import_todo_refusals b ts)) _ refl

one_if_same : (n : ℕ) (r : Result (Board × AnswerDetail) Refusal) → IfOk r (λ after. after.0.ahead ≡ n) → n ≡ 1 → IfOk r (λ after. LooksOne after.0)
one_if_same n (Ok after) same one = same ∙ one
one_if_same n (Err refusal) same one = tt

one_judged : (b : Board) (c : BoardCommand) (m : ℕ) → is_first_board_command c ≡ true → LooksOne b → IfOk (judged (wake b m) c m) (λ after. LooksOne after.0)
one_judged b c m command one = one_if_same b.ahead (judged (wake b m) c m) (looks_judged (wake b m) c m command) one

one_answered : (m : ℕ) (r : Result (Board × AnswerDetail) Refusal) → IfOk r (λ after. LooksOne after.0) → IfOk (answered m r) (λ after. LooksOne after.0)
one_answered m (Ok after) one = ahead-sweep after.0 m ∙ one
one_answered m (Err refusal) one = tt

-- ---- a board that looks one ahead is answered by the first text

abbrev taken : Board → BoardAnswer → Result (Board × BoardAnswer) Refusal
taken b a = Ok (b, a)

abbrev answer_with : Board → Board → Bool → AnswerDetail → BoardAnswer
answer_with b swept more detail = record { board = b.number; added = length swept.tasks - length b.tasks; more = more; detail = detail }

answer_same : (b : Board) (m : ℕ) (detail : AnswerDetail) → LooksOne b → board_answer b m detail ≡ answer_at_once b m detail
answer_same b m detail one =
    ap (λ (s : Board). answer_with b s (more (sweep b m) m) detail) (sweep_same b m one) ∙ ap (λ q. answer_with b (sweep_at_once b m) q detail) (more_same b m one)

answered_same : (m : ℕ) (r : Result (Board × AnswerDetail) Refusal) → IfOk r (λ after. LooksOne after.0) → answered m r ≡ answered_at_once m r
answered_same m (Ok after) one =
    ap (λ (s : Board). taken s (board_answer after.0 m after.1)) (sweep_same after.0 m one)
    ∙ ap (taken (sweep_at_once after.0 m)) (answer_same after.0 m after.1 one)
answered_same m (Err refusal) one = refl

outcome_same : (b : Board) (c : BoardCommand) (m : ℕ) → is_first_board_command c ≡ true → LooksOne b → outcome b c m ≡ outcome_at_once b c m
outcome_same b c m command one = answered_same m (judged (wake b m) c m) (one_judged b c m command one)

-- ---- and so is each command, and leaves such a world

record IsSame (o p : Outcome) : Type 0 where
  same : o ≡ p
  first : IsFirstWorld o.world

applied_first : (w : World) (r : Result (Board × BoardAnswer) Refusal) → IsFirstWorld w → IfOk r (λ after. LooksOne after.0) → IsFirstWorld (applied w r).world
applied_first w (Ok after) first one = record { boards = all-changed LooksOne after.0.number after.0 w.boards first.boards one; roles = first.roles }
applied_first w (Err refusal) first one = first

role_found : (test : RoleOn → Bool) (rs : List RoleOn) (role : Role) → AllByRecursion IsNoReader rs → option_map (λ (r : RoleOn). r.role) (find test rs) ≡ Some role
    → may_change role ≡ true
role_found test [] role all h = absurd (cc)
role_found test (r ∷ rs) role all h =
    elim (cases_Bool (test r)) [
      | inl here ↦
          let found : Some r.role ≡ Some role = rw here at h in
          let is : r.role ≡ role = cc in
          subst (λ q. may_change q ≡ true) is all.0
      | inr other ↦
          let later : option_map (λ (r : RoleOn). r.role) (find test rs) ≡ Some role = rw other at h in
          role_found test rs role all.1 later
    ]

-- the command is for whoever isn't a reader
abbrev IsForMembers : BoardCommand → Type 0
IsForMembers c = (role : Role) → may_change role ≡ true → allows role c ≡ true

seen_same : (w : World) (caller n : ℕ) (own : Option Role) (o : Option Board) (c : BoardCommand) (m : ℕ) → IsFirstWorld w → is_first_board_command c ≡ true → IsForMembers c
    → role_of w n caller ≡ own → find_board w n ≡ o
    → IsSame (applied w (decided (Some caller) (seen_with own o) c m)) (applied w (decided_at_once (Some caller) (seen_with own o) c m))
seen_same w caller n None o c m first command lets known found = record { same = refl; first = first }
seen_same w caller n (Some role) None c m first command lets known found = record { same = refl; first = first }
seen_same w caller n (Some role) (Some x) c m first command lets known found =
    let one = all-found LooksOne (has_number n) w.boards x first.boards found in
    let may = role_found (is_role_of n caller) w.roles role first.roles known in
    let allowed : if_allowed (allows role c) (outcome x c m) ≡ outcome x c m = ap (λ q. if_allowed q (outcome x c m)) (lets role may) in
    record {
      same = ap (applied w) (allowed ∙ outcome_same x c m command one);
      first = subst (λ r. IsFirstWorld (applied w r).world) (sym allowed)
          (applied_first w (outcome x c m) first (one_answered m (judged (wake x m) c m) (one_judged x c m command one)));
    }

decided_same : (w : World) (caller n : Option ℕ) (c : BoardCommand) (m : ℕ) → IsFirstWorld w → is_first_board_command c ≡ true → IsForMembers c
    → IsSame (applied w (decided caller (board_for w caller n) c m)) (applied w (decided_at_once caller (board_for w caller n) c m))
decided_same w None n c m first command lets = record { same = refl; first = first }
decided_same w (Some caller) None c m first command lets = record { same = refl; first = first }
decided_same w (Some caller) (Some n) c m first command lets = seen_same w caller n (role_of w n caller) (find_board w n) c m first command lets refl refl

roles_set : (rs : List RoleOn) (n p : ℕ) (o : Option Role) → AllByRecursion IsNoReader rs → is_first_role o ≡ true → AllByRecursion IsNoReader (set_role rs n p o)
roles_set rs n p o all given =
    all-set IsNoReader rs n p o (λ r role is h. subst (λ q. is_first_role q ≡ true) is given) (λ role is. subst (λ q. is_first_role q ≡ true) is given) all

abbrev outcome_of : World → Result Answer Refusal → Outcome
outcome_of w answer = record { world = w; answer = answer }

given_same : (o : Option Refusal) (w v u : World) (a b : Answer) → IsFirstWorld w → v ≡ u → a ≡ b → IsFirstWorld v → IsSame (given o w v a) (given o w u b)
given_same None w v u a b first worlds answers later =
    record { same = ap (λ x. outcome_of x (Ok a)) worlds ∙ ap (λ x. outcome_of u (Ok x)) answers; first = later }
given_same (Some refusal) w v u a b first worlds answers later = record { same = refl; first = first }

role_seen_same : (w : World) (seen : Seen) (caller n : ℕ) (own : Option Role) (o : Option Board) (role : Option Role) (m : ℕ) → IsFirstWorld w → is_first_role role ≡ true
    → find_board w n ≡ o → IsSame (role_given w seen (Some caller) (seen_with own o) role m) (role_at_once w seen (Some caller) (seen_with own o) role m)
role_seen_same w seen caller n None o role m first given found = record { same = refl; first = first }
role_seen_same w seen caller n (Some own) None role m first given found = record { same = refl; first = first }
role_seen_same w seen caller n (Some own) (Some x) role m first given found =
    let one = all-found LooksOne (has_number n) w.boards x first.boards found in
    let person = person_number seen.other in
    given_same (least (role_refusals seen (record { board = x; role = own }) role)) w
    (with_role w (sweep x m) person role) (with_role w (sweep_at_once x m) person role)
    (role_answer x m) (Answers.OnBoard (answer_at_once x m Swept)) first
    (ap (λ (b : Board). with_role w b person role) (sweep_same x m one)) (ap (λ a. Answers.OnBoard a) (answer_same x m Swept one))
    (record {
      boards = all-changed LooksOne (sweep x m).number (sweep x m) w.boards first.boards (ahead-sweep x m ∙ one);
      roles = roles_set w.roles (sweep x m).number person role first.roles given;
    })

role_same : (w : World) (seen : Seen) (caller : Option ℕ) (n : ℕ) (role : Option Role) (m : ℕ) → IsFirstWorld w → is_first_role role ≡ true
    → IsSame (role_given w seen caller (board_for w caller (Some n)) role m) (role_at_once w seen caller (board_for w caller (Some n)) role m)
role_same w seen None n role m first given = record { same = refl; first = first }
role_same w seen (Some caller) n role m first given = role_seen_same w seen caller n (role_of w n caller) (find_board w n) role m first given refl

person_same : (w : World) (seen : Seen) (caller : Option ℕ) (p k : List ℕ) → IsFirstWorld w → IsSame (new_person w seen caller p k) (new_person w seen caller p k)
person_same w seen None p k first = record { same = refl; first = first }
person_same w seen (Some caller) p k first =
    let later = with_person w p k in
    given_same (least (person_refusals seen caller)) w later later (Answers.OfPerson p) (Answers.OfPerson p) first refl refl
    (record { boards = first.boards; roles = first.roles })

board_same : (w : World) (seen : Seen) (caller : Option ℕ) (title : List ℕ) → IsFirstWorld w → IsSame (new_board w seen caller title) (new_board w seen caller title)
board_same w seen None title first = record { same = refl; first = first }
board_same w seen (Some caller) title first =
    let number = seen.boards + 1 in
    let board : Board = record { number = number; title = title; tasks = []; gone = []; ahead = 1 } in
    let later = with_new_board w number caller title in
    given_same (least (board_refusals seen)) w later later (Answers.NewBoard number) (Answers.NewBoard number) first refl refl
    (record { boards = all_push LooksOne w.boards board first.boards refl; roles = roles_set w.roles number caller (Some Owner) first.roles refl })

command_same : (w : World) (name : List ℕ) (n : ℕ) (c : BoardCommand) (m : ℕ) → IsFirstWorld w → is_first_board_command c ≡ true
    → IsSame (apply w name (Commands.OnBoard n c) m) (apply_at_once w name (Commands.OnBoard n c) m)
command_same w name n (Add i) m first command = decided_same w (number_of w name) (Some n) (Add i) m first command (λ role may. may)
command_same w name n (OnTask id a) m first command = decided_same w (number_of w name) (Some n) (OnTask id a) m first command (λ role may. may)
command_same w name n (Modify id es) m first command = decided_same w (number_of w name) (Some n) (Modify id es) m first command (λ role may. may)
command_same w name n (Depend id on) m first command = decided_same w (number_of w name) (Some n) (Depend id on) m first command (λ role may. may)
command_same w name n (Undepend id on) m first command = decided_same w (number_of w name) (Some n) (Undepend id on) m first command (λ role may. may)
command_same w name n (SetAhead ahead) m first command = absurd (true≢false (sym command))
command_same w name n (Retitle title) m first command = absurd (true≢false (sym command))
command_same w name n Sweep m first command = decided_same w (number_of w name) (Some n) Sweep m first command (λ role may. may)
command_same w name n (Import tasks) m first command = decided_same w (number_of w name) (Some n) (Import tasks) m first command (λ role may. may)

step_same : (w : World) (name : List ℕ) (c : Command) (m : ℕ) → IsFirstWorld w → is_first_command c ≡ true → IsSame (apply w name c m) (apply_at_once w name c m)
step_same w name (Commands.NewPerson p k) m first command = person_same w (seen_of w name (Commands.NewPerson p k)) (number_of w name) p k first
step_same w name (Commands.NewBoard title) m first command = board_same w (seen_of w name (Commands.NewBoard title)) (number_of w name) title first
step_same w name (Commands.OwnKey old new) m first command = absurd (true≢false (sym command))
step_same w name (Commands.SetKey other key) m first command = absurd (true≢false (sym command))
step_same w name (Commands.Take n) m first command = absurd (true≢false (sym command))
step_same w name (Commands.SetRole n other role) m first command = role_same w (seen_of w name (Commands.SetRole n other role)) (number_of w name) n role m first command
step_same w name (Commands.OnBoard n c) m first command = command_same w name n c m first command

pub ahead_one : AheadOne
ahead_one w [] first all = (refl, refl)
ahead_one w (r ∷ rs) first all =
    let here = step_same w r.name r.command r.at first all.0 in
    let now = apply w r.name r.command r.at in
    let later = ahead_one now.world rs here.first all.1 in (
      ap (λ rest. now.answer ∷ rest) later.0 ∙ ap (λ (o : Outcome). o.answer ∷ answers_by apply_at_once o.world rs) here.same,
      later.1 ∙ ap (λ (o : Outcome). world_by apply_at_once o.world rs) here.same,
    )
