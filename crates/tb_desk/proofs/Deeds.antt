-- The deed of a command is on a board that is there afterwards, and about a task that this board has.
use Rattle.std.proofs.Common.{◌≡◌, ℕ, ◌+◌, ◌<◌, ◌≤◌, ◌==◌, Bool, true, false, List, [], ◌∷◌, Option, Some, None, Result, Ok, Err, find, length, map, refl, sym, ◌∙◌, ap, subst, arith, inl, inr}
use Rattle.std.specs.Prelude.{IfSome, IsSome, MatchOption, if◌then◌else◌}
use Rattle.std.proofs.lemmas.Bool.{cases_Bool, eq-eqb}
use Rattle.std.proofs.lemmas.List.{length-append, length-map}
use Rattle.tb_task.specs.declared.task.Task.{Task}
use Rattle.tb_board.specs.declared.board.Board.{Board}
use Rattle.tb_board.specs.declared.world.Role.{Role}
use Rattle.tb_board.specs.declared.world.World.{World}
use Rattle.tb_board.specs.Board.{wake, with_task}
use Rattle.tb_board.specs.Changing.{change_board}
use Rattle.tb_board.specs.Extends.{Extends, ExtendsBoard, ExtendsTask, IsFrontOf}
use Rattle.tb_board.specs.First.{IsFirst, IsNone}
use Rattle.tb_board.specs.Tasks.{ids, woken}
use Rattle.tb_board.specs.World.{find_board, has_number, number_of, role_of}
use Rattle.tb_board.proofs.Places.{place}
use Rattle.tb_board.proofs.Worlds.{number_found}
use Rattle.tb_sweep.specs.Sweeping.{sweep}
use Rattle.tb_sweep.proofs.Extending.{extends-sweep}
use Rattle.tb_core.specs.declared.command.Answer.{Answer}
use Rattle.tb_core.specs.declared.command.AnswerDetail.{AnswerDetail}
use Rattle.tb_core.specs.declared.command.BoardCommand.TheVariants as on
use Rattle.tb_core.specs.declared.command.Command.{Command}
use Rattle.tb_core.specs.declared.command.Command.TheVariants as command
use Rattle.tb_core.specs.declared.look.SeenBoard.{SeenBoard}
use Rattle.tb_core.specs.declared.refusal.Refusal.{Refusal}
use Rattle.tb_core.specs.Add.{add_refusals, entered, entered_id}
use Rattle.tb_core.specs.declared.command.AnswerDetail.TheVariants.{Added}
use Rattle.tb_core.specs.Allowed.{allows}
use Rattle.tb_core.specs.Apply.{answered, applied, apply, board_for, board_seen, board_taken, decided, if_allowed, seen_with, taking_role}
use Rattle.tb_core.specs.Outcomes.{Outcome}
use Rattle.tb_core.specs.Refusals.{least, unless_refused}
use Rattle.tb_core.proofs.Extending.{extends}
use Rattle.tb_task.specs.declared.incoming.Incoming.{Incoming}
use Rattle.tb_deeds.specs.declared.deed.Deed.{Deed}
use Rattle.tb_deeds.specs.declared.kind.DeedKind.{DeedKind}
use Rattle.tb_deeds.specs.declared.kind.DeedKind.TheVariants as kind
use Rattle.tb_deeds.specs.Deeds.{deed_about, deed_by, deed_of, done_on, is_swept, place_named}
use Rattle.tb_calls.specs.Keep.{HasPlace, IsDeedIn}

-- ---- a board that stays

module _ (n : ℕ) where
  abbrev IsLater : List Board → Board → Type 0
  IsLater bs x = (y : Board) × (find (has_number n) bs ≡ Some y) × ExtendsBoard x y

  later : (ws bs : List Board) (x : Board) → IsFrontOf ExtendsBoard ws bs → find (has_number n) ws ≡ Some x → IsLater bs x
  later [] bs x front found = absurd (cc)
  later (w ∷ ws) [] x front found = absurd front
  later (w ∷ ws) (b ∷ bs) x front found =
      elim (cases_Bool (has_number n w)) [
        | inl here ↦
            let first : Some w ≡ Some x = rw here at found in
            let same : w ≡ x = cc in
            let there : has_number n b ≡ true = rw front.0.number here in
            (b, rw there refl, subst (λ (y : Board). ExtendsBoard y b) same front.0)
        | inr other ↦
            let rest : find (has_number n) ws ≡ Some x = rw other at found in
            let past : has_number n b ≡ false = rw front.0.number other in
            rw past (later ws bs x front.1 rest)
      ]

front_length : (ts us : List Task) → IsFrontOf ExtendsTask ts us → length ts ≤ length us
front_length [] us front = omega arith
front_length (t ∷ ts) [] front = absurd front
front_length (t ∷ ts) (u ∷ us) front = omega (arith, front_length ts us front.1)

-- the place of a deed is one of the board's tasks
abbrev IsWithin : Board → Option ℕ → Type 0
IsWithin b at = IfSome at (λ n. n < length b.tasks)

module _ (w : World) (b y : Board) (kind : DeedKind) (found : find_board w b.number ≡ Some y) (longer : length b.tasks ≤ length y.tasks) where
  has_place : (at : Option ℕ) → IsWithin b at → IfSome at (HasPlace w b.number)
  has_place None within = tt
  has_place (Some at) within = subst (λ o. IfSome o (λ (c : Board). at < length c.tasks)) (sym found) (omega (arith, within, longer))

  in_later : (at : Option ℕ) → IsWithin b at → IsDeedIn w (done_on b kind at)
  in_later at within = record { board = subst IsSome (sym found) refl; place = has_place at within }

stays : (w v : World) (b : Board) (kind : DeedKind) (at : Option ℕ) → Extends w v → find_board w b.number ≡ Some b → IsWithin b at → IsDeedIn v (done_on b kind at)
stays w v b kind at front found within =
    let is = later b.number w.boards v.boards b front.boards found in
    in_later v b is.0 kind is.1 (front_length b.tasks is.0.tasks is.2.tasks) at within

-- ---- places of tasks

within_list : (is : List ℕ) (id : ℕ) (o : Option ℕ) → MatchOption o (IsNone (λ i. i == id) is) (IsFirst (λ i. i == id) is) → IfSome o (λ at. at < length is)
within_list is id None none = tt
within_list is id (Some at) first = first.within

named_within : (b : Board) (id : ℕ) → IsWithin b (place_named b id)
named_within b id =
    subst (λ n. IfSome (place_named b id) (λ at. at < n)) (length-map b.tasks (λ (t : Task). t.id)) (within_list (ids b.tasks) id (place_named b id) (place (λ i. i == id) (ids b.tasks)))

-- ---- deeds about what stays

-- what an accepted command did on a board, where it put no task by its name
abbrev IsIn : World → Option Deed → Type 0
IsIn w deed = IfSome deed (IsDeedIn w)

module _ (w v : World) (front : Extends w v) (b : Board) (found : find_board w b.number ≡ Some b) where
  swept_in : (swept : Bool) → IsIn v (if swept then Some (done_on b kind.Sweep None) else None)
  swept_in true = stays w v b kind.Sweep None front found tt
  swept_in false = tt

abbrev AreFound : World → Option SeenBoard → Type 0
AreFound w seen = IfSome seen (λ (s : SeenBoard). find_board w s.board.number ≡ Some s.board)

-- the deed by what was seen, where each deed about a board that was seen is in the later world
by_seen : (w v : World) (seen : Option SeenBoard) (c : Command) (m : ℕ) (r : Result Answer Refusal) → AreFound w seen
    → ((b : Board) (added : ℕ) → find_board w b.number ≡ Some b → IsIn v (deed_about b c m added)) → IsIn v (deed_by seen c m r)
by_seen w v seen c m (Err refusal) found each = tt
by_seen w v None c m (Ok a) found each = tt
by_seen w v (Some s) c m (Ok a) found each = each s.board _ found

seen_found : (w : World) (n : ℕ) (role : Option Role) (o : Option Board) → find_board w n ≡ o → AreFound w (seen_with role o)
seen_found w n None o is = tt
seen_found w n (Some role) None is = tt
seen_found w n (Some role) (Some b) is = ap (find_board w) (number_found n w.boards b is) ∙ is

found_for : (w : World) (caller n : Option ℕ) → AreFound w (board_for w caller n)
found_for w None n = tt
found_for w (Some caller) None = tt
found_for w (Some caller) (Some n) = seen_found w n (role_of w n caller) (find_board w n) refl

found_taken : (w : World) (caller : Option ℕ) (n : ℕ) → AreFound w (board_taken w caller n)
found_taken w None n = tt
found_taken w (Some caller) n = seen_found w n (taking_role w n caller) (find_board w n) refl

-- ---- a task that is added

found_put : (n : ℕ) (y : Board) (bs : List Board) (x : Board) → y.number ≡ n → find (has_number n) bs ≡ Some x → find (has_number n) (change_board n (λ _. y) bs) ≡ Some y
found_put n y [] x is found = absurd (cc)
found_put n y (b ∷ bs) x is found =
    elim (cases_Bool (has_number n b)) [
      | inl here ↦ let own : has_number n y ≡ true = eq-eqb y.number n is in rw (here, own) refl
      | inr other ↦ let rest : find (has_number n) bs ≡ Some x = rw other at found in rw (other, other) (found_put n y bs x is rest)
    ]

module _ (w : World) (b : Board) (role : Role) (n : ℕ) (i : Incoming) (m : ℕ) (found : find_board w b.number ≡ Some b) where
  abbrev seen_as : Option SeenBoard
  seen_as = Some (record { board = b; role = role })

  abbrev AddedIn : Outcome → Type 0
  AddedIn o = IsIn o.world (deed_by seen_as (command.OnBoard n (on.Add i)) m o.answer)

  module _ (t : Task) (detail : AnswerDetail) where
    abbrev entered_on : Board
    entered_on = with_task (wake b m) t

    abbrev swept_on_all : Board
    swept_on_all = sweep entered_on m

    put_there : find_board (record w { boards = change_board swept_on_all.number (λ _. swept_on_all) w.boards }) b.number ≡ Some swept_on_all
    put_there =
        let number : swept_on_all.number ≡ b.number = (extends-sweep entered_on m).number in
        subst (λ k. find (has_number b.number) (change_board k (λ _. swept_on_all) w.boards) ≡ Some swept_on_all) (sym number) (found_put b.number swept_on_all w.boards b number found)

    room : length b.tasks < length swept_on_all.tasks
    room =
        let woken_length : length (map (woken m) b.tasks) ≡ length b.tasks = length-map b.tasks (woken m) in
        let one_more : length entered_on.tasks ≡ length (map (woken m) b.tasks) + 1 = length-append (map (woken m) b.tasks) (t ∷ []) in
        let still = front_length entered_on.tasks swept_on_all.tasks (extends-sweep entered_on m).tasks in
        omega (arith, woken_length, one_more, still)

    unless_in : (o : Option Refusal) (allowed : Bool) → AddedIn (applied w (if_allowed allowed (answered m (unless_refused o entered_on detail))))
    unless_in o false = tt
    unless_in (Some refusal) true = tt
    unless_in None true =
        record {
          board = subst IsSome (sym put_there) refl;
          place = subst (λ o. IfSome o (λ (c : Board). length b.tasks < length c.tasks)) (sym put_there) room;
        }

added_seen : (w : World) (caller : Option ℕ) (seen : Option SeenBoard) (n : ℕ) (i : Incoming) (m : ℕ) → AreFound w seen
    → IsIn (applied w (decided caller seen (on.Add i) m)).world (deed_by seen (command.OnBoard n (on.Add i)) m (applied w (decided caller seen (on.Add i) m)).answer)
added_seen w None seen n i m found = tt
added_seen w (Some caller) None n i m found = tt
added_seen w (Some caller) (Some s) n i m found =
    unless_in w s.board s.role n i m found (entered (wake s.board m) i m) (Added (entered_id (wake s.board m) i) i.dropped) (least (add_refusals (wake s.board m) i)) (allows s.role (on.Add i))

-- ---- all commands

module _ (w : World) (name : List ℕ) (m : ℕ) where
  abbrev IsDone : Command → Type 0
  IsDone c = IsIn (apply w name c m).world (deed_of w name c m)

  -- a command that puts no task of its own
  other_in : (c : Command) → AreFound w (board_seen w (number_of w name) c)
      → ((v : World) (front : Extends w v) (b : Board) (added : ℕ) → find_board w b.number ≡ Some b → IsIn v (deed_about b c m added)) → IsDone c
  other_in c found each =
      by_seen w (apply w name c m).world (board_seen w (number_of w name) c) c m (apply w name c m).answer found
      (λ b added there. each (apply w name c m).world (extends w name c m) b added there)

  pub deed_in : (c : Command) → IsDone c
  deed_in (command.NewPerson p k) = other_in (command.NewPerson p k) (found_for w (number_of w name) None) (λ v front b added there. tt)
  deed_in (command.NewBoard title) = other_in (command.NewBoard title) (found_for w (number_of w name) None) (λ v front b added there. tt)
  deed_in (command.OwnKey old new) = other_in (command.OwnKey old new) (found_for w (number_of w name) None) (λ v front b added there. tt)
  deed_in (command.SetKey p k) = other_in (command.SetKey p k) (found_for w (number_of w name) None) (λ v front b added there. tt)
  deed_in (command.SetRole n p role) =
      other_in (command.SetRole n p role) (found_for w (number_of w name) (Some n)) (λ v front b added there. stays w v b kind.Role None front there tt)
  deed_in (command.Take n) = other_in (command.Take n) (found_taken w (number_of w name) n) (λ v front b added there. stays w v b kind.Take None front there tt)
  deed_in (command.OnBoard n (on.Add i)) = added_seen w (number_of w name) (board_for w (number_of w name) (Some n)) n i m (found_for w (number_of w name) (Some n))
  deed_in (command.OnBoard n (on.OnTask id a)) =
      other_in (command.OnBoard n (on.OnTask id a)) (found_for w (number_of w name) (Some n))
      (λ v front b added there. stays w v b _ (place_named b id) front there (named_within b id))
  deed_in (command.OnBoard n (on.Modify id edits)) =
      other_in (command.OnBoard n (on.Modify id edits)) (found_for w (number_of w name) (Some n))
      (λ v front b added there. stays w v b _ (place_named b id) front there (named_within b id))
  deed_in (command.OnBoard n (on.Depend id other)) =
      other_in (command.OnBoard n (on.Depend id other)) (found_for w (number_of w name) (Some n))
      (λ v front b added there. stays w v b _ (place_named b id) front there (named_within b id))
  deed_in (command.OnBoard n (on.Undepend id other)) =
      other_in (command.OnBoard n (on.Undepend id other)) (found_for w (number_of w name) (Some n))
      (λ v front b added there. stays w v b _ (place_named b id) front there (named_within b id))
  deed_in (command.OnBoard n (on.SetAhead ahead)) =
      other_in (command.OnBoard n (on.SetAhead ahead)) (found_for w (number_of w name) (Some n)) (λ v front b added there. stays w v b _ None front there tt)
  deed_in (command.OnBoard n (on.Retitle title)) =
      other_in (command.OnBoard n (on.Retitle title)) (found_for w (number_of w name) (Some n)) (λ v front b added there. stays w v b _ None front there tt)
  deed_in (command.OnBoard n on.Sweep) =
      other_in (command.OnBoard n on.Sweep) (found_for w (number_of w name) (Some n)) (λ v front b added there. swept_in w v front b there (is_swept b m added))
  deed_in (command.OnBoard n (on.Import tasks)) =
      other_in (command.OnBoard n (on.Import tasks)) (found_for w (number_of w name) (Some n)) (λ v front b added there. stays w v b _ None front there tt)
