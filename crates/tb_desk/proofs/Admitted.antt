-- Why views are refused, and what their refusals are told.
use Rattle.std.proofs.Common.{◌≡◌, ◌≢◌, ◌⊎◌, ◌∙◌, ℕ, ◌+◌, ◌≤◌, ◌<◌, ◌==◌, ◌&&◌, ◌||◌, Bool, true, false, true≢false, List, [], ◌∷◌, find, length, Option, Some, None, Result, Ok, Err, option_map, refl, sym, ap, subst, inl, inr, arith}
use Rattle.std.specs.Prelude.{IsSome, MatchOption, if◌then◌else◌, is_some}
use Rattle.std.specs.List.{AllByRecursion, list_any, range_with_len}
use Rattle.std.proofs.lemmas.Bool.{cases_Bool, eqb-true, eqb-false}
use Rattle.tb_task.specs.declared.task.Task.{Task}
use Rattle.tb_board.specs.declared.board.Board.{Board}
use Rattle.tb_board.specs.declared.world.Role.{Role}
use Rattle.tb_board.specs.declared.world.RoleOn.{RoleOn}
use Rattle.tb_board.specs.declared.world.World.{World}
use Rattle.tb_board.specs.Board.{is_on}
use Rattle.tb_board.specs.First.{IsFirst, IsNone}
use Rattle.tb_board.specs.Tasks.{has_id, ids, place_in}
use Rattle.tb_board.specs.World.{find_board, has_key, has_number, is_role_of, key_of, number_of, role_of}
use Rattle.tb_board.proofs.Places.{place}
use Rattle.tb_history.specs.declared.page.Which.TheVariants as which
use Rattle.tb_calls.specs.Call.{State, unknown_caller}
use Rattle.tb_calls.specs.declared.view.View.{View}
use Rattle.tb_calls.specs.declared.view.View.TheVariants.{Export, History, HistoryFrom, HistoryOf, Listing, One, People, Todo}
use Rattle.tb_calls.specs.Roles.{people_for, people_on, role_on, where_some}
use Rattle.tb_core.specs.Apply.{board_for, seen_with}
use Rattle.tb_core.specs.GoodWorld.{IsGoodWorld, IsRoleIn, numbers}
use Rattle.tb_core.specs.declared.look.SeenBoard.{SeenBoard}
use Rattle.tb_core.specs.declared.refusal.Refusal.{Refusal}
use Rattle.tb_core.specs.declared.refusal.Refusal.TheVariants.{UnknownCaller, IdReused, NoBoard, NotAllowed, NoTask, WrongStatus, UuidTaken, BadTask, BadTaskAt, TemplateFixed, NoLink, Cycle, Full, NoPerson, LastOwner, NameTaken, KeyDiffers}
use Rattle.tb_calls.specs.Reply.{reply_of}
use Rattle.tb_calls.specs.declared.reply.Reply.{Reply}
use Rattle.tb_calls.specs.declared.role_bodies.PersonRole.{PersonRole}
use Rattle.tb_report.specs.Lists.{listing}
use Rattle.tb_report.specs.Showing.{shown}
use Rattle.tb_todotxt.specs.FileTexts.{file_text}
use Rattle.tb_desk.specs.Admitting.{admission, refusal_in, refusal_without}
use Rattle.tb_desk.specs.Viewing.{export_text, on_board, one_text, page_about, page_text, people_shown, seen_on, shown_in, view_of, view_reply}

-- ---- replies

-- each refusal has a number
pub refused : (r : Refusal) → admission (reply_of (Err r)) ≡ Some (reply_of (Err r))
unfolding reply_of
refused UnknownCaller = refl
refused IdReused = refl
refused NoBoard = refl
refused NotAllowed = refl
refused NoTask = refl
refused WrongStatus = refl
refused UuidTaken = refl
refused (BadTask field) = refl
refused (BadTaskAt at field) = refl
refused TemplateFixed = refl
refused NoLink = refl
refused Cycle = refl
refused Full = refl
refused NoPerson = refl
refused LastOwner = refl
refused NameTaken = refl
refused KeyDiffers = refl

pub admission_of : (shown : Result (List ℕ) Refusal) → admission (view_reply shown) ≡ option_map (λ r. reply_of (Err r)) (refusal_in shown)
unfolding view_reply
admission_of (Ok text) = refl
admission_of (Err r) = refused r

pub known_has_key : (own : Option (List ℕ)) (key : List ℕ) → has_key own key ≡ true → IsSome own
known_has_key None key has = absurd (true≢false (sym has))
known_has_key (Some own) key has = refl

module _ (s : State) (name key : List ℕ) (v : View) (m : ℕ) where
  told_where : (known : Bool) → has_key (key_of s.world name) key ≡ known → admission (shown_in s name key v m) ≡ admission (if known then view_reply (view_of s name v m) else unknown_caller)
  told_where known is = ap (λ k. admission (if k then view_reply (view_of s name v m) else unknown_caller)) is

  pub stranger_told : (r : Reply) → has_key (key_of s.world name) key ≡ false → r ≡ reply_of (Err UnknownCaller) → Some r ≡ admission (shown_in s name key v m)
  stranger_told r not_so is = ap (λ x. Some x) is ∙ sym (refused UnknownCaller) ∙ sym (told_where false not_so)

  pub refusal_told : (refusal : Refusal) (r : Reply) → has_key (key_of s.world name) key ≡ true → Some refusal ≡ refusal_in (view_of s name v m) → r ≡ reply_of (Err refusal)
      → Some r ≡ admission (shown_in s name key v m)
  refusal_told refusal r so why is =
      ap (λ x. Some x) is ∙ ap (λ o. option_map (λ x. reply_of (Err x)) o) why ∙ sym (admission_of (view_of s name v m)) ∙ sym (told_where true so)

  pub nothing_told : has_key (key_of s.world name) key ≡ true → None ≡ refusal_in (view_of s name v m) → None ≡ admission (shown_in s name key v m)
  nothing_told so why = ap (λ o. option_map (λ x. reply_of (Err x)) o) why ∙ sym (admission_of (view_of s name v m)) ∙ sym (told_where true so)

-- ---- one task

on_found : (id : ℕ) (ts : List Task) → list_any (has_id id) ts ≡ is_some (find (has_id id) ts)
on_found id [] = refl
on_found id (t ∷ ts) = elim (cases_Bool (has_id id t)) [
  | inl here ↦ rw here refl
  | inr other ↦ rw other (on_found id ts)
]

module _ (b : Board) (id m : ℕ) where
  there : (o : Option Task) → is_some o ≡ true → None ≡ refusal_in (one_text b o m)
  there None some = absurd (true≢false (sym some))
  there (Some t) some = refl

  missing : (o : Option Task) → is_some o ≡ false → Some NoTask ≡ refusal_in (one_text b o m)
  missing None some = refl
  missing (Some t) some = absurd (true≢false some)

  pub task_there : is_on b id ≡ true → None ≡ refusal_in (one_text b (find (has_id id) b.tasks) m)
  task_there on = there (find (has_id id) b.tasks) (sym (on_found id b.tasks) ∙ on)

  pub task_missing : is_on b id ≡ false → Some NoTask ≡ refusal_in (one_text b (find (has_id id) b.tasks) m)
  task_missing off = missing (find (has_id id) b.tasks) (sym (on_found id b.tasks) ∙ off)

-- its place is there where it is
place_where : (s : State) (b : Board) (id : ℕ) (o : Option ℕ) → MatchOption o (IsNone (λ i. i == id) (ids b.tasks)) (IsFirst (λ i. i == id) (ids b.tasks))
    → refusal_in (page_about s b o) ≡ (if list_any (λ i. i == id) (ids b.tasks) then None else Some NoTask)
place_where s b id None none = rw none.none refl
place_where s b id (Some at) first = rw first.stands refl

among_ids : (id : ℕ) (ts : List Task) → list_any (λ i. i == id) (ids ts) ≡ list_any (has_id id) ts
among_ids id [] = refl
among_ids id (t ∷ ts) = ap (λ rest. (t.id == id) || rest) (among_ids id ts)

about_where : (s : State) (b : Board) (id : ℕ) → refusal_in (page_about s b (place_in (ids b.tasks) id)) ≡ (if is_on b id then None else Some NoTask)
about_where s b id =
    place_where s b id (place_in (ids b.tasks) id) (place (λ i. i == id) (ids b.tasks)) ∙ ap (λ is. if is then None else Some NoTask) (among_ids id b.tasks)

pub history_there : (s : State) (b : Board) (id : ℕ) → is_on b id ≡ true → None ≡ refusal_in (page_about s b (place_in (ids b.tasks) id))
history_there s b id on = sym (about_where s b id ∙ ap (λ is. if is then None else Some NoTask) on)

pub history_missing : (s : State) (b : Board) (id : ℕ) → is_on b id ≡ false → Some NoTask ≡ refusal_in (page_about s b (place_in (ids b.tasks) id))
history_missing s b id off = sym (about_where s b id ∙ ap (λ is. if is then None else Some NoTask) off)

-- ---- a board

pub role_there : (role : Option Role) (people these : List PersonRole) → Some people ≡ where_some role these → None ≡ refusal_without role
role_there None people these is = cc
role_there (Some role) people these is = refl

pub role_missing : (role : Option Role) (these : List PersonRole) → None ≡ where_some role these → Some NoBoard ≡ refusal_without role
role_missing None these is = refl
role_missing (Some role) these is = cc

-- numbered boards have each number
found_from : (n a : ℕ) (bs : List Board) → numbers bs ≡ range_with_len a (length bs) → a ≤ n → n < a + length bs → is_some (find (has_number n) bs) ≡ true
found_from n a [] are from to = absurd (omega (arith, from, to))
found_from n a (b ∷ bs) are from to =
    let first : b.number ≡ a = cc in
    let rest : numbers bs ≡ range_with_len (a + 1) (length bs) = cc in
    elim (cases_Bool (has_number n b)) [
      | inl here ↦ rw here refl
      | inr other ↦ rw other (found_from n (a + 1) bs rest (past b.number first other) (omega (arith, to)))
    ]
  where
    past : (k : ℕ) → k ≡ a → (k == n) ≡ false → a + 1 ≤ n
    past k first other = let apart : k ≢ n = eqb-false k n other in omega (arith, from, first, apart)

both : (p q : Bool) → (p && q) ≡ true → p ≡ true
both true q h = refl
both false q h = h

-- a role is on one of the boards
role_within : (w : World) (n person : ℕ) (rs : List RoleOn) (role : Role) → AllByRecursion (IsRoleIn w) rs → option_map (λ (r : RoleOn). r.role) (find (is_role_of n person) rs) ≡ Some role
    → (1 ≤ n) × (n ≤ length w.boards)
role_within w n person [] role all is = cc
role_within w n person (r ∷ rs) role all is =
    elim (cases_Bool (is_role_of n person r)) [
      | inl here ↦
          let on : r.board ≡ n = eqb-true r.board n (both (r.board == n) _ here) in
          (omega (arith, on, all.0.from_board), omega (arith, on, all.0.to_board))
      | inr other ↦
          let rest : option_map (λ (r : RoleOn). r.role) (find (is_role_of n person) rs) ≡ Some role = rw other at is in
          role_within w n person rs role all.1 rest
    ]

module _ (f : Board → List ℕ) where
  shows_found : (role : Role) (o : Option Board) → is_some o ≡ true → None ≡ refusal_in (seen_on (seen_with (Some role) o) (λ b. Ok (f b)))
  shows_found role None some = absurd (true≢false (sym some))
  shows_found role (Some b) some = refl

  shows_with : (w : World) (n person : ℕ) (role : Option Role) → IsGoodWorld w → role_of w n person ≡ role
      → refusal_without role ≡ refusal_in (seen_on (seen_with role (find_board w n)) (λ b. Ok (f b)))
  shows_with w n person None good is = refl
  shows_with w n person (Some role) good is =
      let within = role_within w n person w.roles role good.roles is in
      shows_found role (find_board w n) (found_from n 1 w.boards good.numbered within.0 (omega (arith, within.1)))

  shows_to : (w : World) (n : ℕ) (caller : Option ℕ) → IsGoodWorld w
      → refusal_without (role_on w n caller) ≡ refusal_in (seen_on (board_for w caller (Some n)) (λ b. Ok (f b)))
  shows_to w n None good = refl
  shows_to w n (Some caller) good = shows_with w n caller (role_of w n caller) good refl

  -- in a good world a view of a board is refused to those who have no role on it
  pub shows_board : (w : World) (name : List ℕ) (n : ℕ) → IsGoodWorld w → refusal_without (role_on w n (number_of w name)) ≡ refusal_in (on_board w name n (λ b. Ok (f b)))
  shows_board w name n good = shows_to w n (number_of w name) good

people_to : (n : ℕ) (role : Option Role) (people : List PersonRole) → refusal_without role ≡ refusal_in (people_shown n (where_some role people))
people_to n None people = refl
people_to n (Some role) people = refl

-- and so are the people on it
pub shows_people : (w : World) (name : List ℕ) (n : ℕ) → refusal_without (role_on w n (number_of w name)) ≡ refusal_in (people_shown n (people_for w name n))
shows_people w name n = people_to n (role_on w n (number_of w name)) (people_on w n)

-- the views of a board that look at none of its tasks alone
abbrev IsOfBoard : ℕ → View → Type 0
IsOfBoard n v = (v ≡ Listing n) ⊎ ((v ≡ Export n) ⊎ ((v ≡ Todo n) ⊎ ((v ≡ People n) ⊎ ((v ≡ History n) ⊎ ((from : ℕ) × (v ≡ HistoryFrom n from))))))

pub shows_role : (s : State) (name : List ℕ) (v : View) (n m : ℕ) (r : Option Refusal) → IsGoodWorld s.world → IsOfBoard n v
    → r ≡ refusal_without (role_on s.world n (number_of s.world name)) → r ≡ refusal_in (view_of s name v m)
shows_role s name v n m r good is told =
    elim is [
      | inl here ↦ told ∙ shows_board (λ b. listing b m) s.world name n good ∙ ap (λ x. refusal_in (view_of s name x m)) (sym here)
      | inr (inl here) ↦ told ∙ shows_board (λ b. export_text b m) s.world name n good ∙ ap (λ x. refusal_in (view_of s name x m)) (sym here)
      | inr (inr (inl here)) ↦ told ∙ shows_board (λ b. file_text (shown b m)) s.world name n good ∙ ap (λ x. refusal_in (view_of s name x m)) (sym here)
      | inr (inr (inr (inl here))) ↦ told ∙ shows_people s.world name n ∙ ap (λ x. refusal_in (view_of s name x m)) (sym here)
      | inr (inr (inr (inr (inl here)))) ↦ told ∙ shows_board (λ b. page_text s b which.Last) s.world name n good ∙ ap (λ x. refusal_in (view_of s name x m)) (sym here)
      | inr (inr (inr (inr (inr (from, here))))) ↦
          told ∙ shows_board (λ b. page_text s b (which.From from)) s.world name n good ∙ ap (λ x. refusal_in (view_of s name x m)) (sym here)
    ]

-- the views of one task of a board
abbrev IsOfTask : ℕ → ℕ → View → Type 0
IsOfTask n id v = (v ≡ One n id) ⊎ (v ≡ HistoryOf n id)

pub shows_one : (s : State) (name : List ℕ) (v : View) (n id m : ℕ) (seen : Option SeenBoard) (r : Option Refusal) → IsOfTask n id v → seen ≡ board_for s.world (number_of s.world name) (Some n)
    → r ≡ refusal_in (seen_on seen (λ b. one_text b (find (has_id id) b.tasks) m)) → r ≡ refusal_in (seen_on seen (λ b. page_about s b (place_in (ids b.tasks) id)))
    → r ≡ refusal_in (view_of s name v m)
shows_one s name v n id m seen r is saw told noted =
    elim is [
      | inl here ↦
          told ∙ ap (λ o. refusal_in (seen_on o (λ b. one_text b (find (has_id id) b.tasks) m))) saw ∙ ap (λ x. refusal_in (view_of s name x m)) (sym here)
      | inr here ↦
          noted ∙ ap (λ o. refusal_in (seen_on o (λ b. page_about s b (place_in (ids b.tasks) id)))) saw ∙ ap (λ x. refusal_in (view_of s name x m)) (sym here)
    ]

-- ---- a view that is accepted

none_some : {A : Type 0} {x : A} → None ≡ Some x → ⊥
none_some is = cc

pub refused_is : (x r : Reply) → Some r ≡ admission x → r ≡ x
refused_is x r is =
    elim (cases_Bool (x.number == 0)) [
      | inl here ↦ let none : Some r ≡ None = rw here at is in cc
      | inr other ↦ let some : Some r ≡ Some x = rw other at is in cc
    ]

seen_found : (role : Option Role) (o : Option Board) (seen : SeenBoard) → seen_with role o ≡ Some seen → o ≡ Some seen.board
seen_found None o seen is = cc
seen_found (Some role) None seen is = cc
seen_found (Some role) (Some b) seen is = ap (λ x. option_map (λ (y : SeenBoard). y.board) x) is

board_found : (w : World) (n : ℕ) (caller : Option ℕ) (seen : SeenBoard) → board_for w caller (Some n) ≡ Some seen → find_board w n ≡ Some seen.board
board_found w n None seen is = cc
board_found w n (Some caller) seen is = seen_found (role_of w n caller) (find_board w n) seen is

module _ (s : State) (name key : List ℕ) (n m : ℕ) where
  -- the board that an export shows
  pub record IsExportOf (reply : Reply) : Type 0 where
    pub board : Board
    pub found : find_board s.world n ≡ Some board
    pub is : reply ≡ record { number = 0; status = 200; body = export_text board m }

  exported : (seen : Option SeenBoard) → board_for s.world (number_of s.world name) (Some n) ≡ seen
      → None ≡ admission (view_reply (seen_on seen (λ b. Ok (export_text b m)))) → IsExportOf (view_reply (seen_on seen (λ b. Ok (export_text b m))))
  unfolding view_reply
  exported None is accepted = absurd (none_some (accepted ∙ refused NoBoard))
  exported (Some seen) is accepted = record {
    board = seen.board;
    found = board_found s.world n (number_of s.world name) seen is;
    is = refl;
  }

  accepted_where : (known : Bool) → has_key (key_of s.world name) key ≡ known → None ≡ admission (shown_in s name key (Export n) m) → IsExportOf (shown_in s name key (Export n) m)
  accepted_where false unknown accepted = absurd (none_some (accepted ∙ told_where s name key (Export n) m false unknown ∙ refused UnknownCaller))
  accepted_where true known accepted =
      let shows : shown_in s name key (Export n) m ≡ view_reply (view_of s name (Export n) m) =
      ap (λ k. if k then view_reply (view_of s name (Export n) m) else unknown_caller) known in
      subst IsExportOf (sym shows) (exported (board_for s.world (number_of s.world name) (Some n)) refl (accepted ∙ ap admission shows))

  pub accepted_export : None ≡ admission (shown_in s name key (Export n) m) → IsExportOf (shown_in s name key (Export n) m)
  accepted_export accepted = accepted_where (has_key (key_of s.world name) key) refl accepted
