-- What a call's deed adds to the histories of a state, and to their rows.
use Rattle.std.proofs.Common.{◌≡◌, ◌≢◌, ◌∙◌, ◌+◌, ◌<◌, ◌==◌, ℕ, Bool, true, false, true≢false, List, [], ◌∷◌, ◌++◌, map, length, find, flat_map, Option, Some, None, is_some, IfSome, cond, unwrap_or, option_map, refl, sym, ap, ap₂, subst, arith, inl, inr, IsPermutation}
use Rattle.std.specs.Prelude.{IsSome}
use Rattle.std.specs.List.{AllByRecursion}
use Rattle.std.specs.Ordering.{eq_by_cmp, nat_cmp}
use Rattle.std.specs.Cmp.{eq_by_cmp_equiv}
use Rattle.std.specs.FinMap.{entries, get, get-insert, nat_cmp-IsAntisymmetric}
use Rattle.std.proofs.lemmas.Bool.{cases_Bool}
use Rattle.std.proofs.lemmas.Cmp.{nat_cmp_total}
use Rattle.std.proofs.lemmas.List.{append_assoc}
use Rattle.std.proofs.lemmas.List.Sums.{fold-append}
use Rattle.std.proofs.lemmas.List.Sorted.{IsPermutation-cons, IsPermutation-middle, IsPermutation-sym, IsPermutation-trans}
use Rattle.sqlite_trees.proofs.ListLemmas.{all-append, all-permutation, IsPermutation-flat_map}
use Rattle.tb_board.specs.declared.board.Board.{Board}
use Rattle.tb_board.specs.declared.change.Change.{Change}
use Rattle.tb_board.specs.declared.world.World.{World}
use Rattle.tb_board.specs.Extends.{Extends, ExtendsBoard, ExtendsTask, IsFrontOf}
use Rattle.tb_board.specs.World.{find_board, has_number, number_of}
use Rattle.tb_calls.specs.declared.call.Call.{Call}
use Rattle.tb_calls.specs.declared.call.KeptReply.{KeptReply}
use Rattle.tb_calls.specs.declared.reply.Reply.{Reply}
use Rattle.tb_calls.specs.Call.{CallName, State, name_cmp, name_of}
use Rattle.tb_calls.specs.Keep.{HasPlace, MayCommit, with_reply}
use Rattle.tb_calls.proofs.Names.{names_total}
use Rattle.tb_deeds.specs.declared.deed.Deed.{Deed}
use Rattle.tb_deeds.specs.Kinds.{number_of as number_of_kind}
use Rattle.tb_history.specs.declared.entry.Entry.{Entry}
use Rattle.tb_history.specs.History.{entries_on, entry_of, numbered}
use Rattle.tb_rows.proofs.Staying.{front_length}
use Rattle.tb_task.specs.Storable.{IsMoment}
use Rattle.tb_sql.specs.declared.changes.RowChange.{RowChange}
use Rattle.tb_sql.specs.declared.changes.RowChange.TheVariants.{AddEntry}
use Rattle.tb_sql.specs.Writing.{changed_by, written}
use Rattle.tb_sql.specs.Changes.{with_kept}
use Rattle.tb_sql_pages.specs.Entries.{with_entry}
use Rattle.tb_sql_tables.specs.declared.rows.HistoryRow.{HistoryRow}
use Rattle.tb_sql_tables.specs.declared.rows.KeptRow.{KeptRow}
use Rattle.tb_sql_tables.specs.Content.{Content}
use Rattle.tb_lookup.specs.Stored.{board_history, entry_row, noted_row, state_rows, AreHistories, AreRowsOf, IsEntryOf, IsHistoryOf}
use Rattle.tb_lookup.proofs.BoardHistories.{board_apart, board_is, key_put, others, others_are}
use Rattle.tb_lookup.proofs.Numbers.{known_stays, number_stays}

-- ---- what is there stays

record IsFoundLater (n : ℕ) (b : Board) (later : List Board) : Type 0 where
  board : Board
  found : find (has_number n) later ≡ Some board
  extends : ExtendsBoard b board

found_later : (n : ℕ) (bs later : List Board) (b : Board) → IsFrontOf ExtendsBoard bs later → find (has_number n) bs ≡ Some b → IsFoundLater n b later
found_later n [] later b front is = absurd (cc)
found_later n (x ∷ bs) [] b front is = absurd front
found_later n (x ∷ bs) (y ∷ later) b front is = elim (cases_Bool (x.number == n)) [
  | inl here ↦
      let there : (y.number == n) ≡ true = ap (λ k. k == n) front.0.number ∙ here in
      let same : Some x ≡ Some b = rw here at is in
      let it : x ≡ b = cc in
      record { board = y; found = rw there refl; extends = subst (λ z. ExtendsBoard z y) it front.0 }
  | inr other ↦
      let off : (y.number == n) ≡ false = ap (λ k. k == n) front.0.number ∙ other in
      let rest = found_later n bs later b front.1 (rw other at is) in
      record { board = rest.board; found = rw off rest.found; extends = rest.extends }
]

module _ (w later : World) (extends : Extends w later) (n : ℕ) where
  board_stays : IsSome (find_board w n) → IsSome (find_board later n)
  board_stays there = go (find_board w n) refl there
    where
      go : (o : Option Board) → find_board w n ≡ o → is_some o ≡ true → IsSome (find_board later n)
      go None is there = absurd (true≢false (sym there))
      go (Some b) is there = ap is_some (found_later n w.boards later.boards b extends.boards is).found

  place_stays : (place : ℕ) → IsSome (find_board w n) → HasPlace w n place → HasPlace later n place
  place_stays place there has = go (find_board w n) refl there has
    where
      go : (o : Option Board) → find_board w n ≡ o → is_some o ≡ true → IfSome o (λ (b : Board). place < length b.tasks) → HasPlace later n place
      go None is there has = absurd (true≢false (sym there))
      go (Some b) is there has =
          let then = found_later n w.boards later.boards b extends.boards is in
          let count = front_length ExtendsTask b.tasks then.board.tasks then.extends.tasks in
          let within : place < length then.board.tasks = omega (arith, has, count) in
          subst (λ (o : Option Board). IfSome o (λ (b : Board). place < length b.tasks)) (sym then.found) within

  any_place_stays : (place : Option ℕ) → IsSome (find_board w n) → IfSome place (HasPlace w n) → IfSome place (HasPlace later n)
  any_place_stays None there has = has
  any_place_stays (Some place) there has = place_stays place there has

-- ---- entries stay where people, boards, tasks and kept replies do

module _ (s t : State) (extends : Extends s.world t.world) (kept : (name : CallName) → IsSome (get s.kept name) → IsSome (get t.kept name)) where
  entry_stays : (board : ℕ) → IsSome (find_board s.world board) → (e : Entry) → IsEntryOf s board e → IsEntryOf t board e
  entry_stays board there e is = record {
    moment = is.moment;
    person = known_stays s.world t.world e.member extends.people is.person;
    call = kept (e.member, e.id) is.call;
    place = any_place_stays s.world t.world extends board e.place there is.place;
  }

  entries_stay : (board : ℕ) → IsSome (find_board s.world board) → (es : List Entry) → AllByRecursion (IsEntryOf s board) es → AllByRecursion (IsEntryOf t board) es
  entries_stay board there [] all = tt
  entries_stay board there (e ∷ es) all = (entry_stays board there e all.0, entries_stay board there es all.1)

  histories_stay : (es : List (ℕ × List Entry)) → AllByRecursion (IsHistoryOf s) es → AllByRecursion (IsHistoryOf t) es
  histories_stay [] all = tt
  histories_stay (e ∷ es) all = (
    record {
      board = board_stays s.world t.world extends e.0 all.0.board;
      some = all.0.some;
      each = entries_stay e.0 all.0.board e.1 all.0.each;
    },
    histories_stay es all.1,
  )

  row_stays : (board n : ℕ) (e : Entry) → IsSome (number_of s.world e.member) → entry_row t.world board (n, e) ≡ entry_row s.world board (n, e)
  row_stays board n e known = λ i.
      let row : HistoryRow = record {
        board = board;
        number = n;
        moment = e.moment;
        person = number_stays s.world t.world e.member extends.people known i;
        call = e.id;
        what = number_of_kind e.what;
        task = option_map (λ place. place + 1) e.place;
      } in
      row

  rows_stay : (board n : ℕ) (es : List Entry) → AllByRecursion (IsEntryOf s board) es → map (entry_row t.world board) (numbered n es) ≡ map (entry_row s.world board) (numbered n es)
  rows_stay board n [] all = refl
  rows_stay board n (e ∷ es) all = ap₂ ◌∷◌ (row_stays board n e all.0.person) (rows_stay board (n + 1) es all.1)

  all_rows_stay : (es : List (ℕ × List Entry)) → AllByRecursion (IsHistoryOf s) es → flat_map (board_history t.world) es ≡ flat_map (board_history s.world) es
  all_rows_stay [] all = refl
  all_rows_stay (e ∷ es) all = ap₂ ◌++◌ (rows_stay e.0 1 e.1 all.0.each) (all_rows_stay es all.1)

-- the entries of a board are of the state
pub entries_of_board : (s : State) (board : ℕ) → AreHistories s → AllByRecursion (IsEntryOf s board) (entries_on s.history board)
entries_of_board s board all = by (get s.history board) refl
  where
    by : (o : Option (List Entry)) → get s.history board ≡ o → AllByRecursion (IsEntryOf s board) (unwrap_or o [])
    by None is = tt
    by (Some es) is = (board_is (IsHistoryOf s) s.history board es is all).each

-- what holds of no entries, and of entries of a board that is there, holds of those of a board
of_entries : (s : State) (board : ℕ) → AreHistories s → (P : List Entry → Type 0) → P [] → ((es : List Entry) → IsSome (find_board s.world board) → AllByRecursion (IsEntryOf s board) es → P es) → P (entries_on s.history board)
of_entries s board all P none some = by (get s.history board) refl
  where
    by : (o : Option (List Entry)) → get s.history board ≡ o → P (unwrap_or o [])
    by None is = none
    by (Some es) is = let own = board_is (IsHistoryOf s) s.history board es is all in some es own.board own.each

numbered-append : (n : ℕ) (es : List Entry) (e : Entry) → numbered n (es ++ e ∷ []) ≡ numbered n es ++ (n + length es, e) ∷ []
numbered-append n [] e = let same : n ≡ n + 0 = omega arith in ap (λ k. (k, e) ∷ []) same
numbered-append n (x ∷ es) e =
    let same : n + 1 + length es ≡ n + length (x ∷ es) = omega arith in
    ap (λ l. (n, x) ∷ l) (numbered-append (n + 1) es e ∙ ap (λ k. numbered (n + 1) es ++ (k, e) ∷ []) same)

module _ {A B : Type 0} (f : A → B) where
  map_last : (xs : List A) (x : A) → map f (xs ++ x ∷ []) ≡ map f xs ++ f x ∷ []
  map_last [] x = refl
  map_last (y ∷ xs) x = ap (λ l. f y ∷ l) (map_last xs x)

-- ---- a call's deed is noted

module _ (s : State) (content : Content) (changes : List Change) (c : Call) (r : Reply) (of_s : AreRowsOf s content) where
  kept_after : (deed : Option Deed) (name : CallName) → IsSome (get s.kept name) → IsSome (get (with_reply s changes deed c r).kept name)
  kept_after deed name there =
      ap is_some (get-insert names_total s.kept (name_of c) (record { content = c.content; reply = r }) name) ∙ by (eq_by_cmp name_cmp name (name_of c))
    where
      by : (b : Bool) → is_some (cond b (Some (record { content = c.content; reply = r })) (get s.kept name)) ≡ true
      by true = refl
      by false = there

  kept_now : (deed : Option Deed) → IsSome (get (with_reply s changes deed c r).kept (name_of c))
  kept_now deed =
      let it : KeptReply = record { content = c.content; reply = r } in
      ap is_some (get-insert names_total s.kept (name_of c) it (name_of c) ∙ ap (λ b. cond b (Some it) (get s.kept (name_of c))) ((eq_by_cmp_equiv names_total).refl (name_of c)))

  -- a call without a deed changes no history
  module _ (may : MayCommit s changes None c) where
    pub histories_stay_noted : AreHistories (with_reply s changes None c r)
    histories_stay_noted = histories_stay s (with_reply s changes None c r) may.extends (kept_after None) (entries s.history) of_s.histories

    pub history_rows_stay : IsPermutation content.history (state_rows (with_reply s changes None c r)).history
    history_rows_stay = subst (λ (l : List HistoryRow). IsPermutation content.history l) (sym (all_rows_stay s (with_reply s changes None c r) may.extends (kept_after None) (entries s.history) of_s.histories)) of_s.same.history

  -- a deed adds one entry, and one row
  module _ (deed : Deed) (may : MayCommit s changes (Some deed) c) where
    abbrev after : State
    after = with_reply s changes (Some deed) c r

    abbrev new : Entry
    new = entry_of c.member c.id c.moment deed

    abbrev own : List Entry
    own = entries_on s.history deed.board

    new_is : IsMoment c.moment → IsEntryOf after deed.board new
    new_is moment = record {
      moment = moment;
      person = known_stays s.world after.world c.member may.extends.people may.known;
      call = kept_now (Some deed);
      place = may.does.place;
    }

    own_are : AllByRecursion (IsEntryOf after deed.board) own
    own_are = of_entries s deed.board of_s.histories (AllByRecursion (IsEntryOf after deed.board)) tt (λ es there all. entries_stay s after may.extends (kept_after (Some deed)) deed.board there es all)

    not_empty : (es : List Entry) → es ++ new ∷ [] ≢ []
    not_empty [] is = absurd (cc)
    not_empty (e ∷ es) is = absurd (cc)

    pub histories_noted : IsMoment c.moment → AreHistories after
    histories_noted moment =
        let here : IsHistoryOf after (deed.board, own ++ new ∷ []) = record {
          board = may.does.board;
          some = not_empty own;
          each = all-append (IsEntryOf after deed.board) own (new ∷ []) own_are (new_is moment, tt);
        } in
        let rest = histories_stay s after may.extends (kept_after (Some deed)) (others s.history deed.board) (others_are (IsHistoryOf s) s.history deed.board of_s.histories) in
        all-permutation (IsHistoryOf after) ((deed.board, own ++ new ∷ []) ∷ others s.history deed.board) (entries after.history) (key_put nat_cmp nat_cmp_total nat_cmp-IsAntisymmetric s.history deed.board (own ++ new ∷ [])) (here, rest)

    -- the rows of the board then
    own_rows : board_history after.world (deed.board, own ++ new ∷ []) ≡ board_history s.world (deed.board, own) ++ noted_row s.world c deed (length own) ∷ []
    own_rows =
        let count : 1 + length own ≡ length own + 1 = omega arith in
        let last : entry_row after.world deed.board (1 + length own, new) ≡ noted_row s.world c deed (length own) =
        row_stays s after may.extends (kept_after (Some deed)) deed.board (1 + length own) new may.known ∙ ap (λ n. entry_row s.world deed.board (n, new)) count in
        ap (map (entry_row after.world deed.board)) (numbered-append 1 own new)
        ∙ map_last (entry_row after.world deed.board) (numbered 1 own) (1 + length own, new)
        ∙ ap₂ (λ l x. l ++ x ∷ []) (rows_stay s after may.extends (kept_after (Some deed)) deed.board 1 own (entries_of_board s deed.board of_s.histories)) last

    pub history_rows_noted : IsPermutation (noted_row s.world c deed (length own) ∷ content.history) (state_rows after).history
    history_rows_noted =
        let row = noted_row s.world c deed (length own) in
        let before = board_history s.world (deed.board, own) in
        let rest = flat_map (board_history s.world) (others s.history deed.board) in
        let others_stay = all_rows_stay s after may.extends (kept_after (Some deed)) (others s.history deed.board) (others_are (IsHistoryOf s) s.history deed.board of_s.histories) in
        let all = IsPermutation-flat_map (board_history after.world) _ _ (key_put nat_cmp nat_cmp_total nat_cmp-IsAntisymmetric s.history deed.board (own ++ new ∷ [])) in
        let split : board_history after.world (deed.board, own ++ new ∷ []) ++ flat_map (board_history after.world) (others s.history deed.board) ≡ before ++ row ∷ rest =
        ap₂ ◌++◌ own_rows others_stay ∙ append_assoc before (row ∷ []) rest in
        let was = IsPermutation-trans content.history (flat_map (board_history s.world) (entries s.history)) (before ++ rest) of_s.same.history (IsPermutation-sym _ _ (board_apart (board_history s.world) s.history deed.board refl)) in
        IsPermutation-trans (row ∷ content.history) (row ∷ (before ++ rest)) _ (IsPermutation-cons row _ _ was)
        (IsPermutation-trans _ (before ++ row ∷ rest) _ (IsPermutation-sym _ _ (IsPermutation-middle before row rest)) (subst (λ (l : List HistoryRow). IsPermutation l (state_rows after).history) split all))

-- ---- the row goes in after the others

pub written_entry : (rows : List RowChange) (row : HistoryRow) (kept : KeptRow) (content : Content) → written (rows ++ AddEntry row ∷ []) kept content ≡ with_entry row (written rows kept content)
written_entry rows row kept content = fold-append (λ c change. changed_by change c) (with_kept kept content) rows (AddEntry row ∷ [])
