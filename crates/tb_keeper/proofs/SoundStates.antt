-- On the rows of a state each board's history is sound.
use Rattle.std.proofs.Common.{◌≡◌, ◌∙◌, ◌==◌, ◌+◌, ◌-◌, ◌<◌, ◌≤◌, ℕ, max, drop, true, false, true≢false, List, [], ◌∷◌, map, length, filter, find, position, Option, Some, None, is_some, IfSome, unwrap_or, option_map, refl, sym, ap, subst, inl, inr, arith, IsPermutation}
use Rattle.std.specs.Prelude.{◌≢◌, IsSome}
use Rattle.std.specs.List.{list_any, AllByRecursion}
use Rattle.std.specs.FinMap.{get}
use Rattle.std.proofs.lemmas.Bool.{cases_Bool}
use Rattle.std.proofs.lemmas.Bool.Decides.{nat_tests}
use Rattle.std.proofs.lemmas.List.Quantifiers.{position-Some}
use Rattle.std.proofs.lemmas.List.Sorted.{list_any-IsPermutation}
use Rattle.sqlite_trees.proofs.ListLemmas.{IsPermutation-filter}
use Rattle.tb_board.specs.declared.board.Board.{Board}
use Rattle.tb_board.specs.declared.world.Person.{Person}
use Rattle.tb_board.specs.declared.world.World.{World}
use Rattle.tb_board.specs.World.{find_board, has_name, has_number, number_of}
use Rattle.tb_calls.specs.Call.{State}
use Rattle.tb_calls.specs.Keep.{HasPlace}
use Rattle.tb_deeds.specs.declared.kind.DeedKind.{DeedKind}
use Rattle.tb_deeds.specs.declared.kind.DeedKind.TheVariants.{Add}
use Rattle.tb_deeds.specs.Kinds.{kind_of_number, number_of as number_of_kind}
use Rattle.tb_history.specs.declared.entry.Entry.{Entry}
use Rattle.tb_history.specs.History.{entries_on, numbered}
use Rattle.tb_rows.proofs.Joined.{numbered_from, AreNumberedFrom as AreNumberedBoards}
use Rattle.tb_rows.specs.Rows.{person_row, rows_from}
use Rattle.tb_sql.specs.Changes.{is_kept, is_person}
use Rattle.tb_sql_tables.specs.declared.rows.HistoryRow.{HistoryRow}
use Rattle.tb_sql_tables.specs.Content.{Content}
use Rattle.tb_sql_pages.specs.Entries.{is_entry_between}
use Rattle.tb_sql_pages.specs.Last.{AreNumberedFrom}
use Rattle.tb_sql_pages.proofs.Numbered.{between_numbers, is_between}
use Rattle.tb_lookup.specs.Stored.{entry_row, AreRowsOf, IsEntryOf}
use Rattle.tb_lookup.proofs.BoardHistories.{is_row_on, rows_numbered, rows_of_board}
use Rattle.tb_lookup.proofs.KeptOnes.{reply_found}
use Rattle.tb_lookup.proofs.NotedEntries.{entries_of_board}
use Rattle.tb_keeper.specs.SoundHistories.{IsSoundEntry, IsSoundHistory}
use Rattle.tb_keeper.proofs.SoundHistories.{all_filter, filter_twice, number_in, numbered_drop, numbered_take}

-- ---- boards by their numbers

none_of_number : (m n : ℕ) (bs : List Board) → m < n → AreNumberedBoards n bs → find (has_number m) bs ≡ None
none_of_number m n [] less numbered = refl
none_of_number m n (b ∷ bs) less numbered =
    let first = numbered.0 in
    let other : (b.number == m) ≡ false = grind (arith, nat_tests) in
    rw other (none_of_number m (n + 1) bs (omega (arith, less)) numbered.1)

-- a board in front of others isn't found under their numbers
still_found : (b : Board) (all : List Board) (n : ℕ) (bs : List Board) → b.number < n → AreNumberedBoards n bs → AllByRecursion (λ (d : Board). find (has_number d.number) all ≡ Some d) bs
    → AllByRecursion (λ (d : Board). find (has_number d.number) (b ∷ all) ≡ Some d) bs
still_found b all n [] less numbered found = tt
still_found b all n (d ∷ bs) less numbered found =
    let first = numbered.0 in
    let other : (b.number == d.number) ≡ false = grind (arith, nat_tests) in
    (rw other found.0, still_found b all (n + 1) bs (omega (arith, less)) numbered.1 found.1)

each_found : (n : ℕ) (bs : List Board) → AreNumberedBoards n bs → AllByRecursion (λ (d : Board). find (has_number d.number) bs ≡ Some d) bs
each_found n [] numbered = tt
each_found n (b ∷ bs) numbered =
    let first = numbered.0 in
    let own : (b.number == b.number) ≡ true = grind (arith, nat_tests) in
    (rw own refl, still_found b bs (n + 1) bs (omega (arith, first)) numbered.1 (each_found (n + 1) bs numbered.1))

-- ---- an entry of a state

some_kind : (kind : DeedKind) → is_some (kind_of_number (number_of_kind kind)) ≡ true
unfolding kind_of_number
some_kind Add = refl
some_kind _ = refl

person_there : (n k : ℕ) (people : List Person) → n ≤ k → k < n + length people → list_any (is_person k) (rows_from (λ m p. person_row m p ∷ []) n people) ≡ true
person_there n k [] low high = absurd (omega (arith, low, high))
person_there n k (p ∷ people) low high = elim (cases_Bool (n == k)) [
  | inl here ↦ rw here refl
  | inr other ↦
      let apart : n ≡ k → ⊥ = grind (arith, nat_tests) in
      rw other (person_there (n + 1) k people (omega (arith, low, apart)) (omega (arith, high)))
]

-- the number of a person who is there
record IsNumber (w : World) (name : List ℕ) : Type 0 where
  number : ℕ
  is : number_of w name ≡ Some number
  low : 1 ≤ number
  high : number < 1 + length w.people

number_there : (w : World) (name : List ℕ) → IsSome (number_of w name) → IsNumber w name
number_there w name known = by (position (has_name name) w.people) refl
  where
    by : (o : Option ℕ) → position (has_name name) w.people ≡ o → IsNumber w name
    by None is = absurd (true≢false (sym known ∙ ap (λ (o : Option ℕ). is_some (option_map (λ place. place + 1) o)) is))
    by (Some place) is =
        let within = (position-Some (has_name name) w.people place (record { name = []; key = None }) is).0 in
        record { number = place + 1; is = ap (option_map (λ place. place + 1)) is; low = omega arith; high = omega (arith, within) }

module _ (s : State) (c : Content) (of_s : AreRowsOf s c) (b : Board) (found : find_board s.world b.number ≡ Some b) where
  place_within : (place : Option ℕ) → IfSome place (HasPlace s.world b.number) → IfSome (option_map (λ p. p + 1) place) (λ place. (1 ≤ place) × (place ≤ length b.tasks))
  place_within None has = tt
  place_within (Some place) has =
      let within : place < length b.tasks = subst (λ (o : Option Board). IfSome o (λ (d : Board). place < length d.tasks)) found has in
      (omega arith, omega (arith, within))

  sound_entry : (n : ℕ) (e : Entry) → IsEntryOf s b.number e → IsSoundEntry c (length b.tasks) (entry_row s.world b.number (n, e))
  sound_entry n e is = record {
    readable = record { moment = is.moment; what = some_kind e.what; place = place_within e.place is.place };
    person = subst (λ k. list_any (is_person k) c.people ≡ true) (sym own)
        (list_any-IsPermutation (is_person known.number) c.people (rows_from (λ m p. person_row m p ∷ []) 1 s.world.people) of_s.same.tables.people ∙ person_there 1 known.number s.world.people known.low known.high);
    kept = subst (λ k. filter (is_kept k e.id) c.kept ≢ []) (sym own) (λ none. not_kept (reply_found s c of_s known.number e.id None none e.member known.is));
  }
    where
      known : IsNumber s.world e.member
      known = number_there s.world e.member is.person

      own : unwrap_or (number_of s.world e.member) 0 ≡ known.number
      own = ap (λ o. unwrap_or o 0) known.is

      not_kept : None ≡ get s.kept (e.member, e.id) → ⊥
      not_kept none = true≢false (sym is.call ∙ sym (ap is_some none))

  sound_entries : (n : ℕ) (es : List Entry) → AllByRecursion (IsEntryOf s b.number) es → AllByRecursion (IsSoundEntry c (length b.tasks)) (map (entry_row s.world b.number) (numbered n es))
  sound_entries n [] all = tt
  sound_entries n (e ∷ es) all = (sound_entry n e all.0, sound_entries (n + 1) es all.1)

  part_numbered : (first last : ℕ) (xs : List HistoryRow) → AreNumberedFrom number_in 1 xs → AreNumberedFrom number_in (1 + (first - 1)) (filter (is_between number_in first last) xs)
  part_numbered first last xs is =
      subst (AreNumberedFrom number_in (1 + (first - 1))) (sym (between_numbers number_in first last 1 xs is)) (numbered_take (last + 1 - max first 1) (1 + (first - 1)) (drop (first - 1) xs) (numbered_drop (first - 1) 1 xs is))

  -- the history of the board is sound
  sound_history : IsSoundHistory c b.number (length b.tasks)
  sound_history =
      let es = entries_on s.history b.number in
      let all : List HistoryRow = map (entry_row s.world b.number) (numbered 1 es) in
      let own = rows_of_board s.world b.number s.history c.history of_s.same.history in
      record {
        rows = filter (is_between number_in 0 4294967295) all;
        own = subst (IsPermutation (filter (is_between number_in 0 4294967295) all))
            (filter_twice (is_row_on b.number) (is_between number_in 0 4294967295) (is_entry_between b.number 0 4294967295) (λ row. refl) c.history)
            (IsPermutation-filter (is_between number_in 0 4294967295) all _ own);
        numbered = part_numbered 0 4294967295 all (rows_numbered s.world b.number 1 es);
        each = all_filter (IsSoundEntry c (length b.tasks)) (is_between number_in 0 4294967295) all (sound_entries 1 es (entries_of_board s b.number of_s.histories));
      }

-- on the rows of a state all histories are sound
pub sound_histories : (s : State) (c : Content) → AreRowsOf s c → AllByRecursion (λ (b : Board). IsSoundHistory c b.number (length b.tasks)) s.world.boards
sound_histories s c of_s = each s.world.boards (each_found 1 s.world.boards (numbered_from 1 s.world.boards of_s.good.numbered))
  where
    each : (bs : List Board) → AllByRecursion (λ (b : Board). find_board s.world b.number ≡ Some b) bs → AllByRecursion (λ (b : Board). IsSoundHistory c b.number (length b.tasks)) bs
    each [] found = tt
    each (b ∷ bs) found = (sound_history s c of_s b found.0, each bs found.1)
