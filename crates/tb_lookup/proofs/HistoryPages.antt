-- What the rows of a history that are found tell of a board's entries.
use Rattle.std.proofs.Common.{◌≡◌, ◌∙◌, ◌==◌, ◌+◌, ◌-◌, ◌≤◌, ◌<◌, ◌⊎◌, inl, inr, ℕ, zero, suc, max, min, Bool, true, false, nat_le, List, [], ◌∷◌, map, length, filter, take, drop, Option, Some, None, option_map, unwrap_or, refl, sym, ap, arith}
use Rattle.std.proofs.lemmas.Bool.{cases_Bool}
use Rattle.std.proofs.lemmas.Bool.Decides.{nat_tests}
use Rattle.std.proofs.lemmas.List.{length-drop, length-map, take_all}
use Rattle.sqlite.specs.State.{State as Database}
use Rattle.tb_history.specs.declared.page.Which.TheVariants.{Last, From, OfPlace}
use Rattle.tb_history.specs.History.{entries_on, numbered}
use Rattle.tb_history.specs.Pages.{is_about, is_place, last_of}
use Rattle.tb_sql_pages.specs.Entries.{is_entry_between, is_entry_of, names_place, IsBelow, IsEntryBefore}
use Rattle.tb_sql_pages.specs.Last.{AreLast, listed}
use Rattle.tb_sql_pages.proofs.Numbered.{last_is_count, last_of_part, range_is_part}
use Rattle.tb_sql_tables.specs.declared.rows.HistoryRow.{HistoryRow}
use Rattle.tb_sql_tables.specs.Found.{AreFound}
use Rattle.tb_lookup.specs.Histories.{AreChosen}
use Rattle.tb_lookup.specs.Reopening.{OfContent, OfState}
use Rattle.tb_lookup.specs.Stored.{entry_row}
use Rattle.tb_lookup.proofs.BoardHistories.{count_numbered, is_row_on, rows_numbered, rows_of_board}

abbrev number_in : HistoryRow → ℕ
number_in row = row.number

-- the last number that is found is that of all entries
pub last_found : (old new : Database) (board : ℕ) (found : Option ℕ) → OfContent old new (λ content. AreLast IsBelow 1 (map number_in (filter (is_row_on board) content.history)) (listed found))
    → OfState old new (λ s. unwrap_or found 0 ≡ length (entries_on s.history board))
last_found old new board found are clean s stored =
    let es = entries_on s.history board in
    let xs = map (entry_row s.world board) (numbered 1 es) in
    last_is_count number_in (filter (is_row_on board) stored.content.history) xs found (are clean stored.content stored.stands)
    (rows_of_board s.world board s.history stored.content.history stored.rows.same.history) (rows_numbered s.world board 1 es)
    ∙ length-map (numbered 1 es) (entry_row s.world board) ∙ count_numbered 1 es

-- ---- parts of images

module _ {A B : Type 0} (f : A → B) where
  take_images : (n : ℕ) (xs : List A) → take n (map f xs) ≡ map f (take n xs)
  take_images zero xs = refl
  take_images (suc n) [] = refl
  take_images (suc n) (x ∷ xs) = ap (λ l. f x ∷ l) (take_images n xs)

  drop_images : (n : ℕ) (xs : List A) → drop n (map f xs) ≡ map f (drop n xs)
  drop_images zero xs = refl
  drop_images (suc n) [] = refl
  drop_images (suc n) (x ∷ xs) = drop_images n xs

  last_images : (count : ℕ) (xs : List A) → last_of count (map f xs) ≡ map f (last_of count xs)
  last_images count xs = ap (λ n. drop (n - count) (map f xs)) (length-map xs f) ∙ drop_images (length xs - count) xs

  filter_images : (p : B → Bool) (q : A → Bool) → ((x : A) → p (f x) ≡ q x) → (xs : List A) → filter p (map f xs) ≡ map f (filter q xs)
  filter_images p q same [] = refl
  filter_images p q same (x ∷ xs) = elim (cases_Bool (q x)) [
    | inl here ↦ rw (same x ∙ here, here) (ap (λ l. f x ∷ l) (filter_images p q same xs))
    | inr other ↦ rw (same x ∙ other, other) (filter_images p q same xs)
  ]

same_taken : {X : Type 0} (a b : ℕ) (xs : List X) → (a ≡ b) ⊎ ((length xs ≤ a) × (length xs ≤ b)) → take a xs ≡ take b xs
same_taken a b xs (inl same) = ap (λ n. take n xs) same
same_taken a b xs (inr long) = take_all a xs long.0 ∙ sym (take_all b xs long.1)

-- ---- those of a page

-- what stands from the first number of the last page on
last_part : {X : Type 0} (last : ℕ) (xs : List X) → last ≡ length xs → take (last + 1 - max (last - 99) 1) (drop (last - 99 - 1) xs) ≡ last_of 100 xs
last_part last xs is =
    let from : last - 99 - 1 ≡ length xs - 100 = omega (arith, is) in
    let long : length (drop (length xs - 100) xs) ≡ length xs - (length xs - 100) = length-drop (length xs - 100) xs in
    let within : length (drop (length xs - 100) xs) ≤ last + 1 - max (last - 99) 1 = grind (arith, nat_tests) in
    ap (λ n. take (last + 1 - max (last - 99) 1) (drop n xs)) from ∙ take_all (last + 1 - max (last - 99) 1) (drop (length xs - 100) xs) within

-- what stands from a number on, where the last number that can be asked for is that of 32 bits
part_from : {X : Type 0} (n first last : ℕ) (xs : List X) → first ≡ max n 1 → last ≡ min (first + 99) 4294967295 → length xs ≤ 4294967295 → take (last + 1 - max first 1) (drop (first - 1) xs) ≡ take 100 (drop (n - 1) xs)
part_from n first last xs is ends few =
    let from : first - 1 ≡ n - 1 = grind (arith, nat_tests) in
    let long : length (drop (n - 1) xs) ≡ length xs - (n - 1) = length-drop (n - 1) xs in
    ap (λ k. take (last + 1 - max first 1) (drop k xs)) from ∙ same_taken (last + 1 - max first 1) 100 (drop (n - 1) xs) (elim (cases_Bool (nat_le (first + 99) 4294967295)) [
      | inl within ↦ inl (grind (arith, nat_tests))
      | inr past ↦ inr (grind (arith, nat_tests), grind (arith, nat_tests))
    ])

module _ (old new : Database) (board first last : ℕ) (rows : List HistoryRow) (found : OfContent old new (λ content. AreFound IsEntryBefore (filter (is_entry_between board first last) content.history) rows)) where
  range_found : OfState old new (λ s. rows ≡ take (last + 1 - max first 1) (drop (first - 1) (map (entry_row s.world board) (numbered 1 (entries_on s.history board)))))
  range_found clean s stored =
      range_is_part number_in (is_row_on board) 1 stored.content.history rows (map (entry_row s.world board) (numbered 1 (entries_on s.history board)))
      (rows_of_board s.world board s.history stored.content.history stored.rows.same.history) (rows_numbered s.world board 1 (entries_on s.history board)) first last (found clean stored.content stored.stands)

  -- the rows of the last page
  pub last_chosen : first ≡ last - 99 → OfState old new (λ s. last ≡ length (entries_on s.history board) → AreChosen s board Last rows)
  last_chosen from clean s stored all =
      let es = numbered 1 (entries_on s.history board) in
      let xs = map (entry_row s.world board) es in
      let count : last ≡ length xs = all ∙ sym (count_numbered 1 (entries_on s.history board)) ∙ sym (length-map es (entry_row s.world board)) in
      range_found clean s stored ∙ ap (λ k. take (last + 1 - max k 1) (drop (k - 1) xs)) from ∙ last_part last xs count ∙ last_images (entry_row s.world board) 100 es

  -- the rows of a page from a number on
  pub from_chosen : (n all : ℕ) → all ≤ 4294967295 → first ≡ max n 1 → last ≡ min (first + 99) 4294967295 → OfState old new (λ s. all ≡ length (entries_on s.history board) → AreChosen s board (From n) rows)
  from_chosen n all few is ends clean s stored count =
      let es = numbered 1 (entries_on s.history board) in
      let xs = map (entry_row s.world board) es in
      let long : length xs ≡ all = length-map es (entry_row s.world board) ∙ count_numbered 1 (entries_on s.history board) ∙ sym count in
      range_found clean s stored ∙ part_from n first last xs is ends (omega (arith, long, few))
      ∙ ap (take 100) (drop_images (entry_row s.world board) (n - 1) es) ∙ take_images (entry_row s.world board) 100 (drop (n - 1) es)

drop_past : {X : Type 0} (k : ℕ) (xs : List X) → length xs ≤ k → drop k xs ≡ []
drop_past zero [] few = refl
drop_past zero (x ∷ xs) few = absurd (omega (arith, few))
drop_past (suc k) [] few = refl
drop_past (suc k) (x ∷ xs) few = drop_past k xs (omega (arith, few))

-- above the last number there are none
pub none_chosen : (old new : Database) (board n all : ℕ) → all < n → OfState old new (λ s. all ≡ length (entries_on s.history board) → AreChosen s board (From n) [])
none_chosen old new board n all above clean s stored count =
    let es = numbered 1 (entries_on s.history board) in
    let long : length es ≡ all = count_numbered 1 (entries_on s.history board) ∙ sym count in
    ap (λ l. map (entry_row s.world board) (take 100 l)) (sym (drop_past (n - 1) es (omega (arith, long, above))))

-- ---- those about a task

same_place : (place : ℕ) (other : Option ℕ) → names_place (place + 1) (option_map (λ n. n + 1) other) ≡ is_place other place
same_place place None = refl
same_place place (Some other) = elim (cases_Bool (other == place)) [
  | inl here ↦ let there : (other + 1 == place + 1) ≡ true = grind (arith, nat_tests) in there ∙ sym here
  | inr apart ↦ let there : (other + 1 == place + 1) ≡ false = grind (arith, nat_tests) in there ∙ sym apart
]

pub place_chosen : (old new : Database) (board place : ℕ) (rows : List HistoryRow) → OfContent old new (λ content. AreLast IsEntryBefore 100 (filter (is_entry_of board (place + 1)) content.history) rows) → OfState old new (λ s. AreChosen s board (OfPlace place) rows)
place_chosen old new board place rows found clean s stored =
    let f = entry_row s.world board in
    let es = numbered 1 (entries_on s.history board) in
    last_of_part number_in (is_row_on board) 1 stored.content.history rows (map f es) (rows_of_board s.world board s.history stored.content.history stored.rows.same.history) (rows_numbered s.world board 1 (entries_on s.history board))
    (λ (row : HistoryRow). names_place (place + 1) row.task) 100 (found clean stored.content stored.stands)
    ∙ ap (last_of 100) (filter_images f (λ (row : HistoryRow). names_place (place + 1) row.task) (is_about place) (λ e. same_place place e.1.place) es)
    ∙ last_images f 100 (filter (is_about place) es)
