-- The rows of histories tell the histories.
use Rattle.std.proofs.Common.{◌≡◌, ◌≢◌, ◌∙◌, ◌==◌, ◌+◌, ◌-◌, ◌<◌, ℕ, true, false, not, List, [], ◌∷◌, map, length, filter, flat_map, Option, Some, None, IfSome, unwrap_or, option_map, refl, sym, ap, ap₂, subst, arith, eq-eqb, IsPermutation}
use Rattle.std.specs.Prelude.{IsSome}
use Rattle.std.specs.List.{AllByRecursion}
use Rattle.std.specs.Ordering.{nat_cmp}
use Rattle.std.specs.FinMap.{empty, entries, get, get-empty, nat_cmp-IsAntisymmetric, same_map}
use Rattle.std.proofs.lemmas.Bool.Decides.{nat_tests}
use Rattle.std.proofs.lemmas.Cmp.{nat_cmp_total}
use Rattle.std.proofs.lemmas.List.{length-map}
use Rattle.std.proofs.lemmas.List.Sorted.{IsPermutation-refl, IsPermutation-sym, IsPermutation-trans, length_permutation}
use Rattle.sqlite.proofs.Callers.{one_permutation}
use Rattle.sqlite_trees.proofs.ListLemmas.{IsPermutation-filter}
use Rattle.tb_board.specs.declared.world.World.{World}
use Rattle.tb_board.specs.World.{number_of}
use Rattle.tb_calls.specs.Call.{State}
use Rattle.tb_deeds.specs.declared.kind.DeedKind.TheVariants.{Add}
use Rattle.tb_deeds.specs.Kinds.{kind_of_number}
use Rattle.tb_deeds.proofs.Numbers.{kind_found}
use Rattle.tb_history.specs.declared.entry.Entry.{Entry}
use Rattle.tb_history.specs.History.{Histories, entries_on, numbered}
use Rattle.tb_sql_pages.specs.Last.{AreNumberedFrom}
use Rattle.tb_sql_tables.specs.declared.rows.HistoryRow.{HistoryRow}
use Rattle.tb_sql_tables.specs.Content.{Content}
use Rattle.tb_lookup.specs.Stored.{board_history, entry_row, AreHistories, AreRowsOf, IsEntryOf, IsHistoryOf}
use Rattle.tb_lookup.proofs.BoardHistories.{board_is, count_numbered, rows_numbered, rows_of_board}
use Rattle.tb_lookup.proofs.NotedEntries.{entries_of_board}
use Rattle.tb_lookup.proofs.Numbers.{name_at, name_of_number}

-- ---- rows with numbers stand in one order

module _ {X : Type 0} (key : X → ℕ) where
  none_at : (n m : ℕ) (xs : List X) → n < m → AreNumberedFrom key m xs → filter (λ x. key x == n) xs ≡ []
  none_at n m [] below are = refl
  none_at n m (x ∷ xs) below are =
      let first = are.0 in
      let apart : (key x == n) ≡ false = grind (arith, nat_tests) in
      rw apart (none_at n (m + 1) xs (omega (arith, below)) are.1)

  all_above : (n m : ℕ) (xs : List X) → n < m → AreNumberedFrom key m xs → filter (λ x. not (key x == n)) xs ≡ xs
  all_above n m [] below are = refl
  all_above n m (x ∷ xs) below are =
      let first = are.0 in
      let apart : (key x == n) ≡ false = grind (arith, nat_tests) in
      rw apart (ap (λ l. x ∷ l) (all_above n (m + 1) xs (omega (arith, below)) are.1))

  first_alone : (n : ℕ) (x : X) (xs : List X) → AreNumberedFrom key n (x ∷ xs) → filter (λ x. key x == n) (x ∷ xs) ≡ x ∷ []
  first_alone n x xs are =
      let here : (key x == n) ≡ true = eq-eqb (key x) n are.0 in
      rw here (ap (λ l. x ∷ l) (none_at n (n + 1) xs (omega arith) are.1))

  but_first : (n : ℕ) (x : X) (xs : List X) → AreNumberedFrom key n (x ∷ xs) → filter (λ x. not (key x == n)) (x ∷ xs) ≡ xs
  but_first n x xs are =
      let here : (key x == n) ≡ true = eq-eqb (key x) n are.0 in
      rw here (all_above n (n + 1) xs (omega arith) are.1)

  heads : (x y : X) → y ∷ [] ≡ x ∷ [] → y ≡ x
  heads x y is = cc

  pub one_order : (n : ℕ) (xs ys : List X) → AreNumberedFrom key n xs → AreNumberedFrom key n ys → IsPermutation xs ys → xs ≡ ys
  one_order n [] [] at_x at_y same = refl
  one_order n [] (y ∷ ys) at_x at_y same = absurd (omega (arith, length_permutation _ _ same))
  one_order n (x ∷ xs) [] at_x at_y same = absurd (omega (arith, length_permutation _ _ same))
  one_order n (x ∷ xs) (y ∷ ys) at_x at_y same =
      let first = subst (λ l. IsPermutation l (filter (λ z. key z == n) (y ∷ ys))) (first_alone n x xs at_x) (IsPermutation-filter (λ z. key z == n) _ _ same) in
      let later = subst (λ l. IsPermutation l (filter (λ z. not (key z == n)) (y ∷ ys))) (but_first n x xs at_x) (IsPermutation-filter (λ z. not (key z == n)) _ _ same) in
      let head : y ≡ x = heads x y (sym (first_alone n y ys at_y) ∙ one_permutation x _ first) in
      ap₂ ◌∷◌ (sym head) (one_order (n + 1) xs ys at_x.1 at_y.1 (subst (IsPermutation xs) (but_first n y ys at_y) later))

-- ---- an entry is read back from its row

abbrev IsKnownIn : World → Entry → Type 0
IsKnownIn w e = IsSome (number_of w e.member)

abbrev entry_from : World → HistoryRow → Entry
entry_from w row = record {
  member = name_at w.people row.person;
  id = row.call;
  moment = row.moment;
  what = unwrap_or (kind_of_number row.what) Add;
  place = option_map (λ n. n - 1) row.task;
}

place_again : (place : Option ℕ) → option_map (λ n. n - 1) (option_map (λ n. n + 1) place) ≡ place
place_again None = refl
place_again (Some n) = let same : n + 1 - 1 ≡ n = omega arith in ap Some same

entry_again : (w : World) (board n : ℕ) (e : Entry) → IsKnownIn w e → entry_from w (entry_row w board (n, e)) ≡ e
entry_again w board n e known = λ i.
    let again : Entry = record {
      member = name_of_number w e.member known i;
      id = e.id;
      moment = e.moment;
      what = unwrap_or (kind_found e.what i) Add;
      place = place_again e.place i;
    } in
    again

entries_again : (w : World) (board n : ℕ) (es : List Entry) → AllByRecursion (IsKnownIn w) es → map (entry_from w) (map (entry_row w board) (numbered n es)) ≡ es
entries_again w board n [] known = refl
entries_again w board n (e ∷ es) known = ap₂ ◌∷◌ (entry_again w board n e known.0) (entries_again w board (n + 1) es known.1)

-- ---- histories by their rows

-- each board's entries are of people of the world, and no board has an empty list
record AreKnown (w : World) (h : Histories) : Type 0 where
  known : (board : ℕ) → AllByRecursion (IsKnownIn w) (entries_on h board)
  some : (board : ℕ) → IfSome (get h board) (λ es. es ≢ [])

people_of : (s : State) (board : ℕ) (es : List Entry) → AllByRecursion (IsEntryOf s board) es → AllByRecursion (IsKnownIn s.world) es
people_of s board [] all = tt
people_of s board (e ∷ es) all = (all.0.person, people_of s board es all.1)

known_of : (s : State) → AreHistories s → AreKnown s.world s.history
known_of s all = record {
  known = λ board. people_of s board (entries_on s.history board) (entries_of_board s board all);
  some = λ board. not_empty board (get s.history board) refl;
}
  where
    not_empty : (board : ℕ) (o : Option (List Entry)) → get s.history board ≡ o → IfSome o (λ es. es ≢ [])
    not_empty board None is = tt
    not_empty board (Some es) is = (board_is (IsHistoryOf s) s.history board es is all).some

-- whether a board has entries is known by its entries
same_gets : (a b : Option (List Entry)) → IfSome a (λ es. es ≢ []) → IfSome b (λ es. es ≢ []) → unwrap_or a [] ≡ unwrap_or b [] → a ≡ b
same_gets None None some_a some_b is = refl
same_gets None (Some es) some_a some_b is = absurd (some_b (sym is))
same_gets (Some es) None some_a some_b is = absurd (some_a is)
same_gets (Some es) (Some fs) some_a some_b is = ap Some is

module _ (w : World) (h g : Histories) (of_h : AreKnown w h) (of_g : AreKnown w g) (same : IsPermutation (flat_map (board_history w) (entries h)) (flat_map (board_history w) (entries g))) where
  same_on : (board : ℕ) → entries_on h board ≡ entries_on g board
  same_on board =
      let all = flat_map (board_history w) (entries h) in
      let rows_h = rows_of_board w board h all (IsPermutation-refl all) in
      let rows_g = rows_of_board w board g all same in
      let rows = IsPermutation-trans _ _ _ rows_h (IsPermutation-sym _ _ rows_g) in
      let one = one_order (λ (row : HistoryRow). row.number) 1 _ _ (rows_numbered w board 1 (entries_on h board)) (rows_numbered w board 1 (entries_on g board)) rows in
      sym (entries_again w board 1 (entries_on h board) (of_h.known board)) ∙ ap (map (entry_from w)) one ∙ entries_again w board 1 (entries_on g board) (of_g.known board)

  one_history : h ≡ g
  one_history = same_map nat_cmp_total nat_cmp-IsAntisymmetric h g (λ board. same_gets (get h board) (get g board) (of_h.some board) (of_g.some board) (same_on board))

-- states of one world with the same rows have the same histories
pub same_histories : (s t : State) → s.world ≡ t.world → AreHistories s → AreHistories t → IsPermutation (flat_map (board_history s.world) (entries s.history)) (flat_map (board_history t.world) (entries t.history)) → s.history ≡ t.history
same_histories s t world of_s of_t same =
    one_history s.world s.history t.history (known_of s of_s) (subst (λ w. AreKnown w t.history) (sym world) (known_of t of_t))
    (subst (λ w. IsPermutation (flat_map (board_history s.world) (entries s.history)) (flat_map (board_history w) (entries t.history))) (sym world) same)

-- ---- no rows are those of no history

no_entries : (es : List Entry) → length es ≡ 0 → es ≡ []
no_entries [] none = refl
no_entries (e ∷ es) none = absurd (omega (arith, none))

pub no_history : (s : State) (content : Content) → AreRowsOf s content → content.history ≡ [] → s.history ≡ empty
no_history s content of_s none = same_map nat_cmp_total nat_cmp-IsAntisymmetric s.history empty (λ board. none_on board ∙ sym (get-empty nat_cmp board))
  where
    none_on : (board : ℕ) → get s.history board ≡ None
    none_on board =
        let es = entries_on s.history board in
        let rows = rows_of_board s.world board s.history [] (subst (λ l. IsPermutation l (flat_map (board_history s.world) (entries s.history))) none of_s.same.history) in
        let count : length es ≡ 0 = sym (count_numbered 1 es) ∙ sym (length-map (numbered 1 es) (entry_row s.world board)) ∙ sym (length_permutation _ _ rows) in
        same_gets (get s.history board) None ((known_of s of_s.histories).some board) tt (no_entries es count)
