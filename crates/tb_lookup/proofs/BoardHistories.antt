-- The histories of boards, one apart from the others, and the rows of one.
use Rattle.std.proofs.Common.{◌≡◌, ◌∙◌, ◌==◌, ◌+◌, ℕ, suc, Bool, true, false, cond, List, [], ◌∷◌, ◌++◌, map, length, filter, flat_map, Option, Some, None, Ordering, unwrap_or, refl, sym, ap, ap₂, subst, eq-eqb, inl, inr, IsPermutation}
use Rattle.std.specs.List.{AllByRecursion}
use Rattle.std.specs.Ordering.{eq_by_cmp, is_eq, nat_cmp}
use Rattle.std.specs.Cmp.{IsTotalOrder, eq_by_cmp_equiv, unsigned_ties}
use Rattle.std.specs.declared.cmp.Ordering.TheVariants.{Less, Equal, Greater}
use Rattle.std.specs.FinMap.{FinMap, IsAntisymmetric, entries, find, get, get-entries, get-insert, get-remove, get_tied, insert, nat_cmp-IsAntisymmetric, remove, same_map}
use Rattle.std.proofs.lemmas.Bool.{cases_Bool}
use Rattle.std.proofs.lemmas.Cmp.{nat_cmp_total}
use Rattle.std.proofs.lemmas.List.{append-nil}
use Rattle.std.proofs.lemmas.List.Elements.{filter-append}
use Rattle.std.proofs.lemmas.List.Sorted.{IsPermutation-sym, IsPermutation-trans}
use Rattle.sqlite_trees.proofs.ListLemmas.{all-permutation, IsPermutation-filter, IsPermutation-flat_map, IsPermutation-same}
use Rattle.tb_board.specs.declared.world.World.{World}
use Rattle.tb_history.specs.declared.entry.Entry.{Entry}
use Rattle.tb_history.specs.History.{Histories, entries_on, numbered}
use Rattle.tb_sql_tables.specs.declared.rows.HistoryRow.{HistoryRow}
use Rattle.tb_sql_pages.specs.Last.{AreNumberedFrom}
use Rattle.tb_lookup.specs.Stored.{board_history, entry_row}
use Rattle.tb_lookup.proofs.Entries.{insert_permutes}

-- ---- a map but for a key

module _ {K X : Type 0} (R : K → K → Ordering) (o : IsTotalOrder R) (exact : IsAntisymmetric R) where
  twice : (b : Bool) (some rest : Option X) → cond b some (cond b None rest) ≡ cond b some rest
  twice true some rest = refl
  twice false some rest = refl

  put_back : (m : FinMap R X) (k : K) (v : X) → insert (remove m k) k v ≡ insert m k v
  put_back m k v = same_map o exact _ _ (λ q.
      get-insert o (remove m k) k v q ∙ ap (cond (eq_by_cmp R q k) (Some v)) (get-remove o m k q)
      ∙ twice (eq_by_cmp R q k) (Some v) (get m q) ∙ sym (get-insert o m k v q))

  pub none_there : (m : FinMap R X) (k : K) → get (remove m k) k ≡ None
  none_there m k = get-remove o m k k ∙ ap (λ b. cond b None (get m k)) ((eq_by_cmp_equiv o).refl k)

  -- an entry that is put replaces that of its key
  pub key_put : (m : FinMap R X) (k : K) (v : X) → IsPermutation ((k, v) ∷ entries (remove m k)) (entries (insert m k v))
  key_put m k v = subst (λ (n : FinMap R X). IsPermutation ((k, v) ∷ entries (remove m k)) (entries n)) (put_back m k v) (insert_permutes R o (remove m k) k v (none_there m k))

  found_again : (m : FinMap R X) (k : K) (v : X) → get m k ≡ Some v → insert m k v ≡ m
  found_again m k v is = same_map o exact _ _ (λ q. get-insert o m k v q ∙ by (eq_by_cmp R q k) q refl)
    where
      tied : (r : Ordering) → is_eq r ≡ true → r ≡ Equal
      tied Less h = absurd (cc)
      tied Equal h = refl
      tied Greater h = absurd (cc)

      by : (b : Bool) (q : K) → eq_by_cmp R q k ≡ b → cond b (Some v) (get m q) ≡ get m q
      by true q same = sym is ∙ get_tied o m q k (tied (R q k) same)
      by false q other = refl

  -- a key that is there, and the others
  pub key_there : (m : FinMap R X) (k : K) (v : X) → get m k ≡ Some v → IsPermutation ((k, v) ∷ entries (remove m k)) (entries m)
  key_there m k v is = subst (λ (n : FinMap R X). IsPermutation ((k, v) ∷ entries (remove m k)) (entries n)) (found_again m k v is) (key_put m k v)

  -- all are others where the key isn't there
  pub key_missing : (m : FinMap R X) (k : K) → get m k ≡ None → remove m k ≡ m
  key_missing m k none = same_map o exact _ _ (λ q. get-remove o m k q ∙ by (eq_by_cmp R q k) q refl)
    where
      tied : (r : Ordering) → is_eq r ≡ true → r ≡ Equal
      tied Less h = absurd (cc)
      tied Equal h = refl
      tied Greater h = absurd (cc)

      by : (b : Bool) (q : K) → eq_by_cmp R q k ≡ b → cond b None (get m q) ≡ get m q
      by true q same = sym none ∙ get_tied o m q k (tied (R q k) same)
      by false q other = refl

-- ---- histories but for that of a board

-- the histories of all other boards
abbrev pub others : Histories → ℕ → List (ℕ × List Entry)
others h board = entries (remove h board)

-- what is made of each board's entries, first of one board's and then of the others'
pub board_apart : {B : Type 0} (f : ℕ × List Entry → List B) (h : Histories) (board : ℕ) → f (board, []) ≡ [] → IsPermutation (f (board, entries_on h board) ++ flat_map f (others h board)) (flat_map f (entries h))
board_apart f h board none = by (get h board) refl
  where
    by : (o : Option (List Entry)) → get h board ≡ o → IsPermutation (f (board, unwrap_or o []) ++ flat_map f (others h board)) (flat_map f (entries h))
    by None is = IsPermutation-same _ _ (ap (λ l. l ++ flat_map f (others h board)) none ∙ ap (λ (m : Histories). flat_map f (entries m)) (key_missing nat_cmp nat_cmp_total nat_cmp-IsAntisymmetric h board is))
    by (Some es) is = IsPermutation-flat_map f _ _ (key_there nat_cmp nat_cmp_total nat_cmp-IsAntisymmetric h board es is)

-- where all histories are so, that of a board with entries is
pub board_is : (P : ℕ × List Entry → Type 0) (h : Histories) (board : ℕ) (es : List Entry) → get h board ≡ Some es → AllByRecursion P (entries h) → P (board, es)
board_is P h board es is all = (all-permutation P _ _ (IsPermutation-sym _ _ (key_there nat_cmp nat_cmp_total nat_cmp-IsAntisymmetric h board es is)) all).0

-- and so are the others
pub others_are : (P : ℕ × List Entry → Type 0) (h : Histories) (board : ℕ) → AllByRecursion P (entries h) → AllByRecursion P (others h board)
others_are P h board all = by (get h board) refl
  where
    by : (o : Option (List Entry)) → get h board ≡ o → AllByRecursion P (others h board)
    by None is = subst (λ (m : Histories). AllByRecursion P (entries m)) (sym (key_missing nat_cmp nat_cmp_total nat_cmp-IsAntisymmetric h board is)) all
    by (Some es) is = (all-permutation P _ _ (IsPermutation-sym _ _ (key_there nat_cmp nat_cmp_total nat_cmp-IsAntisymmetric h board es is)) all).1

keys_differ : {X : Type 0} (k : ℕ) (es : List (ℕ × X)) → find nat_cmp k es ≡ None → AllByRecursion (λ (e : ℕ × X). (e.0 == k) ≡ false) es
keys_differ k [] none = tt
keys_differ k (e ∷ es) none = elim (cases_Bool (eq_by_cmp nat_cmp k e.0)) [
  | inl here ↦ let some : Some e.1 ≡ None = rw here at none in absurd (cc)
  | inr other ↦ (unsigned_ties e.0 k ∙ (eq_by_cmp_equiv nat_cmp_total).symm e.0 k ∙ other, keys_differ k es (rw other at none))
]

others_differ : (h : Histories) (board : ℕ) → AllByRecursion (λ (e : ℕ × List Entry). (e.0 == board) ≡ false) (others h board)
others_differ h board = keys_differ board (others h board) (sym (get-entries (remove h board) board) ∙ none_there nat_cmp nat_cmp_total nat_cmp-IsAntisymmetric h board)

-- ---- the rows of a board

abbrev pub is_row_on : ℕ → HistoryRow → Bool
is_row_on board row = row.board == board

module _ (w : World) (board : ℕ) where
  own_rows : (es : List (ℕ × Entry)) → filter (is_row_on board) (map (entry_row w board) es) ≡ map (entry_row w board) es
  own_rows [] = refl
  own_rows (e ∷ es) = rw (eq-eqb board board refl) (ap (λ l. entry_row w board e ∷ l) (own_rows es))

  none_of_one : (other : ℕ) (es : List (ℕ × Entry)) → (other == board) ≡ false → filter (is_row_on board) (map (entry_row w other) es) ≡ []
  none_of_one other [] apart = refl
  none_of_one other (e ∷ es) apart = rw apart (none_of_one other es apart)

  none_of_others : (es : List (ℕ × List Entry)) → AllByRecursion (λ (e : ℕ × List Entry). (e.0 == board) ≡ false) es → filter (is_row_on board) (flat_map (board_history w) es) ≡ []
  none_of_others [] apart = refl
  none_of_others (e ∷ es) apart =
      filter-append (is_row_on board) (board_history w e) (flat_map (board_history w) es)
      ∙ ap₂ ◌++◌ (none_of_one e.0 (numbered 1 e.1) apart.0) (none_of_others es apart.1)

  -- the rows of a board are those of its entries
  pub rows_of_board : (h : Histories) (rows : List HistoryRow) → IsPermutation rows (flat_map (board_history w) (entries h)) → IsPermutation (map (entry_row w board) (numbered 1 (entries_on h board))) (filter (is_row_on board) rows)
  rows_of_board h rows same =
      let own = map (entry_row w board) (numbered 1 (entries_on h board)) in
      let rest = flat_map (board_history w) (others h board) in
      let alone : filter (is_row_on board) (own ++ rest) ≡ own =
      filter-append (is_row_on board) own rest ∙ ap₂ ◌++◌ (own_rows (numbered 1 (entries_on h board))) (none_of_others (others h board) (others_differ h board)) ∙ append-nil own in
      let all = IsPermutation-trans (own ++ rest) (flat_map (board_history w) (entries h)) rows (board_apart (board_history w) h board refl) (IsPermutation-sym _ _ same) in
      subst (λ (l : List HistoryRow). IsPermutation l (filter (is_row_on board) rows)) alone (IsPermutation-filter (is_row_on board) (own ++ rest) rows all)

  pub rows_numbered : (n : ℕ) (es : List Entry) → AreNumberedFrom (λ (row : HistoryRow). row.number) n (map (entry_row w board) (numbered n es))
  rows_numbered n [] = tt
  rows_numbered n (e ∷ es) = (refl, rows_numbered (n + 1) es)

pub count_numbered : (n : ℕ) (es : List Entry) → length (numbered n es) ≡ length es
count_numbered n [] = refl
count_numbered n (e ∷ es) = ap suc (count_numbered (n + 1) es)
