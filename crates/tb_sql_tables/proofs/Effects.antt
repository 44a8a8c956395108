-- What the statements do to a table, of the typed rows that it holds.
use Rattle.std.proofs.Common.{◌≡◌, ◌∙◌, ℕ, List, [], ◌∷◌, map, drop, slice_get, Bool, true, false, not, cond, Some, None, refl, sym, ap, ap₂, subst, IsPermutation, IsSorted, length, option_map, inl, arith}
use Rattle.std.specs.Prelude.{filter, ◌==◌, ◌||◌}
use Rattle.std.specs.List.{AllByRecursion, list_any}
use Rattle.std.proofs.lemmas.Bool.Decides.{nat_tests}
use Rattle.std.specs.declared.cmp.Ordering.TheVariants.{Less}
use Rattle.std.proofs.lemmas.List.{length-map}
use Rattle.std.proofs.lemmas.List.Sorted.{IsPermutation-map, IsPermutation-sym, IsPermutation-trans, length_permutation, All-permutation, Contains-permutation}
use Rattle.std.proofs.lemmas.List.Elements.{All-from_recursion, recursion_from_All}
use Rattle.sqlite_rules.proofs.ListLemmas.{contains_had}
use Rattle.sqlite_value.specs.declared.keys.Key.{Key}
use Rattle.sqlite_value.specs.Order.{Row}
use Rattle.sqlite_trees.specs.Tree.{rowid, IsAscending}
use Rattle.sqlite_trees.proofs.ListLemmas.{map-map, filter-map, filter_same, IsPermutation-filter}
use Rattle.sqlite_keyed.proofs.SortLemmas.{sorted_unique}
use Rattle.sqlite_sql.specs.Program.{given_at}
use Rattle.sqlite_sql.specs.Query.{Query, Output, output_cmp}
use Rattle.sqlite_sql.specs.Term.{Term, col, eval_all}
use Rattle.sqlite_sql.proofs.QueryLemmas.{output_cmp_total}
use Rattle.sqlite_schema.specs.declared.schema.Schema.{Schema}
use Rattle.sqlite_schema.specs.declared.command.Command.TheVariants.{Update, Delete}
use Rattle.sqlite_rules.specs.Cast.{cast_row}
use Rattle.sqlite.specs.State.{State, Shown}
use Rattle.tb_sql_tables.specs.Tables.{Plain, table_of, store_schema}
use Rattle.tb_sql_tables.specs.Content.{HasRows, HasKeyed}
use Rattle.tb_sql_tables.specs.Statements.{Ran}
use Rattle.tb_sql_tables.specs.Found.{AreFound, IsOneOf}
use Rattle.tb_sql_tables.proofs.Deletes.{rows_left}
use Rattle.tb_sql_tables.proofs.Updates.{cells_changed}
use Rattle.tb_sql_tables.proofs.Keyed.{keyed_changed}
use Rattle.tb_sql_tables.proofs.Queries.{query_of, program_of, passes, output_at, answered, cells_ordered}
use Rattle.tb_sql_tables.proofs.Statements.{Means, Edited, Asks, AsksIn, row_deleted, row_updated, row_answers}

pub each : {X : Type 0} {P : X → Type 0} → ((x : X) → P x) → (xs : List X) → AllByRecursion P xs
each h [] = tt
each h (x ∷ xs) = (h x, each h xs)

pub each_of : {X : Type 0} {P Q : X → Type 0} → ((x : X) → P x → Q x) → (xs : List X) → AllByRecursion P xs → AllByRecursion Q xs
each_of h [] all = tt
each_of h (x ∷ xs) all = (h x all.0, each_of h xs all.1)

pub each_left : {X : Type 0} (P : X → Type 0) (t : X → Bool) (xs : List X) → AllByRecursion P xs → AllByRecursion P (filter t xs)
each_left P t [] all = tt
each_left P t (x ∷ xs) all = elim (t x) as (λ b. AllByRecursion P (cond b (x ∷ filter t xs) (filter t xs))) [
  | true ↦ (all.0, each_left P t xs all.1)
  | false ↦ each_left P t xs all.1
]

pub all_left : {X : Type 0} (xs : List X) → filter (λ _. true) xs ≡ xs
all_left [] = refl
all_left (x ∷ xs) = ap (λ l. x ∷ l) (all_left xs)

-- the rows that pass a test are those of what passes it
rows_that : {X : Type 0} (row_of : X → Row) (p : Row → Bool) (t : X → Bool) (xs : List X) → AllByRecursion (λ x. p (row_of x) ≡ t x) xs → filter p (map row_of xs) ≡ map row_of (filter t xs)
rows_that row_of p t xs same = filter-map p row_of xs ∙ ap (map row_of) (filter_same _ t xs same)

pushed : {X : Type 0} (row_of : X → Row) (b : Bool) (x y : X) → cond b (row_of x) (row_of y) ≡ row_of (cond b x y)
pushed row_of true x y = refl
pushed row_of false x y = refl

-- the rows that are changed are those of what is changed
rows_set : {X : Type 0} (row_of : X → Row) (p : Row → Bool) (alter : Row → Row) (t : X → Bool) (set : X → X) (xs : List X) → AllByRecursion (λ x. p (row_of x) ≡ t x) xs → ((x : X) → alter (row_of x) ≡ row_of (set x))
    → map (λ r. cond (p r) (alter r) r) (map row_of xs) ≡ map row_of (map (λ x. cond (t x) (set x) x) xs)
rows_set row_of p alter t set [] same sets = refl
rows_set row_of p alter t set (x ∷ xs) same sets =
    ap₂ ◌∷◌ (ap₂ (λ b r. cond b r (row_of x)) same.0 (sets x) ∙ pushed row_of (t x) (set x) x) (rows_set row_of p alter t set xs same.1 sets)

module _ {X : Type 0} (row_of : X → Row) (t : X → Bool) (xs : List X) (at : ℕ) (plain : Plain) (place : slice_get store_schema.tables at ≡ Some (table_of plain)) (low : given_at [] plain.tree ≡ None)
    (text : List ℕ) (test : List Term) (old new : State) (has : old.now.schema ≡ store_schema) (params : Row) where
  -- ---- a table of which contracts see the columns

  module _ (ran : Ran text params old new) (q : Row → Bool) (tested : (r : Row) → passes test params r ≡ q (drop 1 r)) (same : AllByRecursion (λ x. q (row_of x) ≡ t x) xs) (stored : HasRows (map row_of xs) (old.now.trees plain.tree)) where
    pub cells_deleted : Means text (Delete at (program_of (query_of plain.tree test (col 1 0 ∷ []) []))) → HasRows (map row_of (filter (λ x. not (t x)) xs)) (new.now.trees plain.tree) × Edited plain.tree old.now new.now
    cells_deleted means =
        let effect = row_deleted at plain place low text old new has params ran.0 test means ran.1 in
        let left = rows_left store_schema old.now.trees new.now.trees (table_of plain) (passes test params) q effect.0 _ tested effect.1 effect.2 stored in
        let rows = rows_that row_of (λ cells. not (q cells)) (λ x. not (t x)) xs (each_of (λ x e. ap not e) xs same) in
        (subst (λ rs. HasRows rs (new.now.trees plain.tree)) rows left, effect.3)

    pub cells_updated : (project : List Term) (set : X → X) (alter : Row → Row) → Means text (Update at (program_of (query_of plain.tree test project [])))
        → ((r : Row) → rowid (eval_all project (params ∷ r ∷ [])) ≡ rowid r) → ((r : Row) → drop 1 (cast_row (table_of plain) (drop 1 (eval_all project (params ∷ r ∷ [])))) ≡ alter (drop 1 r))
        → ((x : X) → alter (row_of x) ≡ row_of (set x)) → HasRows (map row_of (map (λ x. cond (t x) (set x) x) xs)) (new.now.trees plain.tree) × Edited plain.tree old.now new.now
    cells_updated project set alter means same_id altered sets =
        let effect = row_updated at plain place low text old new has params ran.0 test project means ran.1 in
        let show = λ (r : Row). eval_all project (params ∷ r ∷ []) in
        let changed = cells_changed store_schema old.now.trees new.now.trees (table_of plain) (passes test params) show (λ r. cast_row (table_of plain) (drop 1 (show r))) effect.0 same_id (λ r. refl) effect.1 effect.2 stored.shaped
        q alter tested altered _ stored in
        (subst (λ rs. HasRows rs (new.now.trees plain.tree)) (rows_set row_of q alter t set xs same sets) changed, effect.3)

  -- ---- a table of which contracts see the rowids as well

  module _ (ran : Ran text params old new) (same : AllByRecursion (λ x. passes test params (row_of x) ≡ t x) xs) (stored : HasKeyed (map row_of xs) (old.now.trees plain.tree)) where
    pub keyed_updated : (project : List Term) (set : X → X) → Means text (Update at (program_of (query_of plain.tree test project [])))
        → ((r : Row) → rowid (eval_all project (params ∷ r ∷ [])) ≡ rowid r) → ((x : X) → cast_row (table_of plain) (drop 1 (eval_all project (params ∷ row_of x ∷ []))) ≡ row_of (set x))
        → HasKeyed (map row_of (map (λ x. cond (t x) (set x) x) xs)) (new.now.trees plain.tree) × Edited plain.tree old.now new.now
    keyed_updated project set means same_id sets =
        let effect = row_updated at plain place low text old new has params ran.0 test project means ran.1 in
        let show = λ (r : Row). eval_all project (params ∷ r ∷ []) in
        let changed = keyed_changed store_schema old.now.trees new.now.trees (table_of plain) (passes test params) show effect.0 _ same_id effect.1 effect.2 stored in
        (subst (λ rs. HasKeyed rs (new.now.trees plain.tree)) (rows_set row_of (passes test params) (λ r. cast_row (table_of plain) (drop 1 (show r))) t set xs same sets) changed, effect.3)

-- ---- a query

-- the answer is what is shown of these, in an order that ORDER BY allows
pub record IsShownOf {X : Type 0} (query : Query) (out : X → Output) (xs : List X) (rows : List Row) : Type 0 where
  pub ordered : List Output
  pub same : IsPermutation (map out xs) ordered
  pub sorted : IsSorted (output_cmp query) ordered
  pub shown : rows ≡ map (λ o. o.1) ordered

-- of a table of which contracts see the rowids as well, under any schema
module _ {X : Type 0} (under : Schema) (row_of : X → Row) (t : X → Bool) (xs : List X) (tree : ℕ) (low : given_at [] tree ≡ None) (text : List ℕ) (test project : List Term) (order : List (Term × Key))
    (asks : AsksIn under text tree test project order) (old new : State) (params : Row) (rows : List Row) (has : old.now.schema ≡ under) (shown : Shown text params old new rows) where
  pub keyed_shown_in : AllByRecursion (λ x. passes test params (row_of x) ≡ t x) xs → HasKeyed (map row_of xs) (old.now.trees tree)
      → IsShownOf (query_of tree test project order) (λ x. output_at tree low test project order params (row_of x)) (filter t xs) rows
  keyed_shown_in same stored =
      let out = output_at tree low test project order params in
      let a = answered tree low test project order old.now params rows (row_answers under text tree test project order asks old new params rows has shown) in
      let here = IsPermutation-map out _ _ (IsPermutation-filter (passes test params) _ _ stored.same) in
      let mine : map out (filter (passes test params) (map row_of xs)) ≡ map (λ x. out (row_of x)) (filter t xs) = ap (map out) (rows_that row_of (passes test params) t xs same) ∙ map-map out row_of _ in
      record { ordered = a.0; same = subst (λ l. IsPermutation l a.0) mine (IsPermutation-trans _ _ _ here a.1); sorted = a.2; shown = a.3 }

module _ {X : Type 0} (row_of : X → Row) (t : X → Bool) (xs : List X) (tree : ℕ) (low : given_at [] tree ≡ None) (text : List ℕ) (test project : List Term) (order : List (Term × Key)) (asks : Asks text tree test project order)
    (old new : State) (params : Row) (rows : List Row) (has : old.now.schema ≡ store_schema) (shown : Shown text params old new rows) where
  -- of a table of which contracts see the columns
  pub cells_shown : (q : Row → Bool) (out : Row → Output) → ((r : Row) → passes test params r ≡ q (drop 1 r)) → ((r : Row) → output_at tree low test project order params r ≡ out (drop 1 r))
      → AllByRecursion (λ x. q (row_of x) ≡ t x) xs → HasRows (map row_of xs) (old.now.trees tree) → IsShownOf (query_of tree test project order) (λ x. out (row_of x)) (filter t xs) rows
  cells_shown q out tested shows same stored =
      let a = cells_ordered tree low test project order old.now params rows (map row_of xs) q out tested shows stored (row_answers store_schema text tree test project order asks old new params rows has shown) in
      let mine : map out (filter q (map row_of xs)) ≡ map (λ x. out (row_of x)) (filter t xs) = ap (map out) (rows_that row_of q t xs same) ∙ map-map out row_of _ in
      record { ordered = a.0; same = subst (λ l. IsPermutation l a.0) mine a.1; sorted = a.2; shown = a.3 }

  -- of a table of which contracts see the rowids as well
  pub keyed_shown : AllByRecursion (λ x. passes test params (row_of x) ≡ t x) xs → HasKeyed (map row_of xs) (old.now.trees tree)
      → IsShownOf (query_of tree test project order) (λ x. output_at tree low test project order params (row_of x)) (filter t xs) rows
  keyed_shown same stored = keyed_shown_in store_schema row_of t xs tree low text test project order asks old new params rows has shown same stored

read_back : {X : Type 0} (read : Row → X) (out : X → Output) (xs : List X) → AllByRecursion (λ x. read (out x).1 ≡ x) xs → map (λ x. read (out x).1) xs ≡ xs
read_back read out [] reads = refl
read_back read out (x ∷ xs) reads = ap₂ ◌∷◌ reads.0 (read_back read out xs reads.1)

module _ {X : Type 0} (read : Row → X) (query : Query) (out : X → Output) (xs : List X) (rows : List Row) (reads : AllByRecursion (λ x. read (out x).1 ≡ x) xs) (is : IsShownOf query out xs rows) where
  pub found_same : IsPermutation xs (map read rows)
  found_same =
      let shown : map (λ o. read o.1) (map out xs) ≡ xs = map-map (λ (o : Output). read o.1) out xs ∙ read_back read out xs reads in
      let answer : map (λ (o : Output). read o.1) is.ordered ≡ map read rows = sym (map-map read (λ (o : Output). o.1) is.ordered) ∙ ap (map read) (sym is.shown) in
      subst (λ l. IsPermutation l (map read rows)) shown (subst (IsPermutation _) answer (IsPermutation-map (λ (o : Output). read o.1) _ _ is.same))

  -- where the rows can stand in strict order, they are found in that order
  pub found_in_order : (IsBefore : X → X → Type 0) → ((a b : X) → IsBefore a b → output_cmp query (out a) (out b) ≡ Less) → (ys : List X) → IsPermutation ys xs → AllByRecursion (λ x. read (out x).1 ≡ x) ys
      → IsAscending IsBefore ys → map read rows ≡ ys
  found_in_order IsBefore lower ys permuted reads_ys rise =
      let same : IsPermutation (map out ys) is.ordered = IsPermutation-trans _ _ _ (IsPermutation-map out _ _ permuted) is.same in
      let all : is.ordered ≡ map out ys = sorted_unique (output_cmp query) (output_cmp_total query) (map out ys) is.ordered (rises ys rise) same is.sorted in
      ap (map read) (is.shown ∙ ap (map (λ (o : Output). o.1)) all) ∙ map-map read (λ (o : Output). o.1) (map out ys) ∙ map-map (λ (o : Output). read o.1) out ys ∙ read_back read out ys reads_ys
    where
      above : (a : X) (bs : List X) → AllByRecursion (IsBefore a) bs → AllByRecursion (λ o. output_cmp query (out a) o ≡ Less) (map out bs)
      above a [] h = tt
      above a (b ∷ bs) h = (lower a b h.0, above a bs h.1)

      rises : (bs : List X) → IsAscending IsBefore bs → IsAscending (λ a b. output_cmp query a b ≡ Less) (map out bs)
      rises [] h = tt
      rises (b ∷ bs) h = (above b bs h.0, rises bs h.1)

  pub found : (IsBefore : X → X → Type 0) → ((a b : X) → IsBefore a b → output_cmp query (out a) (out b) ≡ Less) → AreFound IsBefore xs (map read rows)
  found IsBefore lower = record {
    same = found_same;
    in_order = λ ys permuted rise. found_in_order IsBefore lower ys permuted (recursion_from_All _ ys (All-permutation (λ x. read (out x).1 ≡ x) xs ys (IsPermutation-sym ys xs permuted) (All-from_recursion _ xs reads))) rise;
  }

  -- the first of the answer is one of them, if there is one
  pub found_one : IsOneOf xs (option_map read (slice_get rows 0))
  found_one = first_one rows found_same
    where
      first_one : (answer : List Row) → IsPermutation xs (map read answer) → IsOneOf xs (option_map read (slice_get answer 0))
      first_one [] same = empty xs (length_permutation _ _ same)
        where
          empty : (zs : List X) → length (map read []) ≡ length zs → zs ≡ []
          empty [] e = refl
          empty (z ∷ zs) e = absurd (omega arith)
      first_one (r ∷ answer) same = Contains-permutation (read r ∷ map read answer) xs (read r) (IsPermutation-sym xs _ same) (contains_had (read r ∷ map read answer) (read r) (inl refl))

any_left : {X : Type 0} (t : X → Bool) (xs : List X) → not (length (filter t xs) == 0) ≡ list_any t xs
any_left t [] = refl
any_left t (x ∷ xs) = elim (t x) as (λ b. not (length (cond b (x ∷ filter t xs) (filter t xs)) == 0) ≡ (b || list_any t xs)) [
  | true ↦ let some : (length (x ∷ filter t xs) == 0) ≡ false = grind (arith, nat_tests) in ap not some
  | false ↦ any_left t xs
]

-- the answer has a row where one of them passes the test
pub found_any : {X : Type 0} (query : Query) (out : X → Output) (t : X → Bool) (xs : List X) (rows : List Row) → IsShownOf query out (filter t xs) rows → not (length rows == 0) ≡ list_any t xs
found_any query out t xs rows is =
    let shown : length rows ≡ length is.ordered = ap length is.shown ∙ length-map is.ordered (λ (o : Output). o.1) in
    let same : length is.ordered ≡ length (filter t xs) = omega (arith, length_permutation (map out (filter t xs)) is.ordered is.same, length-map (filter t xs) out) in
    ap (λ n. not (n == 0)) (shown ∙ same) ∙ any_left t xs
