-- What a query over one table answers.
use Rattle.std.proofs.Common.{◌≡◌, inl, inr, ℕ, ℤ, pos, negsuc, List, [], ◌∷◌, ◌++◌, map, drop, Bool, true, false, cond, Option, Some, None, refl, sym, ap, subst, subst₂, ◌∙◌, IsPermutation, IsSorted}
use Rattle.std.specs.Prelude.{filter, flat_map}
use Rattle.std.specs.List.{list_all}
use Rattle.sqlite_value.specs.declared.value.Value.TheVariants.{Null, Int}
use Rattle.sqlite_value.specs.declared.keys.Key.{Key}
use Rattle.sqlite_value.specs.Order.{Row}
use Rattle.sqlite_trees.proofs.ListLemmas.{map-map, filter-map, filter_same, IsPermutation-filter}
use Rattle.std.proofs.lemmas.List.Sorted.{IsPermutation-map, IsPermutation-trans}
use Rattle.sqlite_rules.proofs.ListLemmas.{all_from}
use Rattle.tb_sql_tables.specs.Content.{HasRows}
use Rattle.sqlite_schema.specs.declared.program.Program.{Program}
use Rattle.sqlite_sql.specs.Term.{Term, Env, lit, eval_all, holds}
use Rattle.sqlite_sql.specs.Query.{Query, Output, inner, end, IsAnswer, output, output_cmp}
use Rattle.sqlite_sql.specs.Program.{given_at, overlay}
use Rattle.sqlite.specs.Effect.{Database, Answers}

-- SELECT project FROM tree WHERE filter ORDER BY order
abbrev pub query_of : ℕ → List Term → List Term → List (Term × Key) → Query
query_of tree test project order = record {
  from = inner tree end;
  filter = test;
  group = None;
  project = project;
  distinct = false;
  collations = [];
  order = order;
  limit = lit (Int (negsuc 0));
  offset = lit (Int (pos 0));
}

abbrev pub program_of : Query → Program
program_of q = record { lets = []; body = q }

abbrev pub passes : List Term → Row → Row → Bool
passes test params row = list_all (holds (params ∷ row ∷ [])) test

chosen : (p : Row → Bool) (f : Row → Env) (rows : List Row) → flat_map (λ r. cond (p r) (f r ∷ []) []) rows ≡ map f (filter p rows)
chosen p f [] = refl
chosen p f (r ∷ rows) = elim (p r) as (λ b. cond b (f r ∷ []) [] ++ flat_map (λ x. cond (p x) (f x ∷ []) []) rows ≡ map f (cond b (r ∷ filter p rows) (filter p rows))) [
  | true ↦ ap (λ l. f r ∷ l) (chosen p f rows)
  | false ↦ chosen p f rows
]

module _ (tree : ℕ) (low : given_at [] tree ≡ None) (test project : List Term) (order : List (Term × Key)) where
  abbrev query : Query
  query = query_of tree test project order

  -- what is sorted by and shown of a row
  abbrev pub output_at : Row → Row → Output
  output_at params row = output query (params ∷ row ∷ [])

  -- the rows that pass the test, shown in an order that ORDER BY allows
  pub answered : (db : Database) (params : Row) (rows : List Row) → Answers db (program_of query) params rows
      → (ordered : List Output) × IsPermutation (map (output_at params) (filter (passes test params) (db.trees tree))) ordered × IsSorted (output_cmp query) ordered × (rows ≡ map (λ o. o.1) ordered)
  answered db params rows h =
      let a : IsAnswer query (overlay db.trees []) params rows = h.answer Null in
      let seen : overlay db.trees [] tree ≡ db.trees tree = ap (λ o. Rattle.std.proofs.Common.unwrap_or o (db.trees tree)) low in
      let staged : a.staged ≡ map (λ r. params ∷ r ∷ []) (filter (passes test params) (db.trees tree)) =
      a.grouped ∙ chosen (passes test params) (λ r. params ∷ r ∷ []) (overlay db.trees [] tree) ∙ ap (λ l. map (λ r. params ∷ r ∷ []) (filter (passes test params) l)) seen in
      let kept : a.kept ≡ map (output_at params) (filter (passes test params) (db.trees tree)) =
      a.distinct ∙ ap (map (output query)) staged ∙ map-map (output query) (λ r. params ∷ r ∷ []) _ in
      (a.ordered, subst (λ l. IsPermutation l a.ordered) kept a.same, a.sorted, a.shown)

  -- in some order
  pub shown_rows : (db : Database) (params : Row) (rows : List Row) → Answers db (program_of query) params rows
      → IsPermutation (map (λ r. eval_all project (params ∷ r ∷ [])) (filter (passes test params) (db.trees tree))) rows
  shown_rows db params rows h =
      let a = answered db params rows h in
      subst₂ IsPermutation (map-map (λ (o : Output). o.1) (output_at params) _) (sym a.3) (IsPermutation-map (λ (o : Output). o.1) _ _ a.1)

  -- of a table that has these rows, those that pass a test on their cells, in some order
  pub cells_answered : (db : Database) (params : Row) (answer rows : List Row) (pass : Row → Bool) (show : Row → Row) → ((r : Row) → passes test params r ≡ pass (drop 1 r))
      → ((r : Row) → eval_all project (params ∷ r ∷ []) ≡ show (drop 1 r)) → HasRows rows (db.trees tree) → Answers db (program_of query) params answer → IsPermutation (map show (filter pass rows)) answer
  cells_answered db params answer rows pass show tested shown h answers =
      let a = answered db params answer answers in
      let stored = db.trees tree in
      let matched = filter (passes test params) stored in
      let cells : map (drop 1) matched ≡ filter pass (map (drop 1) stored) =
      ap (map (drop 1)) (filter_same _ (λ r. pass (drop 1 r)) stored (all_from _ stored (λ r _. tested r))) ∙ sym (filter-map pass (drop 1) stored) in
      let as_shown : map (λ o. o.1) (map (output_at params) matched) ≡ map show (filter pass (map (drop 1) stored)) =
      map-map (λ (o : Output). o.1) (output_at params) matched ∙ (λ i. map (λ r. shown r i) matched) ∙ sym (map-map show (drop 1) matched) ∙ ap (map show) cells in
      let out : IsPermutation (map show (filter pass (map (drop 1) stored))) answer =
      subst₂ IsPermutation as_shown (sym a.3) (IsPermutation-map (λ (o : Output). o.1) _ _ a.1) in
      IsPermutation-trans _ _ _ (IsPermutation-map show _ _ (IsPermutation-filter pass _ _ h.same)) out

  -- the same with what the answer is sorted by
  pub cells_ordered : (db : Database) (params : Row) (answer rows : List Row) (pass : Row → Bool) (out : Row → Output) → ((r : Row) → passes test params r ≡ pass (drop 1 r))
      → ((r : Row) → output_at params r ≡ out (drop 1 r)) → HasRows rows (db.trees tree) → Answers db (program_of query) params answer
      → (ordered : List Output) × IsPermutation (map out (filter pass rows)) ordered × IsSorted (output_cmp query) ordered × (answer ≡ map (λ o. o.1) ordered)
  cells_ordered db params answer rows pass out tested shown h answers =
      let a = answered db params answer answers in
      let stored = db.trees tree in
      let matched = filter (passes test params) stored in
      let cells : map (drop 1) matched ≡ filter pass (map (drop 1) stored) =
      ap (map (drop 1)) (filter_same _ (λ r. pass (drop 1 r)) stored (all_from _ stored (λ r _. tested r))) ∙ sym (filter-map pass (drop 1) stored) in
      let as_shown : map (output_at params) matched ≡ map out (filter pass (map (drop 1) stored)) =
      (λ i. map (λ r. shown r i) matched) ∙ sym (map-map out (drop 1) matched) ∙ ap (map out) cells in
      (a.0, IsPermutation-trans _ _ _ (IsPermutation-map out _ _ (IsPermutation-filter pass _ _ h.same)) (subst (λ l. IsPermutation l a.0) as_shown a.1), a.2, a.3)
