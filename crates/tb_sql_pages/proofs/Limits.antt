-- What a query answers that shows no more than so many rows.
use Rattle.std.proofs.Common.{◌≡◌, ◌∙◌, ℕ, pos, List, [], map, reverse, drop, take, Bool, None, false, refl, sym, ap, subst, IsPermutation}
use Rattle.std.specs.Prelude.{filter}
use Rattle.std.specs.List.{AllByRecursion}
use Rattle.std.specs.declared.cmp.Ordering.TheVariants.{Less}
use Rattle.std.proofs.lemmas.List.{take-map}
use Rattle.sqlite_value.specs.declared.keys.Key.{Key}
use Rattle.sqlite_value.specs.declared.value.Value.TheVariants.{Null, Int}
use Rattle.sqlite_value.specs.Order.{Row}
use Rattle.sqlite_trees.proofs.ListLemmas.{map-map, filter-map, filter_same}
use Rattle.sqlite_sql.specs.Program.{given_at, overlay}
use Rattle.sqlite_sql.specs.Query.{Query, Output, IsAnswer, output_cmp}
use Rattle.sqlite_sql.specs.Term.{Term, lit}
use Rattle.sqlite_schema.specs.declared.command.Command.TheVariants.{Select}
use Rattle.sqlite.specs.Effect.{Database, Answers}
use Rattle.sqlite.specs.Listing.{reads_listing}
use Rattle.sqlite.specs.State.{State, Shown}
use Rattle.sqlite.proofs.Callers.{reads_as}
use Rattle.tb_sql_tables.specs.Tables.{store_schema}
use Rattle.tb_sql_tables.specs.Content.{HasRows}
use Rattle.tb_sql_tables.proofs.Effects.{IsShownOf, found}
use Rattle.tb_sql_tables.proofs.Queries.{query_of, program_of, passes, output_at, cells_ordered}
use Rattle.tb_sql_tables.proofs.Statements.{Means}
use Rattle.tb_sql_pages.specs.Last.{AreLast}
use Rattle.tb_sql_pages.proofs.Turned.{last_turned}

-- SELECT project FROM tree WHERE test ORDER BY order LIMIT count
abbrev pub query_up_to : ℕ → ℕ → List Term → List Term → List (Term × Key) → Query
query_up_to count tree test project order = record (query_of tree test project order) { limit = lit (Int (pos count)) }

-- its answer is the first of an answer of the query without a limit
pub record IsStartOfAnswer (count tree : ℕ) (test project : List Term) (order : List (Term × Key)) (db : Database) (params : Row) (rows : List Row) : Type 0 where
  pub all : List Row
  pub whole : Answers db (program_of (query_of tree test project order)) params all
  pub first : rows ≡ take count all

pub without_limit : (count tree : ℕ) (test project : List Term) (order : List (Term × Key)) (db : Database) (params : Row) (rows : List Row) → Answers db (program_of (query_up_to count tree test project order)) params rows
    → IsStartOfAnswer count tree test project order db params rows
without_limit count tree test project order db params rows h =
    let a : IsAnswer (query_up_to count tree test project order) (overlay db.trees []) params rows = h.answer Null in
    record {
      all = map (λ o. o.1) a.ordered;
      whole = record {
        typed = h.typed;
        answer = λ lost. record { staged = a.staged; grouped = a.grouped; kept = a.kept; distinct = a.distinct; ordered = a.ordered; same = a.same; sorted = a.sorted; shown = refl };
      };
      first = a.shown;
    }

-- the text is such a query, and does not look at the list of the tables
pub record AsksUpTo (count : ℕ) (text : List ℕ) (tree : ℕ) (test project : List Term) (order : List (Term × Key)) : Type 0 where
  pub names : List (List ℕ)
  pub means : Means text (Select (program_of (query_up_to count tree test project order)) names)
  pub unlisted : reads_listing store_schema text ≡ false

-- the answer is the first of what is shown of these, in an order that ORDER BY allows
pub record IsStartOf {X : Type 0} (count : ℕ) (query : Query) (out : X → Output) (xs : List X) (rows : List Row) : Type 0 where
  pub all : List Row
  pub whole : IsShownOf query out xs all
  pub first : rows ≡ take count all

-- of a table of which contracts see the columns
module _ {X : Type 0} (row_of : X → Row) (t : X → Bool) (xs : List X) (count tree : ℕ) (low : given_at [] tree ≡ None) (text : List ℕ) (test project : List Term) (order : List (Term × Key))
    (asks : AsksUpTo count text tree test project order) (old new : State) (params : Row) (rows : List Row) (has : old.now.schema ≡ store_schema) (shown : Shown text params old new rows) where
  pub cells_first : (q : Row → Bool) (out : Row → Output) → ((r : Row) → passes test params r ≡ q (drop 1 r)) → ((r : Row) → output_at tree low test project order params r ≡ out (drop 1 r))
      → AllByRecursion (λ x. q (row_of x) ≡ t x) xs → HasRows (map row_of xs) (old.now.trees tree) → IsStartOf count (query_of tree test project order) (λ x. out (row_of x)) (filter t xs) rows
  cells_first q out tested shows same stored =
      let answers : Answers old.now (program_of (query_up_to count tree test project order)) params rows =
      reads_as text params old new store_schema has (Select (program_of (query_up_to count tree test project order)) asks.names) asks.means.is asks.means.bare asks.unlisted rows shown in
      let start = without_limit count tree test project order old.now params rows answers in
      let a = cells_ordered tree low test project order old.now params start.all (map row_of xs) q out tested shows stored start.whole in
      let mine : map out (filter q (map row_of xs)) ≡ map (λ x. out (row_of x)) (filter t xs) = ap (map out) (filter-map q row_of xs ∙ ap (map row_of) (filter_same _ t xs same)) ∙ map-map out row_of _ in
      record { all = start.all; whole = record { ordered = a.0; same = subst (λ l. IsPermutation l a.0) mine a.1; sorted = a.2; shown = a.3 }; first = start.first }

-- from the last one on, what the rows read as is the last of these, turned round
pub found_last : {X : Type 0} (read : Row → X) (count : ℕ) (query : Query) (out : X → Output) (xs : List X) (rows : List Row) → AllByRecursion (λ x. read (out x).1 ≡ x) xs → IsStartOf count query out xs rows
    → (IsBefore : X → X → Type 0) → ((a b : X) → IsBefore b a → output_cmp query (out a) (out b) ≡ Less) → AreLast IsBefore count xs (reverse (map read rows))
found_last read count query out xs rows reads is IsBefore higher =
    last_turned IsBefore count xs (map read is.all) (map read rows) (found read query out xs is.all reads is.whole (λ a b. IsBefore b a) higher) (ap (map read) is.first ∙ sym (take-map read count is.all))

-- the same of something that is made of each of these
pub start_of_each : {X Y : Type 0} (f : X → Y) (count : ℕ) (query : Query) (out : Y → Output) (xs : List X) (rows : List Row) → IsStartOf count query (λ x. out (f x)) xs rows → IsStartOf count query out (map f xs) rows
start_of_each f count query out xs rows is = record {
  all = is.all;
  whole = record {
    ordered = is.whole.ordered;
    same = subst (λ l. IsPermutation l is.whole.ordered) (sym (map-map out f xs)) is.whole.same;
    sorted = is.whole.sorted;
    shown = is.whole.shown;
  };
  first = is.first;
}
