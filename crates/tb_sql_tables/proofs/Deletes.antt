-- What a DELETE leaves of a table.
use Rattle.std.proofs.Common.{◌≡◌, inl, inr, ℕ, ℤ, List, [], ◌∷◌, map, drop, slice_get, Bool, true, false, not, ◌||◌, Some, None, Ok, refl, sym, ap, subst, ◌∙◌, IsTrue, IsPermutation}
use Rattle.std.proofs.lemmas.Cmp.{tied_itself}
use Rattle.std.proofs.lemmas.Bool.{cases_Bool, false_from_ne_true}
use Rattle.std.proofs.lemmas.List.Sorted.{list_any-IsPermutation}
use Rattle.std.specs.Prelude.{filter}
use Rattle.std.specs.List.{list_any}
use Rattle.std.specs.Ordering.{is_eq}
use Rattle.sqlite_value.specs.declared.value.Value.TheVariants.{Int}
use Rattle.sqlite_value.specs.Order.{Row, value_cmp}
use Rattle.sqlite_value.proofs.OrderLemmas.{value_cmp_total}
use Rattle.sqlite_trees.specs.declared.store.Shape.TheVariants.{Table as TableShape}
use Rattle.sqlite_trees.specs.Tree.{Trees, rowid, has_rowid, without_rowid}
use Rattle.sqlite_trees.specs.View.{IsShaped, is_int}
use Rattle.sqlite_trees.proofs.TreeLemmas.{IsShaped-filter}
use Rattle.sqlite_trees.proofs.ListLemmas.{filter-map, filter_all, filter_same, IsPermutation-filter}
use Rattle.sqlite_schema.specs.declared.schema.Keys.TheVariants.{Enforced}
use Rattle.sqlite_schema.specs.declared.schema.Table.{Table}
use Rattle.sqlite_schema.specs.declared.schema.Schema.{Schema}
use Rattle.sqlite_schema.specs.declared.program.Program.{Program}
use Rattle.sqlite_schema.specs.declared.command.Command.TheVariants.{Delete}
use Rattle.sqlite_rules.specs.Lists.{Has}
use Rattle.sqlite_rules.specs.Calls.{ids_of}
use Rattle.sqlite_rules.specs.Edit.{id_in, edit_of, taken_by, without_all, Applies}
use Rattle.sqlite_rules.specs.declared.error.Rowids.TheVariants.{Given}
use Rattle.sqlite_rules.specs.Action.{works}
use Rattle.sqlite_rules.proofs.ListLemmas.{all_has, all_from, some_has, some_from, has_filtered, has_kept}
use Rattle.sqlite_rules.proofs.ProbeLemmas.{has_mapped, mapped_has}
use Rattle.sqlite_rules.proofs.PlaceLemmas.{row_at_is}
use Rattle.sqlite_rules.proofs.TableLemmas.{int_is}
use Rattle.sqlite.specs.Effect.{Database, Answers}
use Rattle.sqlite.specs.Rows.{Written}
use Rattle.sqlite.specs.Does.{Tally, Does}
use Rattle.sqlite.specs.State.{State, mode_of, Writes}
use Rattle.sqlite.proofs.Callers.{one_step}
use Rattle.tb_sql_tables.specs.Tables.{Plain, table_of}
use Rattle.tb_sql_tables.specs.Content.{HasRows}
use Rattle.tb_sql_tables.proofs.Inserts.{went, same_value}

module _ (old new : State) (schema : Schema) (has : old.now.schema ≡ schema) (at : ℕ) (plain : Plain) (place : slice_get schema.tables at ≡ Some (table_of plain))
    (settled : (olds : List Row) → works schema Enforced 0 plain.tree olds [] ≡ []) where
  abbrev table : Table
  table = table_of plain

  -- the rows that the query answers go out
  pub deleted : (q : Program) (text : List ℕ) (params : Row) (count : ℕ) → Writes old new None (Delete at q) text params count
      → (rows : List Row) × Answers (record old.now { schema = schema }) q params rows
      × Applies schema Enforced old.now.trees (edit_of old.now.trees table (ids_of rows) Given 0 []) new.now.trees × (new.now.schema ≡ schema)
  deleted q text params count w =
      let db = old.now.trees in
      let done = went (rw place at (subst (λ s. Does old.step_limit (mode_of old) params (record old.now { schema = s }) text None (Delete at q) (Ok (w.tally, new.now))) has w.changed)) in
      let now = ap (λ (p : Tally × Database). p.1) (same_value (went (went done.2).2).2) in
      let found = went done.1 in
      let written = went found.2 in
      let trees : done.0.trees ≡ written.0 = ap (λ (it : Written). it.trees) (same_value written.2) in
      let next : new.now.trees ≡ written.0 = ap (λ (d : Database). d.trees) now ∙ trees in
      let edit = edit_of db table (ids_of found.0) Given 0 [] in
      let applied = one_step schema Enforced db written.0 edit (settled (taken_by db edit)) written.1 in
      (found.0, found.1, subst (Applies schema Enforced db edit) (sym next) applied, ap (λ (d : Database). d.schema) now)

-- ---- the rows that are left

filter_twice : (p q : Row → Bool) (rows : List Row) → filter q (filter (λ r. not (p r)) rows) ≡ filter (λ r. not (p r || not (q r))) rows
filter_twice p q [] = refl
filter_twice p q (r ∷ rows) = elim (cases_Bool (p r)) [
  | inl taken ↦ rw taken (filter_twice p q rows)
  | inr left ↦ elim (cases_Bool (q r)) [ inl kept ↦ rw (left, kept, filter_twice p q rows) | inr cut ↦ rw (left, cut, filter_twice p q rows) ]
]

not_not : (b : Bool) → not (not b) ≡ b
not_not true = refl
not_not false = refl

left_as_filter : (ids : List ℤ) (rows : List Row) → without_all rows ids ≡ filter (λ r. not (list_any (λ id. has_rowid id r) ids)) rows
left_as_filter [] rows = sym (filter_all _ rows (all_from _ rows (λ r h. refl)))
left_as_filter (id ∷ ids) rows =
    left_as_filter ids (without_rowid id rows) ∙ filter_twice (has_rowid id) (λ r. not (list_any (λ x. has_rowid x r) ids)) rows
    ∙ filter_same _ (λ r. not (list_any (λ x. has_rowid x r) (id ∷ ids))) rows (all_from _ rows (λ r h. ap (λ b. not (has_rowid id r || b)) (not_not (list_any (λ x. has_rowid x r) ids))))

has_own : (r : Row) → IsTrue (is_int (rowid r)) → has_rowid (id_in (rowid r)) r ≡ true
has_own r int = ap (λ v. is_eq (value_cmp v (Int (id_in (rowid r))))) (int_is (rowid r) int) ∙ ap is_eq (tied_itself value_cmp_total (Int (id_in (rowid r))))

-- a row has one of the rowids exactly if it is one of the rows
names_row : (p : Row → Bool) (rows : List Row) → IsShaped TableShape rows → (r : Row) → Has rows r → list_any (λ id. has_rowid id r) (ids_of (filter p rows)) ≡ p r
names_row p rows shaped r h = elim (cases_Bool (p r)) [
  | inl taken ↦ some_from (λ id. has_rowid id r) _ (id_in (rowid r)) (mapped_has (λ x. id_in (rowid x)) _ r (has_kept p rows r h taken)) (has_own r (all_has _ rows r shaped.1 h)) ∙ sym taken
  | inr left ↦ false_from_ne_true _ (λ some.
      let id = some_has (λ id. has_rowid id r) _ some in
      let x = has_mapped (λ x. id_in (rowid x)) (filter p rows) id.0 id.1 in
      let there = has_filtered p rows x.0 x.1 in
      let mine = subst (λ n. has_rowid n x.0 ≡ true) (sym x.2) (has_own x.0 (all_has _ rows x.0 shaped.1 there.0)) in
      let same : r ≡ x.0 = sym (row_at_is rows id.0 r shaped.0 h id.2) ∙ row_at_is rows id.0 x.0 shaped.0 there.0 mine in
      let e = there.1 in cc) ∙ sym left
]

pub left_rows : (p : Row → Bool) (rows : List Row) (ids : List ℤ) → IsShaped TableShape rows → IsPermutation (ids_of (filter p rows)) ids → without_all rows ids ≡ filter (λ r. not (p r)) rows
left_rows p rows ids shaped same =
    left_as_filter ids rows ∙ filter_same _ (λ r. not (p r)) rows
    (all_from _ rows (λ r h. ap not (sym (list_any-IsPermutation (λ id. has_rowid id r) _ ids same) ∙ names_row p rows shaped r h)))

-- The table keeps the rows that fail a test on their cells.
pub rows_left : (schema : Schema) (db next : Trees) (it : Table) (p : Row → Bool) (q : Row → Bool) (ids : List ℤ) (rows : List Row) → ((r : Row) → p r ≡ q (drop 1 r))
    → IsPermutation (ids_of (filter p (db it.tree))) ids → Applies schema Enforced db (edit_of db it ids Given 0 []) next → HasRows rows (db it.tree) → HasRows (filter (λ cells. not (q cells)) rows) (next it.tree)
rows_left schema db next it p q ids rows on_cells same a h =
    let stored = db it.tree in
    let all : next it.tree ≡ filter (λ r. not (p r)) stored = a.rows ∙ left_rows p stored ids h.shaped same in
    let cells : map (drop 1) (filter (λ r. not (p r)) stored) ≡ filter (λ c. not (q c)) (map (drop 1) stored) =
    ap (map (drop 1)) (filter_same _ (λ r. not (q (drop 1 r))) stored (all_from _ stored (λ r _. ap not (on_cells r)))) ∙ sym (filter-map (λ c. not (q c)) (drop 1) stored) in
    rw all (record {
      shaped = IsShaped-filter TableShape (λ r. not (p r)) stored h.shaped;
      same = subst (IsPermutation (filter (λ c. not (q c)) rows)) (sym cells) (IsPermutation-filter (λ c. not (q c)) _ _ h.same);
    })
