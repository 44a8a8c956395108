-- What statements leave of a table whose rows are shown with their rowids.
use Rattle.std.proofs.Common.{◌≡◌, ℤ, List, [], ◌∷◌, map, drop, Bool, not, cond, refl, subst, ◌∙◌, IsPermutation}
use Rattle.std.proofs.lemmas.List.Sorted.{IsPermutation-cons, IsPermutation-trans, IsPermutation-map}
use Rattle.std.specs.Prelude.{filter}
use Rattle.sqlite_value.specs.declared.value.Value.TheVariants.{Int}
use Rattle.sqlite_value.specs.Order.{Row}
use Rattle.sqlite_trees.specs.declared.store.Shape.TheVariants.{Table as TableShape}
use Rattle.sqlite_trees.specs.Tree.{Trees, rowid, put_row}
use Rattle.sqlite_trees.proofs.TreeLemmas.{IsShaped-put_row, IsShaped-filter}
use Rattle.sqlite_trees.proofs.ListLemmas.{IsPermutation-filter}
use Rattle.sqlite_schema.specs.declared.schema.Keys.TheVariants.{Enforced}
use Rattle.sqlite_schema.specs.declared.schema.Table.{Table}
use Rattle.sqlite_schema.specs.declared.schema.Schema.{Schema}
use Rattle.sqlite_rules.specs.Calls.{ids_of}
use Rattle.sqlite_rules.specs.Cast.{cast_row}
use Rattle.sqlite_rules.specs.Edit.{Edit, edit_of, with_rowid, is_taken, Applies}
use Rattle.sqlite_rules.specs.declared.error.Rowids.TheVariants.{Chosen, Given}
use Rattle.tb_sql_tables.specs.Content.{HasKeyed}
use Rattle.tb_sql_tables.proofs.Inserts.{put_permutes, not_taken}
use Rattle.tb_sql_tables.proofs.Deletes.{left_rows}
use Rattle.tb_sql_tables.proofs.Updates.{rows_changed, still_shaped}

-- one row went in, under a rowid of its own
pub keyed_put : (schema : Schema) (db next : Trees) (it : Table) (source : Row) (id : ℤ) (cells : Row) (rows : List Row) → cast_row it source ≡ Int id ∷ cells
    → Applies schema Enforced db (edit_of db it [] Chosen 0 (source ∷ [])) next → HasKeyed rows (db it.tree) → HasKeyed ((Int id ∷ cells) ∷ rows) (next it.tree)
keyed_put schema db next it source id cells rows is applied h =
    let edit = λ (row : Row). let e : Edit = record { table = it; gone = []; news = with_rowid Chosen (db it.tree) row ∷ [] } in e in
    let a = subst (λ row. Applies schema Enforced db (edit row) next) is applied in
    let stored = db it.tree in
    let new : Row = Int id ∷ cells in
    let all : next it.tree ≡ put_row new stored = a.rows in
    rw all (record {
      shaped = IsShaped-put_row new stored refl h.shaped;
      same = IsPermutation-trans _ _ _ (IsPermutation-cons new _ _ h.same) (put_permutes new stored (not_taken (is_taken stored new) a.fresh));
    })

-- the rows that pass a test are gone
pub keyed_left : (schema : Schema) (db next : Trees) (it : Table) (p : Row → Bool) (ids : List ℤ) (rows : List Row) → IsPermutation (ids_of (filter p (db it.tree))) ids
    → Applies schema Enforced db (edit_of db it ids Given 0 []) next → HasKeyed rows (db it.tree) → HasKeyed (filter (λ r. not (p r)) rows) (next it.tree)
keyed_left schema db next it p ids rows same a h =
    let all : next it.tree ≡ filter (λ r. not (p r)) (db it.tree) = a.rows ∙ left_rows p (db it.tree) ids h.shaped same in
    rw all (record { shaped = IsShaped-filter TableShape _ (db it.tree) h.shaped; same = IsPermutation-filter (λ r. not (p r)) _ _ h.same })

-- the rows that pass a test are changed
pub keyed_changed : (schema : Schema) (db next : Trees) (it : Table) (p : Row → Bool) (show : Row → Row) (answer rows : List Row) → ((r : Row) → rowid (show r) ≡ rowid r)
    → IsPermutation (map show (filter p (db it.tree))) answer → Applies schema Enforced db (edit_of db it (ids_of answer) Given 1 answer) next → HasKeyed rows (db it.tree)
    → HasKeyed (map (λ r. cond (p r) (cast_row it (drop 1 (show r))) r) rows) (next it.tree)
keyed_changed schema db next it p show answer rows same_id answers a h =
    let change = λ (r : Row). cast_row it (drop 1 (show r)) in
    record {
      shaped = still_shaped schema db next it p show change answer same_id (λ r. refl) answers a h.shaped;
      same = IsPermutation-trans _ _ _ (IsPermutation-map (λ r. cond (p r) (change r) r) _ _ h.same) (rows_changed schema db next it p show change answer same_id (λ r. refl) answers a h.shaped);
    }
