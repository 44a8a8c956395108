-- What an UPDATE leaves of a table.
use Rattle.std.proofs.Common.{◌≡◌, inl, inr, ℕ, List, [], ◌∷◌, ◌++◌, map, drop, slice_get, Bool, true, false, not, cond, Some, None, Ok, refl, sym, ap, subst, subst₂, ◌∙◌, IsPermutation}
use Rattle.std.proofs.lemmas.Bool.{cases_Bool, and_parts}
use Rattle.std.proofs.lemmas.List.Sorted.{IsPermutation-refl, IsPermutation-cons, IsPermutation-middle, IsPermutation-sym, IsPermutation-trans, IsPermutation-map, IsPermutation-append_left, IsPermutation-append_right}
use Rattle.std.specs.Prelude.{filter}
use Rattle.sqlite_value.specs.Order.{Row}
use Rattle.sqlite_trees.specs.declared.store.Shape.TheVariants.{Table as TableShape}
use Rattle.sqlite_trees.specs.Tree.{Trees, rowid, put_row}
use Rattle.sqlite_trees.specs.View.{IsShaped, is_int}
use Rattle.sqlite_trees.proofs.TreeLemmas.{IsShaped-put_row, IsShaped-filter}
use Rattle.sqlite_trees.proofs.ListLemmas.{map-map}
use Rattle.sqlite_schema.specs.declared.schema.Keys.TheVariants.{Enforced}
use Rattle.sqlite_schema.specs.declared.schema.Table.{Table}
use Rattle.sqlite_schema.specs.declared.schema.Schema.{Schema}
use Rattle.sqlite_schema.specs.declared.program.Program.{Program}
use Rattle.sqlite_schema.specs.declared.command.Command.TheVariants.{Update}
use Rattle.sqlite_rules.specs.Calls.{ids_of}
use Rattle.sqlite_rules.specs.Cast.{cast_row}
use Rattle.sqlite_rules.specs.Edit.{id_in, edit_of, taken_by, put_all, without_all, are_fresh, is_taken, have_rowids, Applies}
use Rattle.sqlite_rules.specs.declared.error.Rowids.TheVariants.{Given}
use Rattle.sqlite_rules.specs.Action.{works}
use Rattle.sqlite_rules.proofs.PlaceLemmas.{given}
use Rattle.sqlite.specs.Effect.{Database, Answers}
use Rattle.sqlite.specs.Rows.{Written}
use Rattle.sqlite.specs.Does.{Tally, Does}
use Rattle.sqlite.specs.State.{State, mode_of, Writes}
use Rattle.sqlite.proofs.Callers.{one_step}
use Rattle.tb_sql_tables.specs.Tables.{Plain, table_of}
use Rattle.tb_sql_tables.specs.Content.{HasRows}
use Rattle.tb_sql_tables.proofs.Inserts.{went, same_value, put_permutes}
use Rattle.tb_sql_tables.proofs.Deletes.{left_rows}

module _ (old new : State) (schema : Schema) (has : old.now.schema ≡ schema) (at : ℕ) (plain : Plain) (place : slice_get schema.tables at ≡ Some (table_of plain))
    (settled : (olds news : List Row) → works schema Enforced 0 plain.tree olds news ≡ []) where
  abbrev table : Table
  table = table_of plain

  -- the rows that the query answers stand in place of those with their rowids
  pub updated : (q : Program) (text : List ℕ) (params : Row) (count : ℕ) → Writes old new None (Update at q) text params count
      → (rows : List Row) × Answers (record old.now { schema = schema }) q params rows
      × Applies schema Enforced old.now.trees (edit_of old.now.trees table (ids_of rows) Given 1 rows) new.now.trees × (new.now.schema ≡ schema)
  updated q text params count w =
      let db = old.now.trees in
      let done = went (rw place at (subst (λ s. Does old.step_limit (mode_of old) params (record old.now { schema = s }) text None (Update at q) (Ok (w.tally, new.now))) has w.changed)) in
      let now = ap (λ (p : Tally × Database). p.1) (same_value (went (went done.2).2).2) in
      let found = went done.1 in
      let written = went found.2 in
      let trees : done.0.trees ≡ written.0 = ap (λ (it : Written). it.trees) (same_value written.2) in
      let next : new.now.trees ≡ written.0 = ap (λ (d : Database). d.trees) now ∙ trees in
      let edit = edit_of db table (ids_of found.0) Given 1 found.0 in
      let applied = one_step schema Enforced db written.0 edit (settled (taken_by db edit) edit.news) written.1 in
      (found.0, found.1, subst (Applies schema Enforced db edit) (sym next) applied, ap (λ (d : Database). d.schema) now)

-- ---- rows that go in under rowids that are free

is_false : (b : Bool) → not b ≡ true → b ≡ false
is_false true h = cc
is_false false h = refl

pub put_all_permutes : (news left : List Row) → are_fresh left news ≡ true → IsPermutation (news ++ left) (put_all left news)
put_all_permutes [] left fresh = IsPermutation-refl left
put_all_permutes (n ∷ news) left fresh =
    let both = and_parts (not (is_taken left n)) (are_fresh (put_row n left) news) fresh in
    let one : IsPermutation (n ∷ left) (put_row n left) = put_permutes n left (is_false _ both.0) in
    let front : IsPermutation (n ∷ (news ++ left)) (news ++ n ∷ left) = IsPermutation-sym (news ++ n ∷ left) (n ∷ (news ++ left)) (IsPermutation-middle news n left) in
    IsPermutation-trans _ _ _ front (IsPermutation-trans _ _ _ (IsPermutation-append_right news _ _ one) (put_all_permutes news (put_row n left) both.1))

pub put_all_shaped : (news left : List Row) → have_rowids news ≡ true → IsShaped TableShape left → IsShaped TableShape (put_all left news)
put_all_shaped [] left keyed h = h
put_all_shaped (n ∷ news) left keyed h =
    let both = and_parts (is_int (rowid n)) (have_rowids news) keyed in
    put_all_shaped news (put_row n left) both.1 (IsShaped-put_row n left both.0 h)

-- those that are changed, and the others
changed_split : {A : Type 0} (p : A → Bool) (change : A → A) (xs : List A) → IsPermutation (map change (filter p xs) ++ filter (λ x. not (p x)) xs) (map (λ x. cond (p x) (change x) x) xs)
changed_split p change [] = IsPermutation-refl []
changed_split p change (x ∷ xs) = elim (cases_Bool (p x)) [
  | inl hit ↦ rw hit (IsPermutation-cons (change x) _ _ (changed_split p change xs))
  | inr missed ↦ rw missed (IsPermutation-trans _ _ _ (IsPermutation-middle (map change (filter p xs)) x _) (IsPermutation-cons x _ _ (changed_split p change xs)))
]

module _ (schema : Schema) (db next : Trees) (it : Table) (p : Row → Bool) (show change : Row → Row) (answer : List Row) (same_id : (r : Row) → rowid (show r) ≡ rowid r)
    (changes : (r : Row) → cast_row it (drop 1 (show r)) ≡ change r) (answers : IsPermutation (map show (filter p (db it.tree))) answer)
    (a : Applies schema Enforced db (edit_of db it (ids_of answer) Given 1 answer) next) (shaped : IsShaped TableShape (db it.tree)) where
  abbrev stored : List Row
  stored = db it.tree

  abbrev news : List Row
  news = map (λ s. cast_row it (drop 1 s)) answer

  abbrev left : List Row
  left = filter (λ r. not (p r)) stored

  named : IsPermutation (ids_of (filter p stored)) (ids_of answer)
  named =
      let ids : map (λ r. id_in (rowid r)) (map show (filter p stored)) ≡ ids_of (filter p stored) = map-map (λ r. id_in (rowid r)) show _ ∙ (λ i. map (λ r. id_in (same_id r i)) (filter p stored)) in
      subst (λ l. IsPermutation l (ids_of answer)) ids (IsPermutation-map (λ r. id_in (rowid r)) _ _ answers)

  remain : without_all stored (ids_of answer) ≡ left
  remain = left_rows p stored (ids_of answer) shaped named

  fresh : are_fresh left news ≡ true
  fresh = subst₂ (λ l n. are_fresh l n ≡ true) remain (given _ news) a.fresh

  all : next it.tree ≡ put_all left news
  all = a.rows ∙ (λ i. put_all (remain i) (given (without_all stored (ids_of answer)) news i))

  pub still_shaped : IsShaped TableShape (next it.tree)
  still_shaped = subst (IsShaped TableShape) (sym all) (put_all_shaped news left (subst (λ n. have_rowids n ≡ true) (given _ news) a.keyed) (IsShaped-filter TableShape _ stored shaped))

  made : IsPermutation (map change (filter p stored)) news
  made =
      let cells : map (λ s. cast_row it (drop 1 s)) (map show (filter p stored)) ≡ map change (filter p stored) = map-map (λ s. cast_row it (drop 1 s)) show _ ∙ (λ i. map (λ r. changes r i) (filter p stored)) in
      subst (λ l. IsPermutation l news) cells (IsPermutation-map (λ s. cast_row it (drop 1 s)) _ _ answers)

  -- each row that passes is changed, and the others stay
  pub rows_changed : IsPermutation (map (λ r. cond (p r) (change r) r) stored) (next it.tree)
  rows_changed =
      let sides = IsPermutation-trans _ _ _ (IsPermutation-append_left left _ _ made) (put_all_permutes news left fresh) in
      let split = IsPermutation-sym (map change (filter p stored) ++ left) (map (λ r. cond (p r) (change r) r) stored) (changed_split p change stored) in
      rw all (IsPermutation-trans _ _ _ split sides)

  -- the same of cells, where a test and a change do not look at the rowid
  pub cells_changed : (q : Row → Bool) (alter : Row → Row) → ((r : Row) → p r ≡ q (drop 1 r)) → ((r : Row) → drop 1 (change r) ≡ alter (drop 1 r)) → (rows : List Row) → HasRows rows stored
      → HasRows (map (λ cells. cond (q cells) (alter cells) cells) rows) (next it.tree)
  cells_changed q alter tested altered rows h =
      let after = λ (cells : Row). cond (q cells) (alter cells) cells in
      let each : (r : Row) → drop 1 (cond (p r) (change r) r) ≡ after (drop 1 r) = λ r. push (p r) (q (drop 1 r)) (tested r) (change r) r (alter (drop 1 r)) (altered r) in
      let cells : map (drop 1) (map (λ r. cond (p r) (change r) r) stored) ≡ map after (map (drop 1) stored) =
      map-map (drop 1) (λ r. cond (p r) (change r) r) stored ∙ (λ i. map (λ r. each r i) stored) ∙ sym (map-map after (drop 1) stored) in
      record {
        shaped = still_shaped;
        same = IsPermutation-trans _ _ _ (IsPermutation-map after _ _ h.same) (subst (λ l. IsPermutation l (map (drop 1) (next it.tree))) cells (IsPermutation-map (drop 1) _ _ rows_changed));
      }
    where
      push : (b c : Bool) → b ≡ c → (x y z : Row) → drop 1 x ≡ z → drop 1 (cond b x y) ≡ cond c z (drop 1 y)
      push b c same x y z e = subst (λ d. drop 1 (cond b x y) ≡ cond d z (drop 1 y)) same (go b)
        where
          go : (b : Bool) → drop 1 (cond b x y) ≡ cond b z (drop 1 y)
          go true = e
          go false = refl
