-- What an INSERT of one row leaves of a table.
use Rattle.std.proofs.Common.{◌≡◌, ◌⊎◌, inl, inr, ℕ, ℤ, List, [], ◌∷◌, drop, slice_get, Bool, true, false, cond, not, ◌&&◌, Some, None, Ok, Err, Result, refl, sym, ap, subst, ◌∙◌, IsPermutation}
use Rattle.std.proofs.lemmas.List.Sorted.{IsPermutation-refl, IsPermutation-cons, IsPermutation-middle, IsPermutation-trans, IsPermutation-map}
use Rattle.std.specs.declared.cmp.Ordering.{Ordering}
use Rattle.std.specs.declared.cmp.Ordering.TheVariants.{Less, Equal, Greater}
use Rattle.sqlite_value.specs.declared.value.Value.{Value}
use Rattle.sqlite_value.specs.declared.value.Value.TheVariants.{Null, Int}
use Rattle.sqlite_value.specs.Order.{Row, value_cmp}
use Rattle.sqlite_trees.specs.Tree.{Trees, rowid, put_row}
use Rattle.sqlite_trees.proofs.TreeLemmas.{IsShaped-put_row}
use Rattle.sqlite_schema.specs.declared.schema.Kind.TheVariants.{Integer}
use Rattle.sqlite_schema.specs.declared.schema.Keys.TheVariants.{Enforced}
use Rattle.sqlite_schema.specs.declared.schema.Table.{Table}
use Rattle.sqlite_schema.specs.declared.schema.Schema.{Schema}
use Rattle.sqlite_schema.specs.declared.command.Command.TheVariants.{Insert}
use Rattle.sqlite_schema.specs.declared.command.Source.{Source}
use Rattle.sqlite_sql.specs.Ops.{unary}
use Rattle.sqlite_rules.specs.Cast.{cast, cast_row}
use Rattle.sqlite_rules.specs.Edit.{Edit, edit_of, taken_by, is_taken, next_rowid, with_rowid, Applies}
use Rattle.sqlite_rules.specs.declared.error.Rowids.TheVariants.{Chosen}
use Rattle.sqlite_rules.specs.Action.{works}
use Rattle.sqlite.specs.Effect.{Database, IsSource}
use Rattle.sqlite.specs.Rows.{Written, stamped}
use Rattle.sqlite.specs.Does.{Tally, Does}
use Rattle.sqlite.specs.State.{State, mode_of, Writes}
use Rattle.sqlite.proofs.Callers.{one_step}
use Rattle.tb_sql_tables.specs.Tables.{Plain, table_of}
use Rattle.tb_sql_tables.specs.Content.{HasRows}

-- a part that gave a value did not stop on the way
pub went : {B E R : Type 0} {b : B} {Stops : E → Type 0} → ((stop : E) × Stops stop × (Ok b ≡ Err stop)) ⊎ R → R
went (inl stopped) = absurd (let e = stopped.2 in cc)
went (inr on) = on

pub same_value : {B E : Type 0} {a b : B} → ◌≡◌ {A = Result B E} (Ok a) (Ok b) → a ≡ b
same_value e = cc

either : (b : Bool) (x : Value) → cond b x x ≡ x
either true x = refl
either false x = refl

-- an integer, or no value, is stored as it is
pub cast_integer : (n : ℤ) → cast Integer (Int n) ≡ Int n
unfolding unary
cast_integer n = either _ (Int n)

pub cast_null : cast Integer Null ≡ Null
unfolding unary
cast_null = either _ Null

module _ (old new : State) (schema : Schema) (has : old.now.schema ≡ schema) (at : ℕ) (plain : Plain) (place : slice_get schema.tables at ≡ Some (table_of plain))
    (settled : (olds news : List Row) → works schema Enforced 0 plain.tree olds news ≡ []) where
  abbrev table : Table
  table = table_of plain

  -- the rows of the source go in, with rowids that are chosen for them
  pub inserted : (from : Source) (text : List ℕ) (params : Row) (count : ℕ) → Writes old new None (Insert at from) text params count
      → (rows : List Row) × IsSource (record old.now { schema = schema }) (stamped table params) from rows
      × Applies schema Enforced old.now.trees (edit_of old.now.trees table [] Chosen 0 rows) new.now.trees × (new.now.schema ≡ schema)
  inserted from text params count w =
      let db = old.now.trees in
      let done = went (rw place at (subst (λ s. Does old.step_limit (mode_of old) params (record old.now { schema = s }) text None (Insert at from) (Ok (w.tally, new.now))) has w.changed)) in
      let now = ap (λ (p : Tally × Database). p.1) (same_value (went (went done.2).2).2) in
      let given = went done.1 in
      let written = went (went given.2).2 in
      let counted = went written.2 in
      let trees : done.0.trees ≡ written.0 = ap (λ (it : Written). it.trees) (same_value counted.2) ∙ same_value counted.1 in
      let next : new.now.trees ≡ written.0 = ap (λ (d : Database). d.trees) now ∙ trees in
      let edit = edit_of db table [] Chosen 0 given.0 in
      let applied = one_step schema Enforced db written.0 edit (settled (taken_by db edit) edit.news) written.1 in
      (given.0, given.1, subst (Applies schema Enforced db edit) (sym next) applied, ap (λ (d : Database). d.schema) now)

pub put_permutes : (new : Row) (rows : List Row) → is_taken rows new ≡ false → IsPermutation (new ∷ rows) (put_row new rows)
put_permutes new [] free = IsPermutation-refl _
put_permutes new (r ∷ rows) free = go (value_cmp (rowid r) (rowid new)) refl (put_permutes new rows)
  where
    go : (o : Ordering) → value_cmp (rowid r) (rowid new) ≡ o → (is_taken rows new ≡ false → IsPermutation (new ∷ rows) (put_row new rows)) → IsPermutation (new ∷ r ∷ rows) (put_row new (r ∷ rows))
    go Less e later = rw e (IsPermutation-trans _ _ _ (IsPermutation-middle (new ∷ []) r rows) (IsPermutation-cons r _ _ (later (rw e at free))))
    go Equal e later = absurd (let taken = rw e at free in cc)
    go Greater e later = rw e (IsPermutation-refl _)

pub not_taken : (b : Bool) → (not b && true) ≡ true → b ≡ false
not_taken true h = cc
not_taken false h = refl

-- one row went into the table
row_in : (schema : Schema) (db next : Trees) (it : Table) (id : ℤ) (cells : Row) (rows : List Row)
    → Applies schema Enforced db (record { table = it; gone = []; news = (Int id ∷ cells) ∷ [] }) next → HasRows rows (db it.tree) → HasRows (cells ∷ rows) (next it.tree)
row_in schema db next it id cells rows a h =
    let stored = db it.tree in
    let new : Row = Int id ∷ cells in
    let fresh = not_taken (is_taken stored new) a.fresh in
    let all : next it.tree ≡ put_row new stored = a.rows in
    rw all (record {
      shaped = IsShaped-put_row new stored refl h.shaped;
      same = IsPermutation-trans _ _ _ (IsPermutation-cons cells _ _ h.same) (IsPermutation-map (drop 1) (new ∷ stored) (put_row new stored) (put_permutes new stored fresh));
    })

-- under a rowid that is chosen for it
pub row_put : (schema : Schema) (db next : Trees) (it : Table) (source cells : Row) (rows : List Row) → cast_row it source ≡ Null ∷ cells
    → Applies schema Enforced db (edit_of db it [] Chosen 0 (source ∷ [])) next → HasRows rows (db it.tree) → HasRows (cells ∷ rows) (next it.tree)
row_put schema db next it source cells rows is a h =
    let edit = λ (row : Row). let e : Edit = record { table = it; gone = []; news = with_rowid Chosen (db it.tree) row ∷ [] } in e in
    row_in schema db next it (next_rowid (db it.tree)) cells rows (subst (λ row. Applies schema Enforced db (edit row) next) is a) h

-- under a rowid of its own
pub row_put_at : (schema : Schema) (db next : Trees) (it : Table) (source : Row) (id : ℤ) (cells : Row) (rows : List Row) → cast_row it source ≡ Int id ∷ cells
    → Applies schema Enforced db (edit_of db it [] Chosen 0 (source ∷ [])) next → HasRows rows (db it.tree) → HasRows (cells ∷ rows) (next it.tree)
row_put_at schema db next it source id cells rows is a h =
    let edit = λ (row : Row). let e : Edit = record { table = it; gone = []; news = with_rowid Chosen (db it.tree) row ∷ [] } in e in
    row_in schema db next it id cells rows (subst (λ row. Applies schema Enforced db (edit row) next) is a) h
