-- What the statements on the first table do.
use Rattle.std.proofs.Common.{◌≡◌, ◌≢◌, ◌<◌, ◌⊎◌, ◌∙◌, inl, inr, All, Result, Ok, Err, IfErr, List, [], ◌∷◌, ℕ, pos, map, codes, true, refl, sym, ap, subst, arith, IsPermutation}
use Rattle.std.proofs.lemmas.List.Elements.{All-from_recursion}
use Rattle.std.proofs.lemmas.List.Sorted.{IsPermutation-refl}
use Rattle.std.proofs.lemmas.Str.{IsUtf8-from_ascii}
use Rattle.std.proofs.lemmas.Str.Ascii.{IsAscii-from_all}
use Rattle.std.specs.Str.{IsAscii}
use Rattle.sqlite_value.specs.Order.{Row}
use Rattle.sqlite_value.specs.declared.value.Value.TheVariants.{Null, Int}
use Rattle.sqlite_sql.specs.Query.{Output}
use Rattle.sqlite_sql.specs.Term.{Term, lit, col}
use Rattle.sqlite_schema.specs.declared.command.Command.TheVariants.{Update}
use Rattle.sqlite_tied.specs.Compute.{everything}
use Rattle.sqlite.specs.Listing.{understood}
use Rattle.sqlite.specs.declared.error.Error.{Error}
use Rattle.sqlite.specs.declared.error.Error.TheVariants.{SqliteFailure}
use Rattle.sqlite.specs.declared.error.ErrorCode.TheVariants.{OutOfMemory}
use Rattle.sqlite.specs.State.{FailsToQuery, IsTooLate, State, Shown}
use Rattle.sqlite.proofs.Callers.{one_permutation}
use Rattle.tb_sql_tables.specs.declared.rows.MetaRow.{MetaRow}
use Rattle.tb_sql_tables.specs.Tables.{meta_plain, meta_tree, old_schema, second_schema}
use Rattle.tb_sql_tables.specs.Rows.{version_row}
use Rattle.tb_sql_tables.specs.Read.{meta_of, IsMetaRow}
use Rattle.tb_sql_tables.specs.Content.{old_part, Content, AreTables, HasKeyed, HasRows, IsContent}
use Rattle.tb_sql_tables.specs.Statements.{Finds, Ran, Turns}
use Rattle.tb_sql_tables.specs.Standing.{IsHalfway}
use Rattle.tb_sql_tables.specs.Failing.{HasFaulted, IsExcused, IsReady}
use Rattle.tb_sql_tables.proofs.Effects.{each, all_left, keyed_shown, keyed_shown_in, keyed_updated, found_in_order, found_same}
use Rattle.tb_sql_tables.proofs.Failing.{Suits, fails_so}
use Rattle.tb_sql_tables.proofs.Inserts.{cast_integer, cast_null}
use Rattle.tb_sql_tables.proofs.Inside.{shown_open}
use Rattle.tb_sql_tables.proofs.Queries.{query_of, program_of, output_at}
use Rattle.tb_sql_tables.proofs.Statements.{Asks, AsksIn, Means}
use Rattle.tb_sql.specs.Opening.{our_meta, row_of_meta, meta_text, AreMetas, AreShown, IsOfVersion, ReadsVersion}

abbrev shown_terms : List Term
shown_terms = col 1 2 ∷ col 1 3 ∷ []

asks : Asks meta_text meta_tree [] shown_terms []
unfolding understood everything
asks = record { names = codes "kind" ∷ codes "version" ∷ []; means = record { is = refl; bare = (refl, refl) }; unlisted = refl }

old_asks : AsksIn old_schema meta_text meta_tree [] shown_terms []
unfolding understood everything
old_asks = record { names = codes "kind" ∷ codes "version" ∷ []; means = record { is = refl; bare = (refl, refl) }; unlisted = refl }

second_asks : AsksIn second_schema meta_text meta_tree [] shown_terms []
unfolding understood everything
second_asks = record { names = codes "kind" ∷ codes "version" ∷ []; means = record { is = refl; bare = (refl, refl) }; unlisted = refl }

abbrev out : MetaRow → Output
out meta = output_at meta_tree refl [] shown_terms [] [] (row_of_meta meta)

pub select_meta : (old new : State) (rows : List Row) → Shown meta_text [] old new rows → Finds (λ _. map meta_of rows ≡ our_meta ∷ []) old
select_meta old new rows shown = record {
  was_open = shown_open meta_text _ old new rows shown;
  found = λ content is.
      let ours = our_meta ∷ [] in
      let answer = keyed_shown row_of_meta (λ row. true) ours meta_tree refl meta_text [] shown_terms [] asks old new [] rows is.schema shown (refl, tt) is.rows.tables.meta in
      found_in_order meta_of (query_of meta_tree [] shown_terms []) out ours rows (refl, tt) answer (λ a b. ⊥) (λ a b none. absurd none) ours (IsPermutation-refl _) (refl, tt) (tt, tt);
}

-- the rows of the table, whatever they say
pub all_metas : (old new : State) (rows : List Row) → Shown meta_text [] old new rows → AreMetas old.now (map meta_of rows)
all_metas old new rows shown (inl schema) metas stored =
    let answer = keyed_shown row_of_meta (λ row. true) metas meta_tree refl meta_text [] shown_terms [] asks old new [] rows schema shown (each (λ row. refl) _) stored in
    subst (λ all. IsPermutation all (map meta_of rows)) (all_left metas) (found_same meta_of (query_of meta_tree [] shown_terms []) out _ rows (each (λ row. refl) _) answer)
all_metas old new rows shown (inr (inl schema)) metas stored =
    let answer = keyed_shown_in second_schema row_of_meta (λ row. true) metas meta_tree refl meta_text [] shown_terms [] second_asks old new [] rows schema shown (each (λ row. refl) _) stored in
    subst (λ all. IsPermutation all (map meta_of rows)) (all_left metas) (found_same meta_of (query_of meta_tree [] shown_terms []) out _ rows (each (λ row. refl) _) answer)
all_metas old new rows shown (inr (inr schema)) metas stored =
    let answer = keyed_shown_in old_schema row_of_meta (λ row. true) metas meta_tree refl meta_text [] shown_terms [] old_asks old new [] rows schema shown (each (λ row. refl) _) stored in
    subst (λ all. IsPermutation all (map meta_of rows)) (all_left metas) (found_same meta_of (query_of meta_tree [] shown_terms []) out _ rows (each (λ row. refl) _) answer)

pub shown_metas : (old new : State) (rows : List Row) → Shown meta_text [] old new rows → AreShown old new (map meta_of rows)
shown_metas old new rows shown = record { rows = rows; shown = shown; read = refl }

-- ---- why the query fails

suits : Suits meta_text meta_tree [] shown_terms [] []
unfolding understood everything
suits = record { whole = refl; given = refl; typed = refl }

pub meta_excused : (old new : State) (e : Error) → FailsToQuery meta_text [] old new e ⊎ IsTooLate meta_text [] old new e → IsExcused old new e
meta_excused old new e failed other ready content is = fails_so meta_text meta_tree [] shown_terms [] asks [] suits old new e is.schema ready other failed

pub version_read : (old new : State) (e : Error) → FailsToQuery meta_text [] old new e ⊎ IsTooLate meta_text [] old new e → ReadsVersion old new e
version_read old new e failed other ready version is = fails_so meta_text meta_tree [] shown_terms [] asks [] suits old new e is.schema ready other failed

abbrev meta_at : ℕ → MetaRow
meta_at version = record { kind = codes "taskboard"; version = version }

-- the row of a store of whatever version is read without a refusal
pub version_is_read : (old new : State) (rows : List Row) → Shown meta_text [] old new rows → (version : ℕ) → IsOfVersion version old.now → All IsMetaRow rows
version_is_read old new rows shown version is =
    let meta = meta_at version in
    let answer = keyed_shown row_of_meta (λ row. true) (meta ∷ []) meta_tree refl meta_text [] shown_terms [] asks old new [] rows is.schema shown (refl, tt) is.row in
    let one : answer.ordered ≡ out meta ∷ [] = one_permutation (out meta) answer.ordered answer.same in
    subst (All IsMetaRow) (sym (answer.shown ∙ ap (map (λ (o : Output). o.1)) one)) (All-from_recursion IsMetaRow ((out meta).1 ∷ []) (ours, tt))
  where
    letters : IsAscii (codes "taskboard")
    letters = IsAscii-from_all (codes "taskboard") (All-from_recursion (λ b. b < 128) (codes "taskboard")
        (omega arith, (omega arith, (omega arith, (omega arith, (omega arith, (omega arith, (omega arith, (omega arith, (omega arith, tt))))))))))

    ours : IsMetaRow (out (meta_at version)).1
    ours = record { both = refl; kind = (codes "taskboard", refl, IsUtf8-from_ascii (codes "taskboard") letters); version = (version, refl, is.fits) }

pub our_row_is_read : (old new : State) (rows : List Row) → Shown meta_text [] old new rows → (content : Content) → IsContent content old.now → All IsMetaRow rows
our_row_is_read old new rows shown content is =
    version_is_read old new rows shown 2 (record { schema = is.schema; row = is.rows.tables.meta; fits = omega arith })

pub row_excused : {X C : Type 0} (Holds : C → Type 0) (old new : State) (rows : List Row) (result : Result X Error) → ((c : C) → Holds c → All IsMetaRow rows)
    → IfErr result (λ e. e ≢ SqliteFailure OutOfMemory → ¬ All IsMetaRow rows)
    → IfErr result (λ e. e ≢ SqliteFailure OutOfMemory → IsReady old → (c : C) → Holds c → HasFaulted old new)
row_excused Holds old new rows (Ok x) reads refused = tt
row_excused Holds old new rows (Err e) reads refused = λ other ready c is. absurd (refused other (reads c is))

-- ---- the version is told

abbrev pub update_text : List ℕ
update_text = codes "UPDATE meta SET version = 2"

-- the rowid of the row that goes, and then the row that stands in its place
abbrev replaced : List Term
replaced = col 1 0 ∷ col 1 0 ∷ lit Null ∷ col 1 2 ∷ lit (Int (pos 2)) ∷ []

updates : Means update_text (Update 0 (program_of (query_of meta_tree [] replaced [])))
unfolding understood everything
updates = record { is = refl; bare = (refl, refl) }

no_keyed : HasKeyed [] []
no_keyed = record { shaped = (tt, tt); same = IsPermutation-refl [] }

no_rows : HasRows [] []
no_rows = record { shaped = (tt, tt); same = IsPermutation-refl [] }

pub update_version : (old new : State) → Ran update_text [] old new → (content : Content) → Turns (IsHalfway content) (IsContent (old_part content)) old new
update_version old new ran content = record {
  shown = ran.1.1;
  made = λ is.
      let effect = keyed_updated version_row (λ _. true) (1 ∷ []) 0 meta_plain refl refl update_text [] old new is.schema [] ran (refl, tt) is.tables.meta replaced (λ _. 2) updates (λ r. refl)
      (λ version. rw (cast_null, cast_integer (pos 1), cast_integer (pos 2)) refl) in
      let was = is.tables in
      let e = effect.1 in
      let o = e.others in
      let tables : AreTables (old_part content) new.now.trees = record {
        meta = effect.0;
        people = rw (o.1.0 (omega arith)) was.people;
        boards = rw (o.1.1.0 (omega arith)) was.boards;
        roles = rw (o.1.1.1.0 (omega arith)) was.roles;
        tasks = rw (o.1.1.1.1.0 (omega arith)) was.tasks;
        links = rw (o.1.1.1.1.1.0 (omega arith)) was.links;
        instances = rw (o.1.1.1.1.1.1.0 (omega arith)) was.instances;
        gone = rw (o.1.1.1.1.1.1.1.0 (omega arith)) was.gone;
        kept = rw (o.1.1.1.1.1.1.1.1.0 (omega arith)) was.kept;
        horizon = rw (o.1.1.1.1.1.1.1.1.1.0 (omega arith) ∙ is.no_horizon) no_keyed;
        history = rw (o.1.1.1.1.1.1.1.1.1.1.0 (omega arith) ∙ is.no_history) no_rows;
        task_identifiers = was.task_identifiers;
        kept_identifiers = was.kept_identifiers;
        history_identifiers = tt;
        fits = was.fits;
      } in
      record { schema = e.schema; rows = record { sound = e.sound; tables = tables } };
}
