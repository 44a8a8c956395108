-- What the statements on people do.
use Rattle.std.proofs.Common.{IsTrue, ◌≡◌, ◌∙◌, ◌⊎◌, ℕ, pos, List, [], ◌∷◌, map, codes, length, not, true, option_map, slice_get, refl, subst, arith, All, IsUtf8}
use Rattle.std.specs.Prelude.{filter, ◌==◌}
use Rattle.std.specs.List.{list_any}
use Rattle.std.specs.declared.cmp.Ordering.TheVariants.{Less}
use Rattle.std.proofs.lemmas.Int.{ints}
use Rattle.std.proofs.lemmas.Bool.Decides.{nat_tests}
use Rattle.sqlite_value.specs.declared.keys.Collation.TheVariants.{Binary}
use Rattle.sqlite_value.specs.declared.keys.Key.{Key}
use Rattle.sqlite_value.specs.declared.value.Value.TheVariants.{Null, Int, Text}
use Rattle.sqlite_value.specs.Keys.{ascending}
use Rattle.sqlite_value.specs.Order.{Row}
use Rattle.sqlite_value.proofs.OrderLemmas.{value_cmp-Int}
use Rattle.sqlite_sql.specs.Query.{Output, output_cmp}
use Rattle.sqlite_sql.specs.Term.{Term, lit, col}
use Rattle.sqlite_schema.specs.declared.command.Command.TheVariants.{Insert, Update}
use Rattle.sqlite_schema.specs.declared.command.Source.TheVariants.{Values}
use Rattle.sqlite_tied.specs.Compute.{everything}
use Rattle.sqlite.specs.Listing.{understood}
use Rattle.sqlite.specs.declared.error.Error.{Error}
use Rattle.sqlite.specs.State.{FailsToQuery, IsTooLate, State, Shown}
use Rattle.tb_sql_tables.specs.declared.rows.PersonRow.{PersonRow}
use Rattle.tb_sql_tables.specs.Tables.{person_plain, person_table, person_tree, store_schema}
use Rattle.tb_sql_tables.specs.Rows.{person_row}
use Rattle.tb_sql_tables.specs.Read.{person_of, IsPersonRow}
use Rattle.tb_sql_tables.specs.Statements.{Changes, Finds, Ran}
use Rattle.tb_sql_tables.specs.Failing.{IsExcused}
use Rattle.tb_sql_tables.specs.Found.{AreFound, IsOneOf}
use Rattle.tb_sql_tables.proofs.Contents.{people_changed}
use Rattle.tb_sql_tables.proofs.Effects.{each, all_left, keyed_updated, keyed_shown, found, found_any, found_one, each_of, each_left}
use Rattle.tb_sql_tables.proofs.Failing.{Suits, fails_so}
use Rattle.tb_sql_tables.proofs.Inserts.{cast_integer, cast_null}
use Rattle.tb_sql_tables.proofs.Inside.{shown_open}
use Rattle.tb_sql_tables.proofs.Keyed.{keyed_put}
use Rattle.tb_sql_tables.proofs.Looking.{looks_on}
use Rattle.tb_sql_tables.proofs.KeyTests.{equal, equal_numbers, equal_texts}
use Rattle.tb_sql_tables.proofs.Queries.{query_of, program_of, output_at}
use Rattle.tb_sql_tables.proofs.SqlTests.{and_true}
use Rattle.tb_sql_tables.proofs.Statements.{Means, Asks, row_inserted}
use Rattle.tb_sql.specs.Changes.{with_person, with_secret, is_named, is_person, IsPersonBefore}
use Rattle.tb_sql_tables.specs.Content.{Content, IsContent}
use Rattle.tb_sql_tables.proofs.Fitted.{all_read, person_read as person_is_read, still_fit}
use Rattle.tb_sql_tables.specs.Fitting.{FitsPerson}

-- ---- a row goes in

abbrev pub insert_text : List ℕ
insert_text = codes "INSERT INTO person (id, name, secret) VALUES (?1, ?2, ?3)"

abbrev terms : List Term
terms = col 0 0 ∷ lit Null ∷ col 0 1 ∷ col 0 2 ∷ []

inserts : Means insert_text (Insert 1 (Values terms 4))
unfolding understood everything
inserts = record { is = refl; bare = (refl, refl) }

abbrev pub row_params : PersonRow → Row
row_params row = Int (pos row.id) ∷ Text row.name ∷ Text row.secret ∷ []

pub insert_person : (old new : State) (row : PersonRow) → FitsPerson row → Ran insert_text (row_params row) old new → Changes (with_person row) old new
insert_person old new row fits ran = record {
  shown = ran.1.1;
  content = λ content is.
      let cells : Row = Null ∷ Text row.name ∷ Text row.secret ∷ [] in
      let effect = row_inserted 1 person_plain refl refl insert_text old new is.schema (row_params row) ran.0 terms 4 (person_row row) inserts refl ran.1 in
      people_changed content (row ∷ content.people) old.now new.now effect.1 is
      (keyed_put store_schema old.now.trees new.now.trees person_table (person_row row) (pos row.id) cells _ (rw (cast_null, cast_integer (pos row.id)) refl) effect.0 is.rows.tables.people) (fits, is.rows.tables.fits.people);
}

-- ---- the secret of a person

abbrev pub secret_text : List ℕ
secret_text = codes "UPDATE person SET secret = ?2 WHERE name = ?1"

abbrev by_name : List Term
by_name = equal 2 0 ∷ []

-- the rowid of the row that goes, and then the row that stands in its place
abbrev replaced : List Term
replaced = col 1 0 ∷ col 1 0 ∷ lit Null ∷ col 1 2 ∷ col 0 1 ∷ []

updates : Means secret_text (Update 1 (program_of (query_of person_tree by_name replaced [])))
unfolding understood everything
updates = record { is = refl; bare = (refl, refl) }

pub update_secret : (old new : State) (name secret : List ℕ) → IsUtf8 secret → Ran secret_text (Text name ∷ Text secret ∷ []) old new → Changes (with_secret name secret) old new
update_secret old new name secret fits ran = record {
  shown = ran.1.1;
  content = λ content is.
      let params = Text name ∷ Text secret ∷ [] in
      let set = λ (person : PersonRow). let changed : PersonRow = record person { secret = secret } in changed in
      let same = each (λ (person : PersonRow). and_true _ ∙ equal_texts person.name name) content.people in
      let effect = keyed_updated person_row (is_named name) content.people 1 person_plain refl refl secret_text by_name old new is.schema params ran same is.rows.tables.people replaced set updates
      (λ r. refl) (λ person. rw (cast_null, cast_integer (pos person.id)) refl) in
      people_changed content _ old.now new.now effect.1 is effect.0
      (still_fit FitsPerson (is_named name) set (λ person was. record { id = was.id; name = was.name; secret = fits }) content.people is.rows.tables.fits.people);
}

-- ---- queries

abbrev shown_terms : List Term
shown_terms = col 1 0 ∷ col 1 2 ∷ col 1 3 ∷ []

abbrev names : List (List ℕ)
names = codes "id" ∷ codes "name" ∷ codes "secret" ∷ []

abbrev pub select_text : List ℕ
select_text = codes "SELECT id, name, secret FROM person ORDER BY id"

abbrev in_order : List (Term × Key)
in_order = (col 1 0, ascending Binary) ∷ []

asks : Asks select_text person_tree [] shown_terms in_order
unfolding understood everything
asks = record { names = names; means = record { is = refl; bare = (refl, refl) }; unlisted = refl }

abbrev out : PersonRow → Output
out row = output_at person_tree refl [] shown_terms in_order [] (person_row row)

lower : (a b : PersonRow) → IsPersonBefore a b → output_cmp (query_of person_tree [] shown_terms in_order) (out a) (out b) ≡ Less
lower a b before = rw value_cmp-Int (grind (arith, ints, nat_tests))

pub looking_at_people : (old new : State) (rows : List Row) → IsTrue old.in_transaction → Shown select_text [] old new rows → Changes (λ content. content) old new
looking_at_people old new rows inside shown = looks_on select_text person_tree [] shown_terms in_order asks old new [] rows inside shown

pub select_people : (old new : State) (rows : List Row) → Shown select_text [] old new rows → Finds (λ content. AreFound IsPersonBefore content.people (map person_of rows)) old
select_people old new rows shown = record {
  was_open = shown_open select_text _ old new rows shown;
  found = λ content is.
      let answer = keyed_shown person_row (λ row. true) content.people person_tree refl select_text [] shown_terms in_order asks old new [] rows is.schema shown (each (λ row. refl) _) is.rows.tables.people in
      subst (λ all. AreFound IsPersonBefore all (map person_of rows)) (all_left content.people)
      (found person_of (query_of person_tree [] shown_terms in_order) out _ rows (each (λ row. refl) _) answer IsPersonBefore lower);
}

pub select_people_read : (old new : State) (rows : List Row) → Shown select_text [] old new rows → (content : Content) → IsContent content old.now → All IsPersonRow rows
select_people_read old new rows shown content is =
    let answer = keyed_shown person_row (λ row. true) content.people person_tree refl select_text [] shown_terms in_order asks old new [] rows is.schema shown (each (λ row. refl) _) is.rows.tables.people in
    all_read IsPersonRow _ _ _ rows answer (each_of person_is_read _ (each_left _ (λ row. true) content.people is.rows.tables.fits.people))

select_people_suits : Suits select_text person_tree [] shown_terms in_order []
unfolding understood everything
select_people_suits = record { whole = refl; given = refl; typed = refl }

pub select_people_excused : (old new : State) (e : Error) → FailsToQuery select_text [] old new e ⊎ IsTooLate select_text [] old new e → IsExcused old new e
select_people_excused old new e failed other ready content is = fails_so select_text person_tree [] shown_terms in_order asks _ select_people_suits old new e is.schema ready other failed

abbrev pub find_text : List ℕ
find_text = codes "SELECT id, name, secret FROM person WHERE name = ?1"

asks_one : Asks find_text person_tree by_name shown_terms []
unfolding understood everything
asks_one = record { names = names; means = record { is = refl; bare = (refl, refl) }; unlisted = refl }

pub find_person : (old new : State) (name : List ℕ) (rows : List Row) → Shown find_text (Text name ∷ []) old new rows
    → Finds (λ content. IsOneOf (filter (is_named name) content.people) (option_map person_of (slice_get rows 0))) old
find_person old new name rows shown = record {
  was_open = shown_open find_text _ old new rows shown;
  found = λ content is.
      let params = Text name ∷ [] in
      let same = each (λ (row : PersonRow). and_true _ ∙ equal_texts row.name name) content.people in
      let answer = keyed_shown person_row (is_named name) content.people person_tree refl find_text by_name shown_terms [] asks_one old new params rows is.schema shown same is.rows.tables.people in
      found_one person_of (query_of person_tree by_name shown_terms []) (λ row. output_at person_tree refl by_name shown_terms [] params (person_row row)) _ rows (each (λ row. refl) _) answer;
}

pub find_person_read : (old new : State) (name : List ℕ) (rows : List Row) → Shown find_text (Text name ∷ []) old new rows → (content : Content) → IsContent content old.now → All IsPersonRow rows
find_person_read old new name rows shown content is =
    let params = Text name ∷ [] in
    let same = each (λ (row : PersonRow). and_true _ ∙ equal_texts row.name name) content.people in
    let answer = keyed_shown person_row (is_named name) content.people person_tree refl find_text by_name shown_terms [] asks_one old new params rows is.schema shown same is.rows.tables.people in
    all_read IsPersonRow _ _ _ rows answer (each_of person_is_read _ (each_left _ (is_named name) content.people is.rows.tables.fits.people))

find_person_suits : (name : List ℕ) → Suits find_text person_tree by_name shown_terms [] (Text name ∷ [])
unfolding understood everything
find_person_suits name = record { whole = refl; given = refl; typed = refl }

pub find_person_excused : (old new : State) (name : List ℕ) (e : Error) → FailsToQuery find_text (Text name ∷ []) old new e ⊎ IsTooLate find_text (Text name ∷ []) old new e → IsExcused old new e
find_person_excused old new name e failed other ready content is = fails_so find_text person_tree by_name shown_terms [] asks_one _ (find_person_suits name) old new e is.schema ready other failed

-- ---- whether there is one of a number

abbrev pub has_text : List ℕ
has_text = codes "SELECT id FROM person WHERE id = ?1"

abbrev by_id : List Term
by_id = equal 0 0 ∷ []

abbrev id_alone : List Term
id_alone = col 1 0 ∷ []

asks_whether : Asks has_text person_tree by_id id_alone []
unfolding understood everything
asks_whether = record { names = codes "id" ∷ []; means = record { is = refl; bare = (refl, refl) }; unlisted = refl }

suits : (id : ℕ) → Suits has_text person_tree by_id id_alone [] (Int (pos id) ∷ [])
unfolding understood everything
suits id = record { whole = refl; given = refl; typed = refl }

pub has_person : (old new : State) (id : ℕ) (rows : List Row) → Shown has_text (Int (pos id) ∷ []) old new rows → Finds (λ content. not (length rows == 0) ≡ list_any (is_person id) content.people) old
has_person old new id rows shown = record {
  was_open = shown_open has_text _ old new rows shown;
  found = λ content is.
      let params = Int (pos id) ∷ [] in
      let same = each (λ (row : PersonRow). and_true _ ∙ equal_numbers row.id id) content.people in
      let answer = keyed_shown person_row (is_person id) content.people person_tree refl has_text by_id id_alone [] asks_whether old new params rows is.schema shown same is.rows.tables.people in
      found_any (query_of person_tree by_id id_alone []) (λ row. output_at person_tree refl by_id id_alone [] params (person_row row)) (is_person id) content.people rows answer;
}

pub person_excused : (old new : State) (id : ℕ) (e : Error) → FailsToQuery has_text (Int (pos id) ∷ []) old new e ⊎ IsTooLate has_text (Int (pos id) ∷ []) old new e → IsExcused old new e
person_excused old new id e failed other ready content is = fails_so has_text person_tree by_id id_alone [] asks_whether _ (suits id) old new e is.schema ready other failed

-- ---- the one of a number

abbrev pub find_at_text : List ℕ
find_at_text = codes "SELECT id, name, secret FROM person WHERE id = ?1"

asks_one_at : Asks find_at_text person_tree by_id shown_terms []
unfolding understood everything
asks_one_at = record { names = names; means = record { is = refl; bare = (refl, refl) }; unlisted = refl }

pub find_person_at : (old new : State) (id : ℕ) (rows : List Row) → Shown find_at_text (Int (pos id) ∷ []) old new rows
    → Finds (λ content. IsOneOf (filter (is_person id) content.people) (option_map person_of (slice_get rows 0))) old
find_person_at old new id rows shown = record {
  was_open = shown_open find_at_text _ old new rows shown;
  found = λ content is.
      let params = Int (pos id) ∷ [] in
      let same = each (λ (row : PersonRow). and_true _ ∙ equal_numbers row.id id) content.people in
      let answer = keyed_shown person_row (is_person id) content.people person_tree refl find_at_text by_id shown_terms [] asks_one_at old new params rows is.schema shown same is.rows.tables.people in
      found_one person_of (query_of person_tree by_id shown_terms []) (λ row. output_at person_tree refl by_id shown_terms [] params (person_row row)) _ rows (each (λ row. refl) _) answer;
}

pub find_person_at_read : (old new : State) (id : ℕ) (rows : List Row) → Shown find_at_text (Int (pos id) ∷ []) old new rows → (content : Content) → IsContent content old.now → All IsPersonRow rows
find_person_at_read old new id rows shown content is =
    let params = Int (pos id) ∷ [] in
    let same = each (λ (row : PersonRow). and_true _ ∙ equal_numbers row.id id) content.people in
    let answer = keyed_shown person_row (is_person id) content.people person_tree refl find_at_text by_id shown_terms [] asks_one_at old new params rows is.schema shown same is.rows.tables.people in
    all_read IsPersonRow _ _ _ rows answer (each_of person_is_read _ (each_left _ (is_person id) content.people is.rows.tables.fits.people))

find_person_at_suits : (id : ℕ) → Suits find_at_text person_tree by_id shown_terms [] (Int (pos id) ∷ [])
unfolding understood everything
find_person_at_suits id = record { whole = refl; given = refl; typed = refl }

pub find_person_at_excused : (old new : State) (id : ℕ) (e : Error) → FailsToQuery find_at_text (Int (pos id) ∷ []) old new e ⊎ IsTooLate find_at_text (Int (pos id) ∷ []) old new e → IsExcused old new e
find_person_at_excused old new id e failed other ready content is = fails_so find_at_text person_tree by_id shown_terms [] asks_one_at _ (find_person_at_suits id) old new e is.schema ready other failed
