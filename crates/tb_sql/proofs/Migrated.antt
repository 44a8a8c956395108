-- What becomes of the rows of the first version.
use Rattle.std.proofs.Common.{◌≡◌, ◌∙◌, List, [], ◌∷◌, ◌++◌, map, length, Result, Ok, Err, OnErr, refl, sym, subst, IsPermutation}
use Rattle.std.proofs.lemmas.List.{append-nil}
use Rattle.std.proofs.lemmas.List.Sorted.{IsPermutation-map, IsPermutation-middle, IsPermutation-refl, IsPermutation-sym, IsPermutation-trans, length_permutation}
use Rattle.sqlite.specs.Effect.{Database}
use Rattle.sqlite.specs.State.{KeepsCommit, State}
use Rattle.tb_sql_tables.specs.declared.rows.BoardRow.{BoardRow}
use Rattle.tb_sql_tables.specs.declared.rows.HorizonRow.{HorizonRow}
use Rattle.tb_sql_tables.specs.declared.rows.PersonRow.{PersonRow}
use Rattle.tb_sql_tables.specs.Content.{old_part, without_history, Content, IsContent}
use Rattle.tb_sql_tables.specs.Statements.{Changes, Finds, Turns}
use Rattle.tb_sql_tables.specs.Standing.{IsOldContent, IsSecondContent}
use Rattle.tb_sql_tables.specs.Found.{AreFound}
use Rattle.tb_sql_tables.proofs.Changing.{changes_then}
use Rattle.tb_sql_tables.proofs.Reordered.{reordered, AreReordered}
use Rattle.tb_sql.specs.declared.migrating.Counts.{Counts}
use Rattle.tb_sql.specs.Changes.{IsBoardBefore, IsPersonBefore}
use Rattle.tb_sql.specs.Migrating.{first_horizon, horizon_changes, migrated, IsMigrated, IsWidened}
use Rattle.tb_sql.specs.Writing.{changed_by_all}

-- the rows of boards go in one after the other
abbrev rows_before : List BoardRow → List HorizonRow → List HorizonRow
rows_before [] rows = rows
rows_before (board ∷ boards) rows = rows_before boards (first_horizon board ∷ rows)

horizons_in : (boards : List BoardRow) (content : Content) → changed_by_all (horizon_changes boards) content ≡ record content { horizon = rows_before boards content.horizon }
horizons_in [] content = refl
horizons_in (board ∷ boards) content = horizons_in boards (record content { horizon = first_horizon board ∷ content.horizon })

all_in : (boards : List BoardRow) (rows : List HorizonRow) → IsPermutation (rows_before boards rows) (map first_horizon boards ++ rows)
all_in [] rows = IsPermutation-refl rows
all_in (board ∷ boards) rows =
    IsPermutation-trans _ _ _ (all_in boards (first_horizon board ∷ rows)) (IsPermutation-middle (map first_horizon boards) (first_horizon board) rows)

in_any_order : (content : Content) (boards : List BoardRow) → IsPermutation content.boards boards → AreReordered (changed_by_all (horizon_changes boards) (old_part content)) (migrated content)
in_any_order content boards same =
    let bare = old_part content in
    let put : IsPermutation (rows_before boards []) (map first_horizon boards) = subst (IsPermutation (rows_before boards [])) (append-nil (map first_horizon boards)) (all_in boards []) in
    let rows = IsPermutation-trans _ _ _ put (IsPermutation-map first_horizon _ _ (IsPermutation-sym content.boards boards same)) in
    subst (λ c. AreReordered c (migrated content)) (sym (horizons_in boards bare)) (record {
      people = IsPermutation-refl content.people;
      boards = IsPermutation-refl content.boards;
      roles = IsPermutation-refl content.roles;
      tasks = IsPermutation-refl content.tasks;
      links = IsPermutation-refl content.links;
      instances = IsPermutation-refl content.instances;
      gone = IsPermutation-refl content.gone;
      kept = IsPermutation-refl content.kept;
      horizon = rows;
      history = IsPermutation-refl [];
    })

module _ (a b c d : State) (content : Content) (people : List PersonRow) (boards : List BoardRow) (counts : Counts) where
  pub filled : Changes (λ x. x) a b → Finds (λ x. AreFound IsPersonBefore x.people people) a → Changes (λ x. x) b c → Finds (λ x. AreFound IsBoardBefore x.boards boards) b
      → Changes (changed_by_all (horizon_changes boards)) c d → counts.people ≡ length people → counts.boards ≡ length boards → Turns (IsContent (old_part content)) (IsMigrated content counts) a d
  filled first people_found second boards_found put people_are boards_are = record {
    shown = (changes_then (λ x. x) (changed_by_all (horizon_changes boards)) a c d (changes_then (λ x. x) (λ x. x) a b c first second) put).shown;
    made = λ is.
        let bare = old_part content in
        let at_b = first.content bare is in
        let at_d = put.content bare (second.content bare at_b) in
        let of_people = people_found.found bare is in
        let of_boards = boards_found.found bare at_b in
        record {
          is = record { schema = at_d.schema; rows = reordered _ (migrated content) d.now.trees (in_any_order content boards of_boards.same) at_d.rows };
          people = people_are ∙ length_permutation _ _ of_people.same;
          boards = boards_are ∙ length_permutation _ _ of_boards.same;
        };
  }

module _ (a b c : State) (content : Content) (people : List PersonRow) (boards : List BoardRow) (counts : Counts) where
  pub counted : Changes (λ x. x) a b → Finds (λ x. AreFound IsPersonBefore x.people people) a → Changes (λ x. x) b c → Finds (λ x. AreFound IsBoardBefore x.boards boards) b
      → counts.people ≡ length people → counts.boards ≡ length boards → Turns (IsContent (without_history content)) (IsWidened content counts) a c
  counted first people_found second boards_found people_are boards_are = record {
    shown = (changes_then (λ x. x) (λ x. x) a b c first second).shown;
    made = λ is.
        let bare = without_history content in
        let at_b = first.content bare is in
        record {
          is = second.content bare at_b;
          people = people_are ∙ length_permutation _ _ (people_found.found bare is).same;
          boards = boards_are ∙ length_permutation _ _ (boards_found.found bare at_b).same;
        };
  }

-- of what is made the rows alone
pub only_rows : (content : Content) (counts : Counts) (old new : State) → Turns (IsSecondContent content) (IsWidened content counts) old new → Turns (IsSecondContent content) (IsContent (without_history content)) old new
only_rows content counts old new turn = record { shown = turn.shown; made = λ is. (turn.made is).is }

pub only_content : (content : Content) (counts : Counts) (old new : State) → Turns (IsOldContent content) (IsMigrated content counts) old new → Turns (IsOldContent content) (IsContent (migrated content)) old new
only_content content counts old new turn = record { shown = turn.shown; made = λ is. (turn.made is).is }

-- ---- one statement after another

-- where a call fails, whatever the error is
pub at_err : {A E P : Type 0} (result : Result A E) → P → OnErr result P
at_err (Ok a) holds = tt
at_err (Err e) holds = holds

pub where_err : {A E P Q : Type 0} (result : Result A E) → (P → Q) → OnErr result P → OnErr result Q
where_err (Ok a) step h = tt
where_err (Err e) step h = step h

pub turned_kept : (P Q : Database → Type 0) (a b : State) → Turns P Q a b → KeepsCommit a b
turned_kept P Q a b turn = record { was_open = λ _. turn.shown.was_open; committed = λ _. turn.shown.committed_is }
