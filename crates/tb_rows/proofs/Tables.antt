-- What changes of rows do to each table.
use Rattle.std.proofs.Common.{◌≡◌, List, [], ◌∷◌, ◌++◌, map, refl, sym, ◌∙◌, ap, subst, IsPermutation}
use Rattle.std.proofs.lemmas.List.Sorted.{IsPermutation-refl, IsPermutation-trans, IsPermutation-cons, IsPermutation-map, IsPermutation-middle}
use Rattle.sqlite_trees.proofs.ListLemmas.{IsPermutation-filter}
use Rattle.tb_sql_tables.specs.Content.{Content, nothing}
use Rattle.tb_sql_tables.specs.declared.rows.PersonRow.{PersonRow}
use Rattle.tb_sql_tables.specs.declared.rows.BoardRow.{BoardRow}
use Rattle.tb_sql_tables.specs.declared.rows.RoleRow.{RoleRow}
use Rattle.tb_sql_tables.specs.declared.rows.TaskRow.{TaskRow}
use Rattle.tb_sql_tables.specs.declared.rows.LinkRow.{LinkRow}
use Rattle.tb_sql_tables.specs.declared.rows.InstanceRow.{InstanceRow}
use Rattle.tb_sql_tables.specs.declared.rows.GoneRow.{GoneRow}
use Rattle.tb_sql_tables.specs.declared.rows.HorizonRow.{HorizonRow}
use Rattle.tb_sql_tables.specs.declared.rows.HistoryRow.{HistoryRow}
use Rattle.tb_sql.specs.declared.changes.RowChange.{RowChange}
use Rattle.tb_sql.specs.declared.changes.RowChange.TheVariants.{AddPerson, SetSecret, AddBoard, SetTitle, SetLow, AddRole, RemoveRole, AddTask, SetText, SetMask, AddLink, RemoveLinks, AddInstance, AddGone, RemoveGone, AddHorizon, SetHorizon, AddEntry}
use Rattle.tb_sql.specs.Writing.{changed_by, changed_by_all}
use Rattle.tb_rows.proofs.Turning.{all_by, IsUnordered, Turns}

abbrev pub person_by : RowChange → List PersonRow → List PersonRow
person_by x rows = (changed_by x (record nothing { people = rows })).people

abbrev pub board_by : RowChange → List BoardRow → List BoardRow
board_by x rows = (changed_by x (record nothing { boards = rows })).boards

abbrev pub role_by : RowChange → List RoleRow → List RoleRow
role_by x rows = (changed_by x (record nothing { roles = rows })).roles

abbrev pub task_by : RowChange → List TaskRow → List TaskRow
task_by x rows = (changed_by x (record nothing { tasks = rows })).tasks

abbrev pub link_by : RowChange → List LinkRow → List LinkRow
link_by x rows = (changed_by x (record nothing { links = rows })).links

abbrev pub instance_by : RowChange → List InstanceRow → List InstanceRow
instance_by x rows = (changed_by x (record nothing { instances = rows })).instances

abbrev pub gone_by : RowChange → List GoneRow → List GoneRow
gone_by x rows = (changed_by x (record nothing { gone = rows })).gone

abbrev pub horizon_by : RowChange → List HorizonRow → List HorizonRow
horizon_by x rows = (changed_by x (record nothing { horizon = rows })).horizon

abbrev pub entry_by : RowChange → List HistoryRow → List HistoryRow
entry_by x rows = (changed_by x (record nothing { history = rows })).history

-- ---- each table by itself

one_person : (x : RowChange) (c : Content) → (changed_by x c).people ≡ person_by x c.people
one_person (AddPerson r) c = refl
one_person _ c = refl

one_board : (x : RowChange) (c : Content) → (changed_by x c).boards ≡ board_by x c.boards
one_board (AddBoard r) c = refl
one_board _ c = refl

one_role : (x : RowChange) (c : Content) → (changed_by x c).roles ≡ role_by x c.roles
one_role (AddRole r) c = refl
one_role _ c = refl

one_task : (x : RowChange) (c : Content) → (changed_by x c).tasks ≡ task_by x c.tasks
one_task (AddTask r) c = refl
one_task _ c = refl

one_link : (x : RowChange) (c : Content) → (changed_by x c).links ≡ link_by x c.links
one_link (AddLink r) c = refl
one_link _ c = refl

one_instance : (x : RowChange) (c : Content) → (changed_by x c).instances ≡ instance_by x c.instances
one_instance (AddInstance r) c = refl
one_instance _ c = refl

one_gone : (x : RowChange) (c : Content) → (changed_by x c).gone ≡ gone_by x c.gone
one_gone (AddGone r) c = refl
one_gone _ c = refl

one_horizon : (x : RowChange) (c : Content) → (changed_by x c).horizon ≡ horizon_by x c.horizon
one_horizon (AddHorizon r) c = refl
one_horizon _ c = refl

one_kept : (x : RowChange) (c : Content) → (changed_by x c).kept ≡ c.kept
one_kept (AddPerson r) c = refl
one_kept _ c = refl

one_entry : (x : RowChange) (c : Content) → (changed_by x c).history ≡ entry_by x c.history
one_entry (AddEntry r) c = refl
one_entry _ c = refl

pub people_by : (xs : List RowChange) (c : Content) → (changed_by_all xs c).people ≡ all_by person_by xs c.people
people_by [] c = refl
people_by (x ∷ xs) c = people_by xs (changed_by x c) ∙ ap (all_by person_by xs) (one_person x c)

pub boards_by : (xs : List RowChange) (c : Content) → (changed_by_all xs c).boards ≡ all_by board_by xs c.boards
boards_by [] c = refl
boards_by (x ∷ xs) c = boards_by xs (changed_by x c) ∙ ap (all_by board_by xs) (one_board x c)

pub roles_by : (xs : List RowChange) (c : Content) → (changed_by_all xs c).roles ≡ all_by role_by xs c.roles
roles_by [] c = refl
roles_by (x ∷ xs) c = roles_by xs (changed_by x c) ∙ ap (all_by role_by xs) (one_role x c)

pub tasks_by : (xs : List RowChange) (c : Content) → (changed_by_all xs c).tasks ≡ all_by task_by xs c.tasks
tasks_by [] c = refl
tasks_by (x ∷ xs) c = tasks_by xs (changed_by x c) ∙ ap (all_by task_by xs) (one_task x c)

pub links_by : (xs : List RowChange) (c : Content) → (changed_by_all xs c).links ≡ all_by link_by xs c.links
links_by [] c = refl
links_by (x ∷ xs) c = links_by xs (changed_by x c) ∙ ap (all_by link_by xs) (one_link x c)

pub instances_by : (xs : List RowChange) (c : Content) → (changed_by_all xs c).instances ≡ all_by instance_by xs c.instances
instances_by [] c = refl
instances_by (x ∷ xs) c = instances_by xs (changed_by x c) ∙ ap (all_by instance_by xs) (one_instance x c)

pub gone_all_by : (xs : List RowChange) (c : Content) → (changed_by_all xs c).gone ≡ all_by gone_by xs c.gone
gone_all_by [] c = refl
gone_all_by (x ∷ xs) c = gone_all_by xs (changed_by x c) ∙ ap (all_by gone_by xs) (one_gone x c)

pub horizons_by : (xs : List RowChange) (c : Content) → (changed_by_all xs c).horizon ≡ all_by horizon_by xs c.horizon
horizons_by [] c = refl
horizons_by (x ∷ xs) c = horizons_by xs (changed_by x c) ∙ ap (all_by horizon_by xs) (one_horizon x c)

pub kept_same : (xs : List RowChange) (c : Content) → (changed_by_all xs c).kept ≡ c.kept
kept_same [] c = refl
kept_same (x ∷ xs) c = kept_same xs (changed_by x c) ∙ one_kept x c

pub entries_by : (xs : List RowChange) (c : Content) → (changed_by_all xs c).history ≡ all_by entry_by xs c.history
entries_by [] c = refl
entries_by (x ∷ xs) c = entries_by xs (changed_by x c) ∙ ap (all_by entry_by xs) (one_entry x c)

-- ---- the order of rows doesn't matter

pub people_unordered : IsUnordered person_by
people_unordered = record { moved = go }
  where
    go : (x : RowChange) (rows other : List PersonRow) → IsPermutation rows other → IsPermutation (person_by x rows) (person_by x other)
    go (AddPerson r) rows other same = IsPermutation-cons r rows other same
    go (SetSecret name secret) rows other same = IsPermutation-map _ rows other same
    go _ rows other same = same

pub boards_unordered : IsUnordered board_by
boards_unordered = record { moved = go }
  where
    go : (x : RowChange) (rows other : List BoardRow) → IsPermutation rows other → IsPermutation (board_by x rows) (board_by x other)
    go (AddBoard r) rows other same = IsPermutation-cons r rows other same
    go (SetTitle id title) rows other same = IsPermutation-map _ rows other same
    go (SetLow id low) rows other same = IsPermutation-map _ rows other same
    go _ rows other same = same

pub roles_unordered : IsUnordered role_by
roles_unordered = record { moved = go }
  where
    go : (x : RowChange) (rows other : List RoleRow) → IsPermutation rows other → IsPermutation (role_by x rows) (role_by x other)
    go (AddRole r) rows other same = IsPermutation-cons r rows other same
    go (RemoveRole board person) rows other same = IsPermutation-filter _ rows other same
    go _ rows other same = same

pub tasks_unordered : IsUnordered task_by
tasks_unordered = record { moved = go }
  where
    go : (x : RowChange) (rows other : List TaskRow) → IsPermutation rows other → IsPermutation (task_by x rows) (task_by x other)
    go (AddTask r) rows other same = IsPermutation-cons r rows other same
    go (SetText board place body mask) rows other same = IsPermutation-map _ rows other same
    go (SetMask board place mask) rows other same = IsPermutation-map _ rows other same
    go _ rows other same = same

pub links_unordered : IsUnordered link_by
links_unordered = record { moved = go }
  where
    go : (x : RowChange) (rows other : List LinkRow) → IsPermutation rows other → IsPermutation (link_by x rows) (link_by x other)
    go (AddLink r) rows other same = IsPermutation-cons r rows other same
    go (RemoveLinks board place) rows other same = IsPermutation-filter _ rows other same
    go _ rows other same = same

pub instances_unordered : IsUnordered instance_by
instances_unordered = record { moved = go }
  where
    go : (x : RowChange) (rows other : List InstanceRow) → IsPermutation rows other → IsPermutation (instance_by x rows) (instance_by x other)
    go (AddInstance r) rows other same = IsPermutation-cons r rows other same
    go _ rows other same = same

pub gone_unordered : IsUnordered gone_by
gone_unordered = record { moved = go }
  where
    go : (x : RowChange) (rows other : List GoneRow) → IsPermutation rows other → IsPermutation (gone_by x rows) (gone_by x other)
    go (AddGone r) rows other same = IsPermutation-cons r rows other same
    go (RemoveGone board template imask) rows other same = IsPermutation-filter _ rows other same
    go _ rows other same = same

pub horizons_unordered : IsUnordered horizon_by
horizons_unordered = record { moved = go }
  where
    go : (x : RowChange) (rows other : List HorizonRow) → IsPermutation rows other → IsPermutation (horizon_by x rows) (horizon_by x other)
    go (AddHorizon r) rows other same = IsPermutation-cons r rows other same
    go (SetHorizon board ahead) rows other same = IsPermutation-map _ rows other same
    go _ rows other same = same

-- ---- rows that go in

pub added : {R : Type 0} (by : RowChange → List R → List R) (f : R → RowChange) → ((r : R) (rows : List R) → by (f r) rows ≡ r ∷ rows)
    → (rs rows : List R) → IsPermutation (all_by by (map f rs) rows) (rs ++ rows)
added by f puts [] rows = IsPermutation-refl rows
added by f puts (r ∷ rs) rows =
    subst (λ l. IsPermutation (all_by by (map f rs) l) (r ∷ (rs ++ rows))) (sym (puts r rows))
    (IsPermutation-trans _ _ _ (added by f puts rs (r ∷ rows)) (IsPermutation-middle rs r rows))

pub turns_added : {R : Type 0} (by : RowChange → List R → List R) (IsApart : R → Type 0) (f : R → RowChange) → ((r : R) (rows : List R) → by (f r) rows ≡ r ∷ rows)
    → (rs : List R) → Turns by IsApart (map f rs) [] rs
turns_added by IsApart f puts rs = record { turned = λ rest apart. added by f puts rs rest }
