-- The changes of rows lead from the rows of a world to those of the later one.
use Rattle.std.proofs.Common.{◌≡◌, ℕ, ◌+◌, ◌<◌, ◌≤◌, ◌^◌, List, [], ◌∷◌, ◌++◌, map, flat_map, length, refl, sym, ◌∙◌, ap, subst, arith, IsPermutation}
use Rattle.std.specs.List.{AllByRecursion, IsDistinct}
use Rattle.std.specs.Str.{bytes_eq}
use Rattle.std.proofs.lemmas.List.{append-nil}
use Rattle.sqlite_trees.proofs.ListLemmas.{all-append, all-map, all_of, all_weaker}
use Rattle.tb_board.specs.declared.board.Board.{Board}
use Rattle.tb_board.specs.declared.change.Change.{Change}
use Rattle.tb_board.specs.declared.world.RoleOn.{RoleOn}
use Rattle.tb_board.specs.declared.world.World.{World}
use Rattle.tb_board.specs.Changing.{changed}
use Rattle.tb_board.specs.Extends.{Extends, ExtendsBoard, IsFrontOf}
use Rattle.tb_board.specs.Good.{IsGood}
use Rattle.tb_core.specs.GoodWorld.{names, IsGoodWorld, IsRoleIn}
use Rattle.tb_sql_tables.specs.declared.rows.BoardRow.{BoardRow}
use Rattle.tb_sql_tables.specs.declared.rows.TaskRow.{TaskRow}
use Rattle.tb_sql_tables.specs.declared.rows.LinkRow.{LinkRow}
use Rattle.tb_sql_tables.specs.declared.rows.InstanceRow.{InstanceRow}
use Rattle.tb_sql_tables.specs.declared.rows.GoneRow.{GoneRow}
use Rattle.tb_sql_tables.specs.declared.rows.HorizonRow.{HorizonRow}
use Rattle.tb_sql.specs.declared.changes.RowChange.{RowChange}
use Rattle.tb_rows.specs.Rows.{board_row, horizon_row, board_gone, board_instances, board_links, board_tasks, gone_row, instance_rows, link_rows, person_row, rows_from, task_row}
use Rattle.tb_rows.specs.Steps.{kept_board, Leads}
use Rattle.tb_rows.proofs.WholeWorlds.{board_changes, new_board, people_changes, role_changes, world_changes}
use Rattle.tb_rows.proofs.BoardRows.{board_later, board_new, gone_later, gone_new, inert-boards, instance_at, instances_later, instances_new, kept_turns, LeavesTasks, link_at, links_later, links_new, tasks_later, tasks_new, weaker}
use Rattle.tb_rows.proofs.Evolving.{evolved, replay}
use Rattle.tb_rows.proofs.GoneRows.{gone_turns}
use Rattle.tb_rows.proofs.HorizonRows.{horizon_later, horizon_new}
use Rattle.tb_rows.proofs.Kept.{are_kept, IsLater}
use Rattle.tb_rows.proofs.PeopleAndRoles.{inert-people, inert-roles, people_turn, roles_turn}
use Rattle.tb_rows.proofs.Places.{IsElsewhere, Matches, turns_boards}
use Rattle.tb_rows.proofs.Staying.{all_at, front_at, front_length, matches_from}
use Rattle.tb_rows.proofs.Tables.{board_by, boards_by, boards_unordered, entries_by, entry_by, gone_all_by, gone_by, gone_unordered, horizon_by, horizons_by, horizons_unordered, instance_by, instances_by, instances_unordered, kept_same, link_by, links_by, links_unordered, people_by, person_by, role_by, roles_by, task_by, tasks_by, tasks_unordered}
use Rattle.tb_rows.proofs.Turning.{all_by, all_by-append, inert-append, inert_then_turns, IsInert, IsUnordered, Turns, turns_all, turns_then_inert}

-- what each row of a board's items has in common
all_rows : {A B : Type 0} (P : B → Type 0) (f : ℕ → A → List B) → ((n : ℕ) (a : A) → AllByRecursion P (f n a)) → (n : ℕ) (xs : List A) → AllByRecursion P (rows_from f n xs)
all_rows P f each n [] = tt
all_rows P f each n (x ∷ xs) = all-append P (f n x) (rows_from f (n + 1) xs) (each n x) (all_rows P f each (n + 1) xs)

one_each : {A B : Type 0} (f : A → B) (xs : List A) → map f xs ≡ flat_map (λ x. f x ∷ []) xs
one_each f [] = refl
one_each f (x ∷ xs) = ap (λ l. f x ∷ l) (one_each f xs)

person_leaves_tasks : LeavesTasks person_by
person_leaves_tasks =
    record { task = λ r rows. refl; text = λ n p body mask rows. refl; mask = λ n p mask rows. refl; link = λ r rows. refl; links = λ n p rows. refl; instance = λ r rows. refl }

role_leaves_tasks : LeavesTasks role_by
role_leaves_tasks =
    record { task = λ r rows. refl; text = λ n p body mask rows. refl; mask = λ n p mask rows. refl; link = λ r rows. refl; links = λ n p rows. refl; instance = λ r rows. refl }

entry_leaves_tasks : LeavesTasks entry_by
entry_leaves_tasks =
    record { task = λ r rows. refl; text = λ n p body mask rows. refl; mask = λ n p mask rows. refl; link = λ r rows. refl; links = λ n p rows. refl; instance = λ r rows. refl }

module _ (w v : World) (cs : List Change) (good_before : IsGoodWorld w) (good_after : IsGoodWorld v) (extends : Extends w v) (made : v ≡ changed w cs) where
  pairs : Matches (λ i a b. IsLater a b cs) (λ i b. Unit {0}) 1 w.boards v.boards
  pairs =
      let comes : IsFrontOf (λ (a b : Board). b ≡ replay a.number cs a) w.boards v.boards =
      subst (λ (x : World). IsFrontOf (λ (a b : Board). b ≡ replay a.number cs a) w.boards x.boards) (sym made) (evolved cs w 1 w.boards [] (sym (append-nil w.boards)) good_before.numbered) in
      matches_from _ _ 1 w.boards v.boards (front_length ExtendsBoard w.boards v.boards extends.boards)
      (λ j p a b e within at_a at_b.
      let ext = front_at ExtendsBoard w.boards v.boards j a b extends.boards within at_a at_b in
      record {
        good_before = all_at IsGood w.boards j a good_before.good within at_a;
        good_after = all_at IsGood v.boards j b good_after.good (omega (arith, within, front_length ExtendsBoard w.boards v.boards extends.boards)) at_b;
        extends = ext;
        made = front_at (λ (a b : Board). b ≡ replay a.number cs a) w.boards v.boards j a b comes within at_a at_b ∙ ap (λ n. replay n cs a) (sym ext.number);
      })
      (λ j p b e past within at. tt)

  -- a table of boards is turned where the rows of each board are
  table : {R : Type 0} (by : RowChange → List R → List R) → IsUnordered by → (board : R → ℕ) (f : Board → List R)
      → ((b : Board) → AllByRecursion (λ r. board r ≡ b.number) (f b))
      → ((a b : Board) → IsLater a b cs → Turns by (IsElsewhere board b.number) (kept_board (length a.tasks) b cs) (f a) (f b))
      → ((b : Board) → Turns by (IsElsewhere board b.number) (new_board b) [] (f b))
      → IsInert by (people_changes w cs) → IsInert by (role_changes cs v.roles)
      → (rows : List R) → IsPermutation rows (flat_map f w.boards) → IsPermutation (all_by by (world_changes w v cs) rows) (flat_map f v.boards)
  table by un board f on later new people roles rows same =
      turns_all by un (λ r. 1 ≤ board r → ⊥) (world_changes w v cs) (flat_map f w.boards) (flat_map f v.boards) rows
      (inert_then_turns by _ (people_changes w cs) (board_changes cs w.boards v.boards ++ role_changes cs v.roles) (flat_map f w.boards) (flat_map f v.boards) people
      (turns_then_inert by _ (board_changes cs w.boards v.boards) (role_changes cs v.roles) (flat_map f w.boards) (flat_map f v.boards)
      (turns_boards by un board f on 1 cs w.boards v.boards good_before.numbered good_after.numbered
      (weaker _ _ _ _ (λ i a b h. later a b h) (λ i b h. new b) 1 w.boards v.boards pairs)) roles)) same

  tasks_table : (rows : List TaskRow) → IsPermutation rows (flat_map board_tasks w.boards) → IsPermutation (all_by task_by (world_changes w v cs) rows) (flat_map board_tasks v.boards)
  tasks_table =
      table task_by tasks_unordered (λ (r : TaskRow). r.board) board_tasks (λ b. all_rows _ (λ p t. task_row b p t ∷ []) (λ p t. (refl, tt)) 1 b.tasks)
      (λ a b h. kept_turns task_by _ board_tasks a b cs h.made (tasks_later a b cs h.extends.number (are_kept a b cs h))) tasks_new
      (inert-people task_by (record { added = λ r rows. refl; set = λ name secret rows. refl }) w cs) (inert-roles task_by (λ n p rows. refl) (λ r rows. refl) cs v.roles)

  links_table : (rows : List LinkRow) → IsPermutation rows (flat_map board_links w.boards) → IsPermutation (all_by link_by (world_changes w v cs) rows) (flat_map board_links v.boards)
  links_table =
      table link_by links_unordered (λ (r : LinkRow). r.board) board_links (λ b. all_rows _ (link_rows b) (λ p t. all_weaker _ _ (λ r at. at.0) (link_rows b p t) (link_at b b.number refl p t)) 1 b.tasks)
      (λ a b h. kept_turns link_by _ board_links a b cs h.made (links_later a b cs h.extends.number (are_kept a b cs h))) links_new
      (inert-people link_by (record { added = λ r rows. refl; set = λ name secret rows. refl }) w cs) (inert-roles link_by (λ n p rows. refl) (λ r rows. refl) cs v.roles)

  instances_table : (rows : List InstanceRow) → IsPermutation rows (flat_map board_instances w.boards) → IsPermutation (all_by instance_by (world_changes w v cs) rows) (flat_map board_instances v.boards)
  instances_table =
      table instance_by instances_unordered (λ (r : InstanceRow). r.board) board_instances
      (λ b. all_rows _ (instance_rows b) (λ p t. all_weaker _ _ (λ r at. at.0) (instance_rows b p t) (instance_at b b.number refl p t)) 1 b.tasks)
      (λ a b h. kept_turns instance_by _ board_instances a b cs h.made (instances_later a b cs h.extends.number (are_kept a b cs h))) instances_new
      (inert-people instance_by (record { added = λ r rows. refl; set = λ name secret rows. refl }) w cs) (inert-roles instance_by (λ n p rows. refl) (λ r rows. refl) cs v.roles)

  gone_table : (rows : List GoneRow) → IsPermutation rows (flat_map board_gone w.boards) → IsPermutation (all_by gone_by (world_changes w v cs) rows) (flat_map board_gone v.boards)
  gone_table =
      table gone_by gone_unordered (λ (r : GoneRow). r.board) board_gone (λ b. all-map _ (gone_row b) b.gone (all_of _ (λ g. refl) b.gone))
      (λ a b h. kept_turns gone_by _ board_gone a b cs h.made
      (gone_later (length a.tasks) b cs (board_gone a) (gone_turns a b cs h.extends.number h.extends.tasks h.good_before.gone h.good_after.gone h.made))) gone_new
      (inert-people gone_by (record { added = λ r rows. refl; set = λ name secret rows. refl }) w cs) (inert-roles gone_by (λ n p rows. refl) (λ r rows. refl) cs v.roles)

  boards_table : (rows : List BoardRow) → IsPermutation rows (map board_row w.boards) → IsPermutation (all_by board_by (world_changes w v cs) rows) (map board_row v.boards)
  boards_table rows same =
      subst (IsPermutation (all_by board_by (world_changes w v cs) rows)) (sym (one_each board_row v.boards))
      (table board_by boards_unordered (λ (r : BoardRow). r.id) (λ b. board_row b ∷ []) (λ b. (refl, tt))
      (λ a b h. kept_turns board_by _ (λ b. board_row b ∷ []) a b cs h.made (board_later a b cs h.extends h.made)) board_new
      (inert-people board_by (record { added = λ r rows. refl; set = λ name secret rows. refl }) w cs) (inert-roles board_by (λ n p rows. refl) (λ r rows. refl) cs v.roles)
      rows (subst (IsPermutation rows) (one_each board_row w.boards) same))

  horizons_table : (rows : List HorizonRow) → IsPermutation rows (map horizon_row w.boards) → IsPermutation (all_by horizon_by (world_changes w v cs) rows) (map horizon_row v.boards)
  horizons_table rows same =
      subst (IsPermutation (all_by horizon_by (world_changes w v cs) rows)) (sym (one_each horizon_row v.boards))
      (table horizon_by horizons_unordered (λ (r : HorizonRow). r.board) (λ b. horizon_row b ∷ []) (λ b. (refl, tt))
      (λ a b h. kept_turns horizon_by _ (λ b. horizon_row b ∷ []) a b cs h.made (horizon_later a b cs h.extends.number h.made)) horizon_new
      (inert-people horizon_by (record { added = λ r rows. refl; set = λ name secret rows. refl }) w cs) (inert-roles horizon_by (λ n p rows. refl) (λ r rows. refl) cs v.roles)
      rows (subst (IsPermutation rows) (one_each horizon_row w.boards) same))

  fits : (x : World) → IsGoodWorld x → AllByRecursion (λ (r : RoleOn). r.person < 2 ^ 32) x.roles
  fits x good = all_weaker _ _ (λ (r : RoleOn) (is : IsRoleIn x r). omega (arith, is.to_person, good.people)) x.roles good.roles

  pub leads : Leads (world_changes w v cs) w v
  leads =
      let people = people_changes w cs in
      let boards = board_changes cs w.boards v.boards in
      let roles = role_changes cs v.roles in
      record {
        tables = λ c same. record {
          people = rw (
            people_by (world_changes w v cs) c,
            all_by-append person_by people (boards ++ roles) c.people,
            (inert-append person_by boards roles
                (inert-boards person_by (record { added = λ r rows. refl; title = λ n title rows. refl; low = λ n low rows. refl }) (record { added = λ r rows. refl; set = λ n ahead rows. refl }) person_leaves_tasks (record { added = λ r rows. refl; removed = λ n t k rows. refl }) cs w.boards v.boards)
                (inert-roles person_by (λ n p rows. refl) (λ r rows. refl) cs v.roles)).same (all_by person_by people c.people),
          )
              (subst (λ (x : World). IsPermutation (all_by person_by people c.people) (rows_from (λ n p. person_row n p ∷ []) 1 x.people)) (sym made)
              (people_turn cs w c.people (subst (λ (x : World). IsDistinct bytes_eq (names x)) made good_after.apart) same.people));
          boards = rw (boards_by (world_changes w v cs) c) (boards_table c.boards same.boards);
          roles = rw (
            roles_by (world_changes w v cs) c,
            all_by-append role_by people (boards ++ roles) c.roles,
            (inert-people role_by (record { added = λ r rows. refl; set = λ name secret rows. refl }) w cs).same c.roles,
            all_by-append role_by boards roles c.roles,
            (inert-boards role_by (record { added = λ r rows. refl; title = λ n title rows. refl; low = λ n low rows. refl }) (record { added = λ r rows. refl; set = λ n ahead rows. refl }) role_leaves_tasks (record { added = λ r rows. refl; removed = λ n t k rows. refl }) cs w.boards v.boards).same c.roles,
          )
              (roles_turn w v cs c.roles (ap (λ (x : World). x.roles) made) (fits w good_before) (fits v good_after) same.roles);
          tasks = rw (tasks_by (world_changes w v cs) c) (tasks_table c.tasks same.tasks);
          links = rw (links_by (world_changes w v cs) c) (links_table c.links same.links);
          instances = rw (instances_by (world_changes w v cs) c) (instances_table c.instances same.instances);
          gone = rw (gone_all_by (world_changes w v cs) c) (gone_table c.gone same.gone);
          horizon = rw (horizons_by (world_changes w v cs) c) (horizons_table c.horizon same.horizon);
        };
        kept = kept_same (world_changes w v cs);
        history = λ c. rw (
          entries_by (world_changes w v cs) c,
          all_by-append entry_by people (boards ++ roles) c.history,
          (inert-people entry_by (record { added = λ r rows. refl; set = λ name secret rows. refl }) w cs).same c.history,
          (inert-append entry_by boards roles
              (inert-boards entry_by (record { added = λ r rows. refl; title = λ n title rows. refl; low = λ n low rows. refl }) (record { added = λ r rows. refl; set = λ n ahead rows. refl }) entry_leaves_tasks (record { added = λ r rows. refl; removed = λ n t k rows. refl }) cs w.boards v.boards)
              (inert-roles entry_by (λ n p rows. refl) (λ r rows. refl) cs v.roles)).same c.history,
        )
            refl;
      }
