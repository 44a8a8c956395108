-- What is noted by the rows of instances is what the tasks say.
use Rattle.std.proofs.Common.{◌≡◌, ◌∙◌, ◌+◌, ◌-◌, ◌<◌, ◌≤◌, ◌==◌, ◌++◌, ℕ, suc, Bool, true, false, List, [], ◌∷◌, Option, Some, None, option_map, filter, flat_map, slice_get, take, length, get_or, if◌then◌else◌, refl, sym, ap, ap₂, subst, arith, IsPermutation}
use Rattle.std.proofs.lemmas.Grind.{flat_map-append}
use Rattle.std.proofs.lemmas.List.{append-nil, take_all, take_more}
use Rattle.std.proofs.lemmas.List.Sorted.{IsPermutation-sym, IsPermutation-trans, list_any-IsPermutation}
use Rattle.sqlite_keyed.proofs.ListLemmas.{IsPermutation-filter, IsPermutation-flat_map}
use Rattle.sqlite.specs.State.{State as Database}
use Rattle.tb_task.specs.declared.task.Task.{Task}
use Rattle.tb_board.specs.Tasks.{wakes}
use Rattle.tb_board.specs.World.{find_board, has_number}
use Rattle.tb_board.specs.declared.board.Board.{Board}
use Rattle.tb_board.proofs.Worlds.{number_found}
use Rattle.tb_calls.specs.Call.{State}
use Rattle.tb_rows.proofs.Joined.{numbered_from, own_rows}
use Rattle.tb_rows.specs.Rows.{board_instances, instance_row, instance_rows, instance_rows_of, rows_from}
use Rattle.tb_sql.specs.Changes.{IsInstanceBefore}
use Rattle.tb_sql.specs.Opening.{IsAsBefore}
use Rattle.tb_sql_tables.specs.Content.{Content}
use Rattle.tb_sql_tables.specs.Found.{AreFound}
use Rattle.tb_sql_tables.specs.declared.rows.InstanceRow.{InstanceRow}
use Rattle.tb_lookup.specs.Reopening.{OfContent, OfState}
use Rattle.tb_lookup.specs.Stored.{AreRowsOf}
use Rattle.tb_lookup.proofs.Standing.{stored_again}
use Rattle.tb_keeper.specs.Exporting.{tasks_on}
use Rattle.tb_keeper.specs.Lending.{lent_row}
use Rattle.tb_keeper.specs.Noting.{AreNotes, IsNotedBy, is_note, is_noted, note_at, note_by, note_of, note_of_row, notes_of}
use Rattle.tb_keeper.specs.declared.noting.Note.{Note}
use Rattle.tb_keeper.proofs.Audited.{own_instances}
use Rattle.tb_keeper.proofs.LentRows.{found_has}

-- ---- on one board

nothing_if : (w : Bool) → ◌≡◌ {A = List Note} [] (if w then [] else [])
nothing_if true = refl
nothing_if false = refl

-- the rows of a task as an instance lead to what is noted of it
each_note : (m : ℕ) (b : Board) (n : ℕ) (t : Task) → slice_get b.tasks (n - 1) ≡ Some t → flat_map (note_by m (Some b)) (instance_rows b n t) ≡ note_of m t
each_note m b n t at = by t.parent t.imask refl refl
  where
    none : note_at t.parent t.imask ≡ [] → [] ≡ note_of m t
    none empty = nothing_if (wakes m t) ∙ ap (λ (l : List Note). if wakes m t then l else []) (sym empty)

    by : (p i : Option ℕ) → t.parent ≡ p → t.imask ≡ i → flat_map (note_by m (Some b)) (instance_rows_of b n p i) ≡ note_of m t
    by None i is has = none (ap (λ q. note_at q t.imask) is)
    by (Some p) None is has = none (ap₂ note_at is has)
    by (Some p) (Some i) is has = append-nil (note_by m (Some b) (instance_row b n p i)) ∙ ap (λ o. note_of_row m (option_map (lent_row b (n - 1)) o)) at

all_notes : (m : ℕ) (b : Board) (n : ℕ) (ts : List Task) → 1 ≤ n → ((k : ℕ) → slice_get b.tasks (n - 1 + k) ≡ slice_get ts k) → flat_map (note_by m (Some b)) (rows_from (instance_rows b) n ts) ≡ notes_of m ts
all_notes m b n [] low at = refl
all_notes m b n (t ∷ ts) low at =
    flat_map-append (note_by m (Some b)) (instance_rows b n t) (rows_from (instance_rows b) (n + 1) ts)
    ∙ ap₂ ◌++◌ (each_note m b n t here) (all_notes m b (n + 1) ts (omega arith) rest)
  where
    here : slice_get b.tasks (n - 1) ≡ Some t
    here =
        let same : n - 1 ≡ n - 1 + 0 = omega arith in
        ap (slice_get b.tasks) same ∙ at 0

    rest : (k : ℕ) → slice_get b.tasks (n + 1 - 1 + k) ≡ slice_get ts k
    rest k =
        let same : n + 1 - 1 + k ≡ n - 1 + suc k = omega (arith, low) in
        ap (slice_get b.tasks) same ∙ at (suc k)

none_by : (m : ℕ) (rows : List InstanceRow) → flat_map (note_by m None) rows ≡ []
none_by m [] = refl
none_by m (row ∷ rows) = none_by m rows

-- ---- of what is stored

-- the rows of a board's instances, in any order, lead to what is noted of its tasks
found_notes : (s : State) (c : Content) → AreRowsOf s c → (m n : ℕ) (rows : List InstanceRow) → AreFound IsInstanceBefore (filter (λ (row : InstanceRow). row.board == n) c.instances) rows
    → AreNotes m (tasks_on (find_board s.world n)) (flat_map (note_by m (find_board s.world n)) rows)
found_notes s c of_s m n rows found id k = go (find_board s.world n) refl
  where
    all : List InstanceRow
    all = flat_map board_instances s.world.boards

    go : (o : Option Board) → find_board s.world n ≡ o → is_noted (flat_map (note_by m o) rows) id k ≡ is_noted (notes_of m (tasks_on o)) id k
    go None is = ap (λ l. is_noted l id k) (none_by m rows)
    go (Some b) is =
        let number = number_found n s.world.boards b is in
        let own = own_rows (λ (row : InstanceRow). row.board) board_instances own_instances 1 s.world.boards (numbered_from 1 s.world.boards of_s.good.numbered) in
        let its = found_has (λ (b : Board). filter (λ (row : InstanceRow). row.board == b.number) all ≡ board_instances b) (has_number n) s.world.boards b own is in
        let here : filter (λ (row : InstanceRow). row.board == n) all ≡ board_instances b = subst (λ q. filter (λ (row : InstanceRow). row.board == q) all ≡ board_instances b) number its in
        let stored = subst (IsPermutation _) here (IsPermutation-filter (λ (row : InstanceRow). row.board == n) c.instances all of_s.same.tables.instances) in
        let same = IsPermutation-trans (board_instances b) _ rows (IsPermutation-sym _ _ stored) found.same in
        sym (list_any-IsPermutation (is_note id k) _ _ (IsPermutation-flat_map (note_by m (Some b)) (board_instances b) rows same))
        ∙ ap (λ l. is_noted l id k) (all_notes m b 1 b.tasks (omega arith) (λ j. let at : 1 - 1 + j ≡ j = omega arith in ap (slice_get b.tasks) at))

-- ---- the loop

-- the first rows of instances are looked at
abbrev pub AreNotedBy : ℕ → ℕ → List InstanceRow → List Note → State → Type 0
AreNotedBy m n rows notes s = notes ≡ flat_map (note_by m (find_board s.world n)) rows

pub noted_more : (start before after : Database) (m n i : ℕ) (all : List InstanceRow) (row : InstanceRow) (notes more : List Note) → IsAsBefore start before → before.in_transaction ≡ false → IsAsBefore before after
    → i < length all → row ≡ get_or all i row → OfState before after (λ s. IsNotedBy m (find_board s.world n) row notes more) → OfState start before (AreNotedBy m n (take i all) notes)
    → OfState start after (AreNotedBy m n (take (i + 1) all) more)
noted_more start before after m n i all row notes more same idle later within here is noted clean s stored =
    let f = note_by m (find_board s.world n) in
    let whole : take (i + 1) all ≡ take i all ++ row ∷ [] = take_more all i row within ∙ ap (λ x. take i all ++ x ∷ []) (sym here) in
    (is clean s (stored_again s start before stored same idle)).more
    ∙ ap₂ ◌++◌ (noted (later.clean clean) s stored) (sym (append-nil (f row)))
    ∙ sym (flat_map-append f (take i all) (row ∷ []))
    ∙ ap (flat_map f) (sym whole)

pub noted_all : (start now : Database) (m n i : ℕ) (all : List InstanceRow) (notes : List Note) → length all ≤ i → OfState start now (AreNotedBy m n (take i all) notes) → OfState start now (AreNotedBy m n all notes)
noted_all start now m n i all notes end noted = subst (λ rows. OfState start now (AreNotedBy m n rows notes)) (take_all i all end) noted

pub noted_found : (old mid new : Database) (m n : ℕ) (rows : List InstanceRow) (notes : List Note) → IsAsBefore old mid → mid.in_transaction ≡ false → IsAsBefore mid new
    → OfContent old mid (λ c. AreFound IsInstanceBefore (filter (λ (row : InstanceRow). row.board == n) c.instances) rows) → OfState mid new (AreNotedBy m n rows notes)
    → OfState old new (λ s. AreNotes m (tasks_on (find_board s.world n)) notes)
noted_found old mid new m n rows notes one idle two found noted clean s stored id k =
    ap (λ l. is_noted l id k) (noted clean s (stored_again s old mid stored one idle))
    ∙ found_notes s stored.content stored.rows m n rows (found (two.clean clean) stored.content stored.stands) id k
