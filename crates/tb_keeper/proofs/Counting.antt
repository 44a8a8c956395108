-- Boards that are counted one after the other.
use Rattle.std.proofs.Common.{◌≡◌, ◌∙◌, ◌+◌, ◌<◌, ◌≤◌, ℕ, Bool, true, false, cond, List, [], ◌∷◌, ◌++◌, ◌⊎◌, Option, None, Some, Ok, map, drop, filter, length, get_or, true≢false, refl, sym, ap, ap₂, subst, subst₂, arith, inl, inr, IsPermutation}
use Rattle.std.specs.Prelude.{◌↔◌, IsTrue}
use Rattle.std.specs.List.{AllByRecursion}
use Rattle.std.proofs.lemmas.List.{append-nil, append_assoc, drop_all, drop_more}
use Rattle.std.proofs.lemmas.List.Elements.{All-from_recursion, recursion_from_All}
use Rattle.std.proofs.lemmas.List.Sorted.{All-permutation, IsPermutation-sym, IsPermutation-trans}
use Rattle.sqlite.proofs.Callers.{one_permutation}
use Rattle.sqlite.specs.State.{HasCleanDisk, State as Database}
use Rattle.sqlite_trees.proofs.ListLemmas.{IsPermutation-same}
use Rattle.tb_rows.specs.AsStored.{masks_of, AreAsStored}
use Rattle.tb_board.specs.declared.board.Board.{Board}
use Rattle.tb_rows.specs.Reading.{board_of, is_gone_on, is_task_on}
use Rattle.tb_rows.proofs.OneOf.{none_found, one_found}
use Rattle.tb_rows.proofs.Rising.{tasks_rise}
use Rattle.tb_rows.specs.Rows.{board_row, board_tasks, horizon_row}
use Rattle.tb_sql.specs.Changes.{is_board, is_horizon, IsGoneBefore, IsInstanceBefore, IsLinkBefore, IsTaskBefore}
use Rattle.tb_sql.specs.Opening.{IsAsBefore}
use Rattle.tb_sql.proofs.Opened.{stands_again}
use Rattle.tb_sql_tables.specs.declared.rows.BoardRow.{BoardRow}
use Rattle.tb_sql_tables.specs.declared.rows.TaskRow.{TaskRow}
use Rattle.tb_sql_tables.specs.declared.rows.LinkRow.{LinkRow}
use Rattle.tb_sql_tables.specs.declared.rows.InstanceRow.{InstanceRow}
use Rattle.tb_sql_tables.specs.declared.rows.GoneRow.{GoneRow}
use Rattle.tb_sql_tables.specs.declared.rows.HorizonRow.{HorizonRow}
use Rattle.tb_sql_tables.specs.Content.{AreRows, Content, IsContent}
use Rattle.tb_sql_tables.specs.Found.{AreFound, IsOneOf}
use Rattle.tb_sql_tables.proofs.Effects.{all_left}
use Rattle.tb_keeper.specs.declared.auditing.Audit.{Audit}
use Rattle.tb_keeper.specs.declared.auditing.Checked.{Checked}
use Rattle.tb_keeper.specs.Auditing.{is_instance_on, is_link_on, task_count, without_mask, AreFaults, HasHorizonOrNone, HasItsRows, HasItsTables, IsCheckOf, IsTablesCheck, StandFor, StandsFor, Tells}
use Rattle.tb_lookup.specs.Reopening.{OfContent}

-- ---- what is found tells whether the content has the rows of a board

alike : (xs ys : List TaskRow) → map without_mask xs ≡ map without_mask ys → masks_of xs ≡ masks_of ys → xs ≡ ys
alike [] [] same masks = refl
alike [] (y ∷ ys) same masks = absurd (cc)
alike (x ∷ xs) [] same masks = absurd (cc)
alike (x ∷ xs) (y ∷ ys) same masks =
    let first : without_mask x ≡ without_mask y = cc in
    let mask : x.mask ≡ y.mask = cc in
    let rest : map without_mask xs ≡ map without_mask ys = cc in
    let masks_rest : masks_of xs ≡ masks_of ys = cc in
    ap₂ ◌∷◌ (one x y first mask) (alike xs ys rest masks_rest)
  where
    one : (x y : TaskRow) → without_mask x ≡ without_mask y → x.mask ≡ y.mask → x ≡ y
    one x y first mask = λ i.
        let r : TaskRow = first i in
        let row : TaskRow = record { board = r.board; place = r.place; uuid = r.uuid; body = r.body; mask = mask i } in
        row

-- what is found of how far ahead a board looks is its row, or none
horizon_found : (c : Content) (b : Board) (horizon : Option HorizonRow) → HasHorizonOrNone c b → IsOneOf (filter (is_horizon b.number) c.horizon) horizon → (horizon ≡ None) ⊎ (horizon ≡ Some (horizon_row b))
horizon_found c b horizon (inl none) is = inl (none_found (λ (r : HorizonRow). true) (filter (is_horizon b.number) c.horizon) [] (alike_rows none) horizon refl (subst (λ l. IsOneOf l horizon) (sym (all_left _)) is))
  where
    alike_rows : filter (is_horizon b.number) c.horizon ≡ [] → IsPermutation (filter (is_horizon b.number) c.horizon) []
    alike_rows e = IsPermutation-same _ _ e
horizon_found c b horizon (inr one) is = inr (one_found (λ (r : HorizonRow). true) (filter (is_horizon b.number) c.horizon) (horizon_row b ∷ []) (IsPermutation-same _ _ one) horizon (horizon_row b) refl (subst (λ l. IsOneOf l horizon) (sym (all_left _)) is))

only : (row other : BoardRow) → IsPermutation (row ∷ []) (other ∷ []) → row ≡ other
only row other same = sym (recursion_from_All (λ (r : BoardRow). r ≡ row) (other ∷ []) (All-permutation (λ r. r ≡ row) (row ∷ []) (other ∷ []) same (All-from_recursion (λ r. r ≡ row) (row ∷ []) (refl, tt)))).0

module _ (c : Content) (row : BoardRow) (b : Board) (stands : StandsFor c row b) (horizon : Option HorizonRow) (tasks : List TaskRow) (links : List LinkRow) (instances : List InstanceRow)
    (of_horizon : IsOneOf (filter (is_horizon b.number) c.horizon) horizon) (of_tasks : AreFound IsTaskBefore (filter (is_task_on b.number) c.tasks) tasks) (of_links : AreFound IsLinkBefore (filter (is_link_on b.number) c.links) links)
    (of_instances : AreFound IsInstanceBefore (filter (is_instance_on b.number) c.instances) instances) where
  horizon_there : horizon ≡ Some (horizon_row b) → IsPermutation (filter (is_horizon b.number) c.horizon) (horizon_row b ∷ [])
  horizon_there is = elim stands.horizon [
    | inl none ↦ absurd (none_there (subst₂ IsOneOf none is of_horizon))
    | inr one ↦ IsPermutation-same _ _ one
  ]
    where
      none_there : IsOneOf [] (Some (horizon_row b)) → ⊥
      none_there h = omega (arith, h.1)

  there_horizon : IsPermutation (filter (is_horizon b.number) c.horizon) (horizon_row b ∷ []) → horizon ≡ Some (horizon_row b)
  there_horizon same = elim (horizon_found c b horizon stands.horizon of_horizon) [
    | inl none ↦ absurd (no_row (sym (one_permutation (horizon_row b) _ (IsPermutation-sym _ _ same)) ∙ subst (IsOneOf (filter (is_horizon b.number) c.horizon)) none of_horizon))
    | inr one ↦ one
  ]
    where
      no_row : horizon_row b ∷ [] ≡ [] → ⊥
      no_row e = absurd (cc)

  has_rows : AreAsStored b row horizon tasks links instances → HasItsTables c b
  has_rows are = record {
    row_is = subst (λ r. IsPermutation (filter (is_board b.number) c.boards) (r ∷ [])) are.row_is stands.own;
    horizon_is = horizon_there are.horizon_is;
    tasks_are = subst (IsPermutation (filter (is_task_on b.number) c.tasks)) (alike tasks (board_tasks b) (stands.tasks tasks of_tasks) are.masks) of_tasks.same;
    links_are = IsPermutation-trans _ _ _ of_links.same are.links_are;
    instances_are = IsPermutation-trans _ _ _ of_instances.same are.instances_are;
  }

  as_stored : HasItsTables c b → AreAsStored b row horizon tasks links instances
  as_stored has = record {
    row_is = only row (board_row b) (IsPermutation-trans _ _ _ (IsPermutation-sym _ _ stands.own) has.row_is);
    horizon_is = there_horizon has.horizon_is;
    masks = ap masks_of (of_tasks.in_order (board_tasks b) (IsPermutation-sym _ _ has.tasks_are) (tasks_rise b));
    links_are = IsPermutation-trans _ _ _ (IsPermutation-sym _ _ of_links.same) has.links_are;
    instances_are = IsPermutation-trans _ _ _ (IsPermutation-sym _ _ of_instances.same) has.instances_are;
  }

  tells_rows : (checked : Checked) → checked.tasks ≡ length b.tasks → IsTrue checked.as_stored ↔ AreAsStored b row horizon tasks links instances → IsTablesCheck c b checked
  tells_rows checked size tells = record { size = size; tells = (λ is. has_rows (tells.0 is), λ has. tells.1 (as_stored has)) }

-- what is read of a board between looks that change nothing
pub checks : (start second third fourth after : Database) (row : BoardRow) (horizon : Option HorizonRow) (tasks : List TaskRow) (gone : List GoneRow) (links : List LinkRow) (instances : List InstanceRow) (checked : Checked)
    → IsAsBefore start second → IsAsBefore second third → IsAsBefore third fourth → IsAsBefore fourth after
    → OfContent start second (λ c. AreFound IsTaskBefore (filter (is_task_on row.id) c.tasks) tasks)
    → OfContent second third (λ c. AreFound IsGoneBefore (filter (is_gone_on row.id) c.gone) gone)
    → OfContent third fourth (λ c. AreFound IsLinkBefore (filter (is_link_on row.id) c.links) links)
    → OfContent fourth after (λ c. AreFound IsInstanceBefore (filter (is_instance_on row.id) c.instances) instances)
    → ((b : Board) → board_of row (Some (horizon_row b)) tasks gone ≡ Ok b → checked.tasks ≡ length b.tasks)
    → ((b : Board) → board_of row (Some (horizon_row b)) tasks gone ≡ Ok b → (horizon ≡ None) ⊎ (horizon ≡ Some (horizon_row b)) → IsTrue checked.as_stored ↔ AreAsStored b row horizon tasks links instances)
    → OfContent start after (λ c. (b : Board) → StandsFor c row b → IsOneOf (filter (is_horizon b.number) c.horizon) horizon → IsTablesCheck c b checked)
checks start second third fourth after row horizon tasks gone links instances checked one two three four of_tasks of_gone of_links of_instances size tells clean c stands b for_b of_horizon =
    let clean_fourth : HasCleanDisk fourth = four.clean clean in
    let clean_third : HasCleanDisk third = three.clean clean_fourth in
    let clean_second : HasCleanDisk second = two.clean clean_third in
    let at_second = stands_again (IsContent c) (AreRows c) start second stands one in
    let at_third = stands_again (IsContent c) (AreRows c) second third at_second two in
    let at_fourth = stands_again (IsContent c) (AreRows c) third fourth at_third three in
    let ts = subst (λ n. AreFound IsTaskBefore (filter (is_task_on n) c.tasks) tasks) for_b.number (of_tasks clean_second c stands) in
    let gs = subst (λ n. AreFound IsGoneBefore (filter (is_gone_on n) c.gone) gone) for_b.number (of_gone clean_third c at_second) in
    let ls = subst (λ n. AreFound IsLinkBefore (filter (is_link_on n) c.links) links) for_b.number (of_links clean_fourth c at_third) in
    let is = subst (λ n. AreFound IsInstanceBefore (filter (is_instance_on n) c.instances) instances) for_b.number (of_instances clean c at_fourth) in
    let read = for_b.read tasks gone ts gs in
    tells_rows c row b for_b horizon tasks links instances of_horizon ts ls is checked (size b read) (tells b read (horizon_found c b horizon for_b.horizon of_horizon))

-- ---- counts

counts_more : (bs : List Board) (b : Board) → task_count (bs ++ b ∷ []) ≡ task_count bs + length b.tasks
counts_more [] b = omega arith
counts_more (d ∷ bs) b = let later = counts_more bs b in omega (arith, later)

length_more : (bs : List Board) (b : Board) → length (bs ++ b ∷ []) ≡ length bs + 1
length_more [] b = refl
length_more (d ∷ bs) b = let later = length_more bs b in omega (arith, later)

faults_same : (c : Content) (bs : List Board) (b : Board) (n : ℕ) → HasItsRows c b → AreFaults c bs n → AreFaults c (bs ++ b ∷ []) n
faults_same c [] b n has are = inl (has, are)
faults_same c (d ∷ bs) b n has (inl here) = inl (here.0, faults_same c bs b n has here.1)
faults_same c (d ∷ bs) b n has (inr other) = inr (other.0, (other.1.0, other.1.1, faults_same c bs b other.1.0 has other.1.2))

faults_more : (c : Content) (bs : List Board) (b : Board) (n : ℕ) → (HasItsRows c b → ⊥) → AreFaults c bs n → AreFaults c (bs ++ b ∷ []) (n + 1)
faults_more c [] b n not are = inr (not, (0, ap (λ k. k + 1) are, refl))
faults_more c (d ∷ bs) b n not (inl here) = inl (here.0, faults_more c bs b n not here.1)
faults_more c (d ∷ bs) b n not (inr other) = inr (other.0, (other.1.0 + 1, ap (λ k. k + 1) other.1.1, faults_more c bs b other.1.0 not other.1.2))

-- where each board has its rows there are no faults
pub no_faults : (c : Content) (bs : List Board) (n : ℕ) → AllByRecursion (HasItsRows c) bs → AreFaults c bs n → n ≡ 0
no_faults c [] n all are = are
no_faults c (b ∷ bs) n all (inl here) = no_faults c bs n all.1 here.1
no_faults c (b ∷ bs) n all (inr other) = absurd (other.0 all.0)

-- what is counted before these rows
pub record IsCountedUpTo (c : Content) (rows : List BoardRow) (bs : List Board) (audit : Audit) : Type 0 where
  pub done : List Board
  pub left : List Board
  pub joined : done ++ left ≡ bs
  pub each : StandFor c rows left
  pub tells : Tells c done audit

pub record IsOneMore (audit later : Audit) (checked : Checked) : Type 0 where
  pub boards : later.boards ≡ audit.boards + 1
  pub tasks : later.tasks ≡ audit.tasks + checked.tasks
  pub faults : later.faults ≡ cond checked.as_stored audit.faults (audit.faults + 1)

one_tells : (c : Content) (bs : List Board) (b : Board) (audit later : Audit) (checked : Checked) → IsCheckOf c b checked → IsOneMore audit later checked → Tells c bs audit → Tells c (bs ++ b ∷ []) later
one_tells c bs b audit later checked is more tells = record {
  boards_are = more.boards ∙ ap (λ n. n + 1) tells.boards_are ∙ sym (length_more bs b);
  tasks_are = more.tasks ∙ ap₂ ◌+◌ tells.tasks_are is.size ∙ sym (counts_more bs b);
  faults_are = go checked.as_stored more.faults is.tells;
}
  where
    go : (same : Bool) → later.faults ≡ cond same audit.faults (audit.faults + 1) → IsTrue same ↔ HasItsRows c b → AreFaults c (bs ++ b ∷ []) later.faults
    go true faults tells_b = subst (AreFaults c (bs ++ b ∷ [])) (sym faults) (faults_same c bs b audit.faults (tells_b.0 refl) tells.faults_are)
    go false faults tells_b = subst (AreFaults c (bs ++ b ∷ [])) (sym faults) (faults_more c bs b audit.faults (λ has. true≢false (sym (tells_b.1 has))) tells.faults_are)

one_up_to : (c : Content) (row : BoardRow) (rows : List BoardRow) (bs : List Board) (audit later : Audit) (checked : Checked) → ((b : Board) → StandsFor c row b → IsCheckOf c b checked) → IsOneMore audit later checked
    → IsCountedUpTo c (row ∷ rows) bs audit → IsCountedUpTo c rows bs later
one_up_to c row rows bs audit later checked is more at = go at.left at.joined at.each
  where
    go : (left : List Board) → at.done ++ left ≡ bs → StandFor c (row ∷ rows) left → IsCountedUpTo c rows bs later
    go [] joined each = absurd each
    go (b ∷ left) joined each = record {
      done = at.done ++ b ∷ [];
      left = left;
      joined = append_assoc at.done (b ∷ []) left ∙ joined;
      each = each.1;
      tells = one_tells c at.done b audit later checked (is b each.0) more at.tells;
    }

-- so it is with each content that stood at the start
abbrev pub CountsUpTo : Database → Database → List BoardRow → List BoardRow → Audit → Type 0
CountsUpTo start now all rows audit = OfContent start now (λ c. (bs : List Board) → StandFor c all bs → IsCountedUpTo c rows bs audit)

pub none_counted : (start now : Database) (all : List BoardRow) → CountsUpTo start now all all (record { boards = 0; tasks = 0; faults = 0 })
none_counted start now all clean c stands bs each = record { done = []; left = bs; joined = refl; each = each; tells = record { boards_are = refl; tasks_are = refl; faults_are = refl } }

pub one_counted : (start before after : Database) (all : List BoardRow) (n : ℕ) (row : BoardRow) (audit later : Audit) (checked : Checked) → n < length all → row ≡ get_or all n row → IsAsBefore start before → IsAsBefore before after
    → OfContent before after (λ c. (b : Board) → StandsFor c row b → IsCheckOf c b checked) → IsOneMore audit later checked
    → CountsUpTo start before all (drop n all) audit → CountsUpTo start after all (drop (n + 1) all) later
one_counted start before after all n row audit later checked within here same one is more at clean c stands bs each =
    let stood = stands_again (IsContent c) (AreRows c) start before stands same in
    one_up_to c row (drop (n + 1) all) bs audit later checked (is clean c stood) more
    (subst (λ rows. IsCountedUpTo c rows bs audit) (drop_more all n row within ∙ ap (λ x. x ∷ drop (n + 1) all) (sym here)) (at (one.clean clean) c stands bs each))

all_up_to : (c : Content) (bs : List Board) (audit : Audit) → IsCountedUpTo c [] bs audit → Tells c bs audit
all_up_to c bs audit at = go at.left at.joined at.each
  where
    go : (left : List Board) → at.done ++ left ≡ bs → StandFor c [] left → Tells c bs audit
    go [] joined each = subst (λ l. Tells c l audit) (sym (append-nil at.done) ∙ joined) at.tells
    go (b ∷ left) joined each = absurd each

pub all_counted : (start now : Database) (all : List BoardRow) (n : ℕ) (audit : Audit) → length all ≤ n → CountsUpTo start now all (drop n all) audit
    → OfContent start now (λ c. (bs : List Board) → StandFor c all bs → Tells c bs audit)
all_counted start now all n audit end at clean c stands bs each =
    all_up_to c bs audit (subst (λ rows. IsCountedUpTo c rows bs audit) (drop_all n all end) (at clean c stands bs each))
