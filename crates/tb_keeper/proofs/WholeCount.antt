-- Boards that are counted one after the other, whatever their rows are.
use Rattle.std.proofs.Common.{◌≡◌, ◌∙◌, ◌+◌, ◌<◌, ◌≤◌, ℕ, Bool, true, false, cond, List, [], ◌∷◌, ◌++◌, Option, filter, length, length-append, get_or, take, true≢false, refl, sym, ap, subst, subst₂, arith}
use Rattle.std.specs.Prelude.{◌↔◌, IsTrue, not, sum_by}
use Rattle.std.proofs.lemmas.List.{take_all, take_more}
use Rattle.std.proofs.lemmas.List.Elements.{filter-append}
use Rattle.std.proofs.lemmas.List.Sums.{sum_by-append}
use Rattle.sqlite.specs.State.{HasCleanDisk, State as Database}
use Rattle.tb_board.specs.declared.board.Board.{Board}
use Rattle.tb_rows.specs.Reading.{is_gone_on, is_task_on}
use Rattle.tb_sql.specs.Changes.{is_horizon, IsBoardBefore, IsGoneBefore, IsInstanceBefore, IsLinkBefore, IsTaskBefore}
use Rattle.tb_sql.specs.Opening.{IsAsBefore}
use Rattle.tb_sql_tables.specs.declared.rows.BoardRow.{BoardRow}
use Rattle.tb_sql_tables.specs.declared.rows.TaskRow.{TaskRow}
use Rattle.tb_sql_tables.specs.declared.rows.LinkRow.{LinkRow}
use Rattle.tb_sql_tables.specs.declared.rows.InstanceRow.{InstanceRow}
use Rattle.tb_sql_tables.specs.declared.rows.GoneRow.{GoneRow}
use Rattle.tb_sql_tables.specs.declared.rows.HorizonRow.{HorizonRow}
use Rattle.tb_sql_tables.specs.Content.{Content}
use Rattle.tb_sql_tables.specs.Found.{AreFound, IsOneOf}
use Rattle.tb_keeper.specs.declared.auditing.Audit.{Audit}
use Rattle.tb_keeper.specs.declared.auditing.Checked.{Checked}
use Rattle.tb_keeper.specs.Auditing.{differs, is_instance_on, is_link_on, AreChecksOf, CountsBoards, CountsRows, IsCheckBy, IsCheckOf, IsCheckOfRow, IsCheckWith, IsCountOf, IsOwned, IsRowCheck, IsTablesCheck, StandsFor}
use Rattle.tb_keeper.specs.SoundHistories.{IsSoundHistory}
use Rattle.tb_keeper.specs.SoundRows.{AreNumbered, HasPeople}
use Rattle.tb_lookup.specs.Reopening.{OfContent}
use Rattle.tb_keeper.proofs.Counting.{IsOneMore}
use Rattle.tb_lookup.proofs.Standing.{stood}
use Rattle.tb_task.specs.Limits.{most_boards}

-- what is found of a board between looks that change nothing
pub check_whole : (start second third fourth after : Database) (row : BoardRow) (horizon : Option HorizonRow) (tasks : List TaskRow) (gone : List GoneRow) (links : List LinkRow) (instances : List InstanceRow) (checked : Checked)
    → IsAsBefore start second → IsAsBefore second third → IsAsBefore third fourth → IsAsBefore fourth after
    → OfContent start second (λ c. AreFound IsTaskBefore (filter (is_task_on row.id) c.tasks) tasks)
    → OfContent second third (λ c. AreFound IsGoneBefore (filter (is_gone_on row.id) c.gone) gone)
    → OfContent third fourth (λ c. AreFound IsLinkBefore (filter (is_link_on row.id) c.links) links)
    → OfContent fourth after (λ c. AreFound IsInstanceBefore (filter (is_instance_on row.id) c.instances) instances)
    → IsCheckBy row horizon tasks gone links instances checked → OfContent start after (λ c. IsOneOf (filter (is_horizon row.id) c.horizon) horizon → IsCheckOfRow c row checked)
check_whole start second third fourth after row horizon tasks gone links instances checked one two three four of_tasks of_gone of_links of_instances check clean c stands of_horizon =
    let clean_fourth : HasCleanDisk fourth = four.clean clean in
    let clean_third : HasCleanDisk third = three.clean clean_fourth in
    let clean_second : HasCleanDisk second = two.clean clean_third in
    let at_second = stood c start second stands one in
    let at_third = stood c second third at_second two in
    let at_fourth = stood c third fourth at_third three in
    record {
      horizon = horizon;
      tasks = tasks;
      gone = gone;
      links = links;
      instances = instances;
      horizon_found = of_horizon;
      tasks_found = of_tasks clean_second c stands;
      gone_found = of_gone clean_third c at_second;
      links_found = of_links clean_fourth c at_third;
      instances_found = of_instances clean c at_fourth;
      check = check;
    }

-- what is found of a row: its roles first, its history last
pub row_whole : (start second third after : Database) (people : ℕ) (row : BoardRow) (tables checked : Checked) → IsAsBefore start second → IsAsBefore second third → IsAsBefore third after
    → OfContent start second (λ c. IsOwned c people row.id) → OfContent second third (λ c. IsCheckOfRow c row tables) → OfContent third after (λ c. IsCheckWith c row.id tables checked) → OfContent start after (λ c. IsRowCheck c people row checked)
row_whole start second third after people row tables checked one two three owned check history clean c stands =
    let clean_third = three.clean clean in
    let at_second = stood c start second stands one in
    record {
      owned = owned (two.clean clean_third) c stands;
      tables = tables;
      board = check clean_third c at_second;
      history = history clean c (stood c second third at_second two);
    }

-- what is found of the board of a row
pub row_checked : (start second third after : Database) (row : BoardRow) (tables checked : Checked) → IsAsBefore start second → IsAsBefore second third → IsAsBefore third after
    → OfContent second third (λ c. (b : Board) → StandsFor c row b → IsTablesCheck c b tables) → OfContent third after (λ c. IsCheckWith c row.id tables checked) → OfContent start after (λ c. (b : Board) → StandsFor c row b → IsCheckOf c b checked)
row_checked start second third after row tables checked one two three check history clean c stands b for_b =
    let at_second = stood c start second stands one in
    let is = check (three.clean clean) c at_second b for_b in
    let all = history clean c (stood c second third at_second two) in
    let own : IsSoundHistory c row.id tables.tasks → IsSoundHistory c b.number (length b.tasks) = subst₂ (IsSoundHistory c) for_b.number is.size in
    let back : IsSoundHistory c b.number (length b.tasks) → IsSoundHistory c row.id tables.tasks = subst₂ (IsSoundHistory c) (sym for_b.number) (sym is.size) in
    record {
      size = all.size ∙ is.size;
      tells = (λ so. let both = all.tells.0 so in record { tables = is.tells.0 both.0; history = own both.1 }, λ has. all.tells.1 (is.tells.1 has.tables, back has.history));
    }

-- a check with a history, where the tables are as they should be and where they aren't
pub with_history : (c : Content) (board tasks : ℕ) (tables sound : Bool) → tables ≡ true → IsTrue sound ↔ IsSoundHistory c board tasks → IsTrue sound ↔ IsTrue tables × IsSoundHistory c board tasks
with_history c board tasks tables sound is tells = (λ so. (is, tells.0 so), λ both. tells.1 both.1)

pub without_tables : (c : Content) (board tasks : ℕ) (tables : Bool) → tables ≡ false → IsTrue tables ↔ IsTrue tables × IsSoundHistory c board tasks
without_tables c board tasks tables not = (λ so. absurd (true≢false (sym so ∙ not)), λ both. both.0)

-- once it is found how far ahead a board looks, the rest is found
pub with_horizon : (P : Content → Type 0) (Q : Content → Type 0) (start mid after : Database) → IsAsBefore start mid → IsAsBefore mid after → OfContent start mid P → OfContent mid after (λ c. P c → Q c) → OfContent start after Q
with_horizon P Q start mid after one two first rest clean c stands = rest clean c (stood c start mid stands one) (first (two.clean clean) c stands)

-- what is found behind a look that changes nothing
pub behind : (P : Content → Type 0) (old mid new : Database) → IsAsBefore old mid → OfContent mid new P → OfContent old new P
behind P old mid new one found clean c stands = found clean c (stood c old mid stands one)

checks_more : (c : Content) (people : ℕ) (rows : List BoardRow) (checks : List Checked) (row : BoardRow) (checked : Checked) → AreChecksOf c people rows checks → IsRowCheck c people row checked
    → AreChecksOf c people (rows ++ row ∷ []) (checks ++ checked ∷ [])
checks_more c people [] [] row checked each one = (one, tt)
checks_more c people [] (x ∷ xs) row checked each one = absurd each
checks_more c people (r ∷ rows) [] row checked each one = absurd each
checks_more c people (r ∷ rows) (x ∷ xs) row checked each one = (each.0, checks_more c people rows xs row checked each.1 one)

abbrev tasks_in : List Checked → ℕ
tasks_in checks = sum_by (λ (x : Checked). x.tasks) checks

tasks_more : (checks : List Checked) (checked : Checked) → tasks_in (checks ++ checked ∷ []) ≡ tasks_in checks + checked.tasks
tasks_more checks checked =
    let more : tasks_in (checks ++ checked ∷ []) ≡ tasks_in checks + (0 + checked.tasks) = sum_by-append (λ (x : Checked). x.tasks) checks (checked ∷ []) in
    omega (arith, more)

faults_more : (checks : List Checked) (checked : Checked) → length (filter differs (checks ++ checked ∷ [])) ≡ cond checked.as_stored (length (filter differs checks)) (length (filter differs checks) + 1)
faults_more checks checked =
    ap length (filter-append differs checks (checked ∷ [])) ∙ length-append (filter differs checks) (filter differs (checked ∷ [])) ∙ go checked.as_stored
  where
    go : (same : Bool) → length (filter differs checks) + length (cond (not same) (checked ∷ []) []) ≡ cond same (length (filter differs checks)) (length (filter differs checks) + 1)
    go true = omega arith
    go false = refl

rows_more : (c : Content) (people : ℕ) (rows : List BoardRow) (row : BoardRow) (audit later : Audit) (checked : Checked) → IsRowCheck c people row checked → IsOneMore audit later checked → CountsRows c people rows audit
    → CountsRows c people (rows ++ row ∷ []) later
rows_more c people rows row audit later checked one more counts = record {
  checks = counts.checks ++ checked ∷ [];
  each = checks_more c people rows counts.checks row checked counts.each one;
  boards_are = more.boards ∙ ap (λ n. n + 1) counts.boards_are ∙ sym (length-append rows (row ∷ []));
  tasks_are = more.tasks ∙ ap (λ n. n + checked.tasks) counts.tasks_are ∙ sym (tasks_more counts.checks checked);
  faults_are = more.faults ∙ ap (λ n. cond checked.as_stored n (n + 1)) counts.faults_are ∙ sym (faults_more counts.checks checked);
}

-- so it is with each content that stood at the start
abbrev pub CountsFirst : Database → Database → ℕ → List BoardRow → Audit → Type 0
CountsFirst start now people rows audit = OfContent start now (λ c. CountsRows c people rows audit)

pub none_first : (start now : Database) (people : ℕ) → CountsFirst start now people [] (record { boards = 0; tasks = 0; faults = 0 })
none_first start now people clean c stands = record { checks = []; each = tt; boards_are = refl; tasks_are = refl; faults_are = refl }

pub one_first : (start before after : Database) (people : ℕ) (all : List BoardRow) (n : ℕ) (row : BoardRow) (audit later : Audit) (checked : Checked) → n < length all → row ≡ get_or all n row → IsAsBefore start before
    → IsAsBefore before after → OfContent before after (λ c. IsRowCheck c people row checked) → IsOneMore audit later checked → CountsFirst start before people (take n all) audit → CountsFirst start after people (take (n + 1) all) later
one_first start before after people all n row audit later checked within here same one is more first clean c stands =
    let whole : take (n + 1) all ≡ take n all ++ row ∷ [] = take_more all n row within ∙ ap (λ x. take n all ++ x ∷ []) (sym here) in
    subst (λ rows. CountsRows c people rows later) (sym whole) (rows_more c people (take n all) row audit later checked (is clean c (stood c start before stands same)) more (first (one.clean clean) c stands))

pub all_first : (start now : Database) (people : ℕ) (all : List BoardRow) (n : ℕ) (audit : Audit) → length all ≤ n → CountsFirst start now people (take n all) audit → CountsFirst start now people all audit
all_first start now people all n audit end first = subst (λ rows. CountsFirst start now people rows audit) (take_all n all end) first

-- the rows that are found are those of the content
pub count_whole : (old mid new : Database) (people : ℕ) (rows : List BoardRow) → IsAsBefore old mid → OfContent old mid (λ c. AreFound IsBoardBefore c.boards rows) → IsAsBefore mid new → length rows ≤ most_boards → AreNumbered rows
    → (audit : Audit) → OfContent mid new (λ c. CountsRows c people rows audit) → OfContent old new (λ c. CountsBoards c people audit)
count_whole old mid new people rows one found two few numbered audit counts clean c stands =
    record { rows = rows; found = found (two.clean clean) c stands; few = few; numbered = numbered; counts = counts clean c (stood c old mid stands one) }

-- people are found first, and then the boards
pub all_counted : (old mid new : Database) (people : ℕ) (audit : Audit) → IsAsBefore old mid → IsAsBefore mid new → OfContent old mid (λ c. HasPeople c people) → OfContent mid new (λ c. CountsBoards c people audit)
    → OfContent old new (λ c. IsCountOf c audit)
all_counted old mid new people audit one two has counts clean c stands = record {
  people = people;
  has_people = has (two.clean clean) c stands;
  boards = counts clean c (stood c old mid stands one);
}
