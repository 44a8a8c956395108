-- Rows that fit the columns of their tables: what changes leave of them, and that they are read without a refusal.
use Rattle.std.proofs.Common.{ℕ, ◌≡◌, ◌<◌, ◌^◌, List, [], ◌∷◌, map, length, Bool, true, false, cond, Option, Some, None, IfSome, IsUtf8, All, IsPermutation, pos, inl, inr, refl, sym, ap, subst, arith}
use Rattle.std.specs.List.{AllByRecursion}
use Rattle.std.specs.Int.{to_be_bytes, w128}
use Rattle.std.proofs.lemmas.List.Elements.{All-from_recursion, recursion_from_All}
use Rattle.std.proofs.lemmas.List.Sorted.{All-permutation}
use Rattle.sqlite_value.specs.declared.value.Value.TheVariants.{Int, Text as Words, Blob as Bytes}
use Rattle.sqlite_value.specs.Order.{Row}
use Rattle.sqlite.specs.Values.{or_null}
use Rattle.sqlite_sql.specs.Query.{Query, Output}
use Rattle.tb_sql_tables.specs.declared.rows.PersonRow.{PersonRow}
use Rattle.tb_sql_tables.specs.declared.rows.BoardRow.{BoardRow}
use Rattle.tb_sql_tables.specs.declared.rows.RoleRow.{RoleRow}
use Rattle.tb_sql_tables.specs.declared.rows.TaskRow.{TaskRow}
use Rattle.tb_sql_tables.specs.declared.rows.LinkRow.{LinkRow}
use Rattle.tb_sql_tables.specs.declared.rows.InstanceRow.{InstanceRow}
use Rattle.tb_sql_tables.specs.declared.rows.GoneRow.{GoneRow}
use Rattle.tb_sql_tables.specs.declared.rows.KeptRow.{KeptRow}
use Rattle.tb_sql_tables.specs.declared.rows.HorizonRow.{HorizonRow}
use Rattle.tb_sql_tables.specs.declared.rows.HistoryRow.{HistoryRow}
use Rattle.tb_sql_tables.specs.Content.{Content, IsFitting}
use Rattle.tb_sql_tables.specs.Fitting.{FitsBoard, FitsEntry, FitsGone, FitsHorizon, FitsInstance, FitsKept, FitsLink, FitsPerson, FitsRole, FitsTask}
use Rattle.tb_sql_tables.specs.Read.{IsBoardRow, IsGoneRow, IsHorizonRow, IsInstanceRow, IsKeptRow, IsLinkRow, IsPersonRow, IsRoleRow, IsTaskRow, IsTextOrNone}
use Rattle.tb_sql_tables.proofs.Effects.{IsShownOf}

-- ---- a table is changed

pub fit_people : (content : Content) (rows : List PersonRow) → IsFitting content → AllByRecursion FitsPerson rows → IsFitting (record content { people = rows })
fit_people content rows was fit = record { people = fit; boards = was.boards; roles = was.roles; tasks = was.tasks; links = was.links; instances = was.instances; gone = was.gone; kept = was.kept; horizon = was.horizon; history = was.history }

pub fit_boards : (content : Content) (rows : List BoardRow) → IsFitting content → AllByRecursion FitsBoard rows → IsFitting (record content { boards = rows })
fit_boards content rows was fit = record { people = was.people; boards = fit; roles = was.roles; tasks = was.tasks; links = was.links; instances = was.instances; gone = was.gone; kept = was.kept; horizon = was.horizon; history = was.history }

pub fit_roles : (content : Content) (rows : List RoleRow) → IsFitting content → AllByRecursion FitsRole rows → IsFitting (record content { roles = rows })
fit_roles content rows was fit = record { people = was.people; boards = was.boards; roles = fit; tasks = was.tasks; links = was.links; instances = was.instances; gone = was.gone; kept = was.kept; horizon = was.horizon; history = was.history }

pub fit_tasks : (content : Content) (rows : List TaskRow) → IsFitting content → AllByRecursion FitsTask rows → IsFitting (record content { tasks = rows })
fit_tasks content rows was fit = record { people = was.people; boards = was.boards; roles = was.roles; tasks = fit; links = was.links; instances = was.instances; gone = was.gone; kept = was.kept; horizon = was.horizon; history = was.history }

pub fit_links : (content : Content) (rows : List LinkRow) → IsFitting content → AllByRecursion FitsLink rows → IsFitting (record content { links = rows })
fit_links content rows was fit = record { people = was.people; boards = was.boards; roles = was.roles; tasks = was.tasks; links = fit; instances = was.instances; gone = was.gone; kept = was.kept; horizon = was.horizon; history = was.history }

pub fit_instances : (content : Content) (rows : List InstanceRow) → IsFitting content → AllByRecursion FitsInstance rows → IsFitting (record content { instances = rows })
fit_instances content rows was fit = record { people = was.people; boards = was.boards; roles = was.roles; tasks = was.tasks; links = was.links; instances = fit; gone = was.gone; kept = was.kept; horizon = was.horizon; history = was.history }

pub fit_gone : (content : Content) (rows : List GoneRow) → IsFitting content → AllByRecursion FitsGone rows → IsFitting (record content { gone = rows })
fit_gone content rows was fit = record { people = was.people; boards = was.boards; roles = was.roles; tasks = was.tasks; links = was.links; instances = was.instances; gone = fit; kept = was.kept; horizon = was.horizon; history = was.history }

pub fit_kept : (content : Content) (rows : List KeptRow) → IsFitting content → AllByRecursion FitsKept rows → IsFitting (record content { kept = rows })
fit_kept content rows was fit = record { people = was.people; boards = was.boards; roles = was.roles; tasks = was.tasks; links = was.links; instances = was.instances; gone = was.gone; kept = fit; horizon = was.horizon; history = was.history }

pub fit_horizon : (content : Content) (rows : List HorizonRow) → IsFitting content → AllByRecursion FitsHorizon rows → IsFitting (record content { horizon = rows })
fit_horizon content rows was fit = record { people = was.people; boards = was.boards; roles = was.roles; tasks = was.tasks; links = was.links; instances = was.instances; gone = was.gone; kept = was.kept; horizon = fit; history = was.history }

pub fit_history : (content : Content) (rows : List HistoryRow) → IsFitting content → AllByRecursion FitsEntry rows → IsFitting (record content { history = rows })
fit_history content rows was fit = record { people = was.people; boards = was.boards; roles = was.roles; tasks = was.tasks; links = was.links; instances = was.instances; gone = was.gone; kept = was.kept; horizon = was.horizon; history = fit }

-- rows that are set fit where what they are set to does
pub still_fit : {X : Type 0} (P : X → Type 0) (t : X → Bool) (set : X → X) → ((x : X) → P x → P (set x)) → (xs : List X) → AllByRecursion P xs → AllByRecursion P (map (λ x. cond (t x) (set x) x) xs)
still_fit P t set fits [] all = tt
still_fit P t set fits (x ∷ xs) all = (one (t x), still_fit P t set fits xs all.1)
  where
    one : (b : Bool) → P (cond b (set x) x)
    one true = fits x all.0
    one false = all.0

-- ---- what is shown of rows is read

mapped : {X Y : Type 0} (P : Y → Type 0) (f : X → Y) (xs : List X) → AllByRecursion (λ x. P (f x)) xs → AllByRecursion P (map f xs)
mapped P f [] all = tt
mapped P f (x ∷ xs) all = (all.0, mapped P f xs all.1)

pub all_read : {X : Type 0} (P : Row → Type 0) (query : Query) (out : X → Output) (xs : List X) (rows : List Row) → IsShownOf query out xs rows → AllByRecursion (λ x. P (out x).1) xs → All P rows
all_read P query out xs rows is read =
    let Q = λ (o : Output). P o.1 in
    let all = All-permutation Q (map out xs) is.ordered is.same (All-from_recursion Q (map out xs) (mapped Q out xs read)) in
    subst (All P) (sym is.shown) (All-from_recursion P _ (mapped P (λ (o : Output). o.1) is.ordered (recursion_from_All Q is.ordered all)))

mask_read : (mask : Option (List ℕ)) → IfSome mask IsUtf8 → IsTextOrNone (or_null Words mask)
mask_read None fits = inl refl
mask_read (Some text) fits = inr (text, refl, fits)

pub person_read : (row : PersonRow) → FitsPerson row → IsPersonRow (Int (pos row.id) ∷ Words row.name ∷ Words row.secret ∷ [])
person_read row fits = record { all = refl; id = (row.id, refl, fits.id); name = (row.name, refl, fits.name); secret = (row.secret, refl, fits.secret) }

pub board_read : (row : BoardRow) → FitsBoard row → IsBoardRow (Int (pos row.id) ∷ Words row.title ∷ Int (pos row.low) ∷ [])
board_read row fits = record { all = refl; id = (row.id, refl, fits.id); title = (row.title, refl, fits.title); low = (row.low, refl, fits.low) }

pub role_read : (row : RoleRow) → FitsRole row → IsRoleRow (Int (pos row.board) ∷ Int (pos row.person) ∷ Int (pos row.kind) ∷ [])
role_read row fits = record { all = refl; board = (row.board, refl, fits.board); person = (row.person, refl, fits.person); kind = (row.kind, refl, fits.kind) }

pub task_read : (row : TaskRow) → FitsTask row → IsTaskRow (Int (pos row.board) ∷ Int (pos row.place) ∷ Bytes (to_be_bytes w128 row.uuid) ∷ Words row.body ∷ or_null Words row.mask ∷ [])
task_read row fits = record {
  all = refl;
  board = (row.board, refl, fits.board);
  place = (row.place, refl, fits.place);
  uuid = (to_be_bytes w128 row.uuid, refl, refl);
  body = (row.body, refl, fits.body);
  mask = mask_read row.mask fits.mask;
}

pub link_read : (row : LinkRow) → FitsLink row → IsLinkRow (Int (pos row.board) ∷ Int (pos row.place) ∷ Int (pos row.target) ∷ [])
link_read row fits = record { all = refl; board = (row.board, refl, fits.board); place = (row.place, refl, fits.place); target = (row.target, refl, fits.target) }

pub instance_read : (row : InstanceRow) → FitsInstance row → IsInstanceRow (Int (pos row.board) ∷ Int (pos row.template) ∷ Int (pos row.imask) ∷ Int (pos row.place) ∷ [])
instance_read row fits = record { all = refl; board = (row.board, refl, fits.board); template = (row.template, refl, fits.template); imask = (row.imask, refl, fits.imask); place = (row.place, refl, fits.place) }

pub gone_read : (row : GoneRow) → FitsGone row → IsGoneRow (Int (pos row.board) ∷ Int (pos row.template) ∷ Int (pos row.imask) ∷ Words row.mark ∷ [])
gone_read row fits = record { all = refl; board = (row.board, refl, fits.board); template = (row.template, refl, fits.template); imask = (row.imask, refl, fits.imask); mark = (row.mark, refl, fits.mark) }

pub kept_read : (row : KeptRow) → FitsKept row → IsKeptRow (Int (pos row.person) ∷ Bytes (to_be_bytes w128 row.id) ∷ Bytes row.content ∷ Int (pos row.number) ∷ Int (pos row.status) ∷ Words row.body ∷ [])
kept_read row fits = record {
  all = refl;
  person = (row.person, refl, fits.person);
  id = (to_be_bytes w128 row.id, refl, refl);
  content = (row.content, refl);
  number = (row.number, refl, fits.number);
  status = (row.status, refl, fits.status);
  body = (row.body, refl, fits.body);
}

pub horizon_read : (row : HorizonRow) → FitsHorizon row → IsHorizonRow (Int (pos row.board) ∷ Int (pos row.ahead) ∷ [])
horizon_read row fits = record { both = refl; board = (row.board, refl, fits.board); ahead = (row.ahead, refl, fits.ahead) }
