-- What new tasks become on a board.
use Rattle.std.specs.Prelude.{ℕ, ◌+◌, Bool, true, false, not, ◌&&◌, ◌||◌, List, [], ◌∷◌, ◌++◌, Option, Some, None, is_some, unwrap_or, if◌then◌else◌, filter}
use Rattle.std.specs.List.{list_any}
use Rattle.tb_task.specs.declared.incoming.Incoming.{Incoming}
use Rattle.tb_task.specs.declared.task.Task.{Task}
use Rattle.tb_board.specs.declared.board.Board.{Board}
use Rattle.tb_board.specs.declared.gone.Gone.{Gone}
use Rattle.tb_board.specs.Changing.{without_place}
use Rattle.tb_board.specs.Instances.{is_template_with}
use Rattle.tb_board.specs.Templates.{is_gone_at}
use Rattle.tb_import.specs.News.{has_own_id, is_there}

-- it came with a parent or with a place in a parent's mask
abbrev pub is_linked : Incoming → Bool
is_linked i = is_some i.raw_parent || is_some i.raw_imask

-- a new task that has instances of its own
abbrev pub is_new_template : Incoming → Bool
is_new_template i = is_some i.task.recur && not (is_linked i)

abbrev pub is_new_template_with : ℕ → Incoming → Bool
is_new_template_with id i = has_own_id id i && is_new_template i

-- the marks of a mask, as gone places from k on
abbrev pub marked_from : ℕ → ℕ → List ℕ → List Gone
marked_from id k [] = []
marked_from id k (mark ∷ marks) =
    record { template = id; place = k; mark = mark } ∷ marked_from id (k + 1) marks

abbrev pub mask_in : Incoming → List ℕ
mask_in i = if is_new_template i then unwrap_or i.raw_mask [] else []

-- the places of the new templates' masks
abbrev pub mask_places : List Incoming → List Gone
mask_places [] = []
mask_places (i ∷ is) = marked_from i.task.id 0 (mask_in i) ++ mask_places is

-- a template of the board, or one that is new
abbrev pub is_parent : Board → List Incoming → ℕ → Bool
is_parent b new id =
    list_any (is_template_with id) b.tasks || list_any (is_new_template_with id) new

abbrev pub is_gone : List Gone → ℕ → ℕ → Bool
is_gone gs id k = list_any (is_gone_at id k) gs

-- what came as parent and as place is a gone place of a template
-- Rule: an instance takes a gone place of its template. Tried by place_is_taken_once.
abbrev pub is_taken : Board → List Incoming → List Gone → Option ℕ → Option ℕ → Bool
is_taken b new gs None imask = false
is_taken b new gs (Some id) None = false
is_taken b new gs (Some id) (Some k) = is_parent b new id && is_gone gs id k

-- the task takes a gone place, and is an instance
abbrev pub takes : Board → List Incoming → List Gone → Incoming → Bool
takes b new gs i = is_taken b new gs i.raw_parent i.raw_imask

abbrev pub without_taken : List Gone → Option ℕ → Option ℕ → List Gone
without_taken gs None imask = gs
without_taken gs (Some id) None = gs
without_taken gs (Some id) (Some k) = without_place id k gs

-- the gone places after the task
abbrev pub left_by : Board → List Incoming → List Gone → Incoming → List Gone
left_by b new gs i = if takes b new gs i then without_taken gs i.raw_parent i.raw_imask else gs

-- it came as an instance, and is none
-- Rule: an instance without such a place becomes a plain task. Tried by orphan.
abbrev pub is_orphan : Bool → Incoming → Bool
is_orphan taking i = is_linked i && not taking

-- the tasks on which it depends, of those that are on the board or new
-- Rule: links to tasks that aren't there are left out. Tried by orphan_and_lost_link.
abbrev pub kept_depends : Board → List Incoming → List ℕ → List ℕ
kept_depends b new ids = filter (is_there b new) ids

-- the task as it goes to the board: an instance of its parent, or without one, and an orphan doesn't recur
abbrev pub entered : Board → List Incoming → Bool → Incoming → Task
entered b new taking i = record i.task {
  depends = kept_depends b new i.task.depends;
  recur = if is_orphan taking i then None else i.task.recur;
  parent = if taking then i.raw_parent else None;
  imask = if taking then i.raw_imask else None;
}

-- one new task goes last, and its place isn't gone any more
abbrev pub with_new : Board → List Incoming → Board → Incoming → Board
with_new first new b i = record b {
  tasks = b.tasks ++ entered first new (takes first new b.gone i) i ∷ [];
  gone = left_by first new b.gone i;
}

-- these tasks go last, one after the other
abbrev pub with_all : Board → List Incoming → Board → List Incoming → Board
with_all first new b [] = b
with_all first new b (i ∷ is) = with_all first new (with_new first new b i) is

abbrev pub one_if : Bool → ℕ
one_if true = 1
one_if false = 0

-- how many of these tasks are orphans
abbrev pub orphans : Board → List Incoming → Board → List Incoming → ℕ
orphans first new b [] = 0
orphans first new b (i ∷ is) =
    one_if (is_orphan (takes first new b.gone i) i) + orphans first new (with_new first new b i) is
