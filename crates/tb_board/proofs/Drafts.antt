-- How the changes of a draft go on.
use Rattle.std.proofs.Common.{◌≡◌, ℕ, ◌<◌, nat_lt, true, false, List, [], ◌∷◌, ◌++◌, length, set, refl, sym, ◌∙◌, ap, arith}
use Rattle.std.specs.List.{AllByRecursion}
use Rattle.std.proofs.lemmas.Bool.{lt-ltb, le-ltb}
use Rattle.tb_task.specs.declared.task.Task.{Task}
use Rattle.tb_board.specs.declared.board.Board.{Board}
use Rattle.tb_board.specs.declared.change.Change.{Change}
use Rattle.tb_board.specs.declared.change.Change.TheVariants.{PutTask, SetTitle, SetGone, TakeGone, SetAhead}
use Rattle.tb_board.specs.declared.draft.Draft.{Draft}
use Rattle.tb_board.specs.declared.gone.Gone.{Gone}
use Rattle.tb_board.specs.Changing.{put, with_task_at, changed_on, replayed, with_gone, with_title, without_gone, with_ahead, IsOn, Follows}

all_push : (n : ℕ) (cs : List Change) (c : Change) → AllByRecursion (IsOn n) cs → IsOn n c → AllByRecursion (IsOn n) (cs ++ c ∷ [])
all_push n [] c all on = (on, tt)
all_push n (d ∷ ds) c all on = (all.0, all_push n ds c all.1 on)

replayed-push : (b : Board) (cs : List Change) (c : Change) → replayed b (cs ++ c ∷ []) ≡ changed_on (replayed b cs) c
replayed-push b [] c = refl
replayed-push b (d ∷ ds) c = replayed-push (changed_on b d) ds c

-- a task more in the draft, and the change that puts it
goes_on : (d : Draft) (place : ℕ) (t : Task) (tasks : List Task) → tasks ≡ put d.board.tasks place t
    → Follows d (record { board = record d.board { tasks = tasks }; changes = d.changes ++ PutTask d.board.number place t ∷ [] })
goes_on d place t tasks is start h =
    record {
      own = all_push d.board.number d.changes (PutTask d.board.number place t) h.own refl;
      made = replayed-push start d.changes (PutTask d.board.number place t) ∙ ap (with_task_at place t) h.made
          ∙ ap (λ ts. record d.board { tasks = ts }) (sym is);
    }

pub follows-set : (d : Draft) (place : ℕ) (t : Task) → place < length d.board.tasks
    → Follows d (record { board = record d.board { tasks = set d.board.tasks place t }; changes = d.changes ++ PutTask d.board.number place t ∷ [] })
follows-set d place t within =
    let inside : nat_lt place (length d.board.tasks) ≡ true = lt-ltb place (length d.board.tasks) within in
    goes_on d place t (set d.board.tasks place t) (rw inside refl)

pub follows-push : (d : Draft) (place : ℕ) (t : Task) → place ≡ length d.board.tasks
    → Follows d (record { board = record d.board { tasks = d.board.tasks ++ t ∷ [] }; changes = d.changes ++ PutTask d.board.number place t ∷ [] })
follows-push d place t end =
    let beyond : nat_lt place (length d.board.tasks) ≡ false = le-ltb place (length d.board.tasks) (omega (arith, end)) in
    goes_on d place t (d.board.tasks ++ t ∷ []) (rw beyond refl)

pub follows-set_gone : (d : Draft) (g : Gone) → Follows d (record { board = with_gone g d.board; changes = d.changes ++ SetGone d.board.number g ∷ [] })
follows-set_gone d g start h =
    record {
      own = all_push d.board.number d.changes (SetGone d.board.number g) h.own refl;
      made = replayed-push start d.changes (SetGone d.board.number g) ∙ ap (with_gone g) h.made;
    }

pub follows-take_gone : (d : Draft) (id k : ℕ) → Follows d (record { board = without_gone id k d.board; changes = d.changes ++ TakeGone d.board.number id k ∷ [] })
follows-take_gone d id k start h =
    record {
      own = all_push d.board.number d.changes (TakeGone d.board.number id k) h.own refl;
      made = replayed-push start d.changes (TakeGone d.board.number id k) ∙ ap (without_gone id k) h.made;
    }

pub follows-set_ahead : (d : Draft) (ahead : ℕ) → Follows d (record { board = with_ahead ahead d.board; changes = d.changes ++ SetAhead d.board.number ahead ∷ [] })
follows-set_ahead d ahead start h =
    record {
      own = all_push d.board.number d.changes (SetAhead d.board.number ahead) h.own refl;
      made = replayed-push start d.changes (SetAhead d.board.number ahead) ∙ ap (with_ahead ahead) h.made;
    }

pub follows-set_title : (d : Draft) (title : List ℕ) → Follows d (record { board = with_title title d.board; changes = d.changes ++ SetTitle d.board.number title ∷ [] })
follows-set_title d title start h =
    record {
      own = all_push d.board.number d.changes (SetTitle d.board.number title) h.own refl;
      made = replayed-push start d.changes (SetTitle d.board.number title) ∙ ap (with_title title) h.made;
    }
