use Rattle.std.proofs.Common.{◌≡◌, ℕ, [], drop}
use Rattle.tb_import.specs.News.{found_new, is_there}
use Rattle.tb_import.specs.Sets.{has}
use Rattle.tb_import.proofs.news.NewTasks.find.Given as goal

-- the tasks found so far and those among the rest are all
abbrev pub invariant-loop-incoming : goal.invariant-loop-incoming
invariant-loop-incoming l =
    record {
      tasks : found_new l.board l.new.tasks (drop l.incoming-index l.list) ≡ found_new l.board [] l.list;
      ids : (q : ℕ) → has l.new.ids q ≡ is_there l.board l.new.tasks q;
    }
