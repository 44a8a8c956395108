use Rattle.std.proofs.Common.{◌≡◌, ◌++◌, map, take, drop}
use Rattle.tb_todotxt.specs.File.{tasks_after, tasks_of}
use Rattle.tb_todotxt.proofs.file.tasks_of.Given as goal

-- the tasks so far, and those of the lines to come
abbrev pub invariant-loop-place : goal.invariant-loop-place
invariant-loop-place l =
    l.tasks ++ tasks_after l.moment l.board (map (λ line. line.now) (take l.place l.lines)) (map (λ line. line.now) (drop l.place l.lines))
    ≡ tasks_of l.moment l.board (map (λ line. line.now) l.lines)
