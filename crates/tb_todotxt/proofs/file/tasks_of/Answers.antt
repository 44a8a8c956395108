use Rattle.std.proofs.Common.{◌≡◌, ◌∙◌, ℕ, List, ◌+◌, ◌<◌, [], ◌∷◌, ◌++◌, length, take, drop, get_or, Bor, ap, sym, arith, add-one}
use Rattle.std.proofs.lemmas.List.{take_more, map-append}
use Rattle.tb_todotxt.specs.File.{tasks_after}
use Rattle.tb_todotxt.proofs.FileLines.{IsFull, IsOneLine, shown, at_index, tasks-more}
use Rattle.tb_todotxt.proofs.file.tasks_of.Goals as goal

pub task_at-requires-clause-full : goal.task_at-requires-clause-full
task_at-requires-clause-full c = at_index IsFull c.args.lines.now c.loop-place.place _ c.requires.full (omega arith)

pub task_at-requires-clause-one_line : goal.task_at-requires-clause-one_line
task_at-requires-clause-one_line c = at_index IsOneLine c.args.lines.now c.loop-place.place _ c.requires.one_line (omega arith)

abbrev none : Bor (List ℕ)
none = record { ref_ptr = (0, 0); now = [] }

-- one line more has come
shown_more : (ls : List (Bor (List ℕ))) (i : ℕ) → i < length ls → shown (take (i + 1) ls) ≡ shown (take i ls) ++ (get_or ls i none).now ∷ []
shown_more ls i within = ap shown (take_more ls i none within) ∙ map-append (λ l. l.now) (take i ls) (get_or ls i none ∷ [])

pub loop-place-preserved : goal.loop-place-preserved
loop-place-preserved c =
    let ls = c.args.lines.now in
    let i = c.loop-place.place in
    let m = c.args.moment in
    let board = c.args.board in
    let made = c.loop-place.tasks in
    let within : i < length ls = omega arith in
    ap (λ ts. ts ++ tasks_after m board (shown (take (i + 1) ls)) (shown (drop (i + 1) ls))) c.in_ok-push.ensures.ok
    ∙ ap (λ before. (made ++ c.in_ok-task_at.field-0 ∷ []) ++ tasks_after m board before (shown (drop (i + 1) ls))) (shown_more ls i within)
    ∙ ap (λ n. (made ++ c.in_ok-task_at.field-0 ∷ []) ++ tasks_after m board (shown (take i ls) ++ (get_or ls i none).now ∷ []) (shown (drop n ls))) (add-one i)
    ∙ sym (tasks-more m board ls i none (shown (take i ls)) made c.in_ok-task_at.field-0 within c.in_ok-task_at.ensures)
    ∙ c.loop-place.invariant
