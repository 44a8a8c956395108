use Rattle.std.proofs.Common.{◌≡◌, ◌∙◌, ◌+◌, ◌++◌, ◌<◌, length, drop, ap, sym, append_assoc, arith, rules}
use Rattle.tb_my.proofs.Loops.{one_more}
use Rattle.tb_my.specs.Changing.{changes_of, links_from, modified_if}
use Rattle.tb_my.proofs.changing.changes_of.Goals as goal

pub loop-task-preserved : goal.loop-task-preserved
loop-task-preserved c =
    let board = c.args.board.now in
    let edit = c.args.edit in
    let said = c.args.said.now in
    let needed = c.args.needed.now in
    let named = c.args.named.now in
    let task = c.task-item.result in
    let index = c.loop-task.task-index in
    let within : index < length named = omega arith in
    let own = modified_if board edit said task in
    let links = links_from board task needed in
    let rest = changes_of board edit said needed (drop (index + 1) named) in
    let changed : c.push_change.new.all ≡ c.loop-task.all ++ own = search rules in
    let linked : c.push_links.new.all ≡ c.push_change.new.all ++ links = search rules in
    one_more (changes_of board edit said needed) named index task (own ++ links) c.loop-task.all c.push_links.new.all
    (changes_of board edit said needed named) within c.task-item.is (sym (append_assoc own links rest))
    (linked ∙ ap (λ all. all ++ links) changed ∙ append_assoc c.loop-task.all own links) c.loop-task.invariant
