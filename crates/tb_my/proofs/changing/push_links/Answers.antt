use Rattle.std.proofs.Common.{◌≡◌, ◌++◌, ◌<◌, length, refl, arith, rules}
use Rattle.tb_my.proofs.Loops.{one_more}
use Rattle.tb_my.specs.Changing.{link_if, links_from}
use Rattle.tb_my.proofs.changing.push_links.Goals as goal

pub loop-other-preserved : goal.loop-other-preserved
loop-other-preserved c =
    let board = c.args.board.now in
    let task = c.args.task.now in
    let needed = c.args.needed.now in
    let other = c.other-item.result in
    let within : c.loop-other.other-index < length needed = omega arith in
    let put : c.push_link.new.all ≡ c.loop-other.all ++ link_if board task other = search rules in
    one_more (links_from board task) needed c.loop-other.other-index other (link_if board task other) c.loop-other.all c.push_link.new.all
    (c.args.all.now ++ links_from board task needed) within c.other-item.is refl put c.loop-other.invariant
