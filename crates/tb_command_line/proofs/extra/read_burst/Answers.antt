use Rattle.std.proofs.Common.{rules, ◌≡◌, map}
use Rattle.tb_command_line.specs.Extra.{burst_in}
use Rattle.tb_command_line.specs.Order.{order_of, words_of}
use Rattle.tb_command_line.proofs.Leaving.{fails_bursting}
use Rattle.tb_command_line.proofs.extra.read_burst.Goals as goal

pub returns-in-Err : goal.returns-in-Err
returns-in-Err c request is plain =
    let listed : map (λ word. word.now) c.as_slice.result.now ≡ words_of request = search (rules, is) in
    fails_bursting (burst_in (map (λ word. word.now) c.args.words.now)) c.in-Err.fault (order_of c.args.kept.now request)
    (c.in-Err.ensures request listed plain)
