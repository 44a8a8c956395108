use Rattle.std.proofs.Common.{rules, ◌≡◌, ℕ, List, map, subst, sym}
use Rattle.tb_command_line.specs.Extra.{mode_in, with_server, without_mode, without_server}
use Rattle.tb_command_line.specs.Order.{order_of, words_of}
use Rattle.tb_command_line.specs.Outcome.{Fails}
use Rattle.tb_command_line.proofs.Leaving.{fails_cleaned}
use Rattle.tb_command_line.proofs.extra.read_extra.Goals as goal

pub returns-in-Err : goal.returns-in-Err
returns-in-Err c request is plain =
    let words = map (λ word. word.now) c.args.words.now in
    let expected = order_of c.args.kept.now request in
    let rest : map (λ word. word.now) c.without_mode.result.now ≡ without_mode words = c.without_mode.ensures in
    let listed = subst (λ (left : List (List ℕ)). without_server left ≡ words_of request) (sym rest) is in
    let fails = c.in-Err.ensures request listed plain in
    fails_cleaned (mode_in words) c.in-Err.fault (with_server (without_mode words) expected)
    (subst (λ (left : List (List ℕ)). Fails c.in-Err.fault (with_server left expected)) rest fails)
