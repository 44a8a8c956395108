use Rattle.std.proofs.Common.{rules, ◌≡◌, ℕ, List, map, subst, sym}
use Rattle.tb_command_line.specs.Extra.{burst_in, growth_in, with_burst, without_burst, without_growth}
use Rattle.tb_command_line.specs.Order.{order_of, words_of}
use Rattle.tb_command_line.specs.Outcome.{Fails}
use Rattle.tb_command_line.proofs.Leaving.{fails_grown}
use Rattle.tb_command_line.proofs.extra.read_grown.Goals as goal

pub returns-in-Err : goal.returns-in-Err
returns-in-Err c request is plain =
    let words = map (λ word. word.now) c.args.words.now in
    let expected = order_of c.args.kept.now request in
    let rest : map (λ word. word.now) c.as_slice.result.now ≡ without_growth words = search rules in
    let listed = subst (λ (left : List (List ℕ)). without_burst left ≡ words_of request) (sym rest) is in
    let fails = c.in-Err.ensures request listed plain in
    fails_grown (growth_in words) c.in-Err.fault (with_burst (burst_in (without_growth words)) expected)
    (subst (λ (left : List (List ℕ)). Fails c.in-Err.fault (with_burst (burst_in left) expected)) rest fails)
