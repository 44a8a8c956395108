use Rattle.std.proofs.Common.{rules, ◌≡◌, ℕ, List, map, subst, sym}
use Rattle.tb_command_line.specs.Extra.{burst_in, growth_in, page_in, with_burst, with_growth, without_burst, without_growth, without_page}
use Rattle.tb_command_line.specs.Order.{order_of, words_of}
use Rattle.tb_command_line.specs.Outcome.{Fails}
use Rattle.tb_command_line.proofs.Leaving.{fails_paged}
use Rattle.tb_command_line.proofs.extra.read_server.Goals as goal

pub returns-in-Err : goal.returns-in-Err
returns-in-Err c request is plain =
    let words = map (λ word. word.now) c.args.words.now in
    let expected = order_of c.args.kept.now request in
    let rest : map (λ word. word.now) c.as_slice.result.now ≡ without_page words = search rules in
    let listed = subst (λ (left : List (List ℕ)). without_burst (without_growth left) ≡ words_of request) (sym rest) is in
    let fails = c.in-Err.ensures request listed plain in
    fails_paged (page_in words) c.in-Err.fault
    (with_growth (growth_in (without_page words)) (with_burst (burst_in (without_growth (without_page words))) expected))
    (subst (λ (left : List (List ℕ)).
    Fails c.in-Err.fault (with_growth (growth_in left) (with_burst (burst_in (without_growth left)) expected))) rest fails)
