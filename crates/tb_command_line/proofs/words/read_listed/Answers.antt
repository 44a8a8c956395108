use Rattle.std.proofs.Common.{◌∙◌, ap, map}
use Rattle.clap.specs.Simple.{is_simple, subcommand_of}
use Rattle.clap.specs.Takes.{takes}
use Rattle.tb_values.proofs.Outcome.{Gives-same}
use Rattle.tb_command_line.specs.Words.{program_app}
use Rattle.tb_command_line.specs.Reading.{order_at}
use Rattle.tb_command_line.specs.Order.{order_of}
use Rattle.tb_command_line.specs.Outcome.{Fails}
use Rattle.tb_command_line.proofs.Entering.{simple}
use Rattle.tb_command_line.proofs.Requests.{reaches}
use Rattle.tb_command_line.proofs.words.read_listed.Goals as goal

pub returns-in-Ok-try_get_matches_from : goal.returns-in-Ok-try_get_matches_from
returns-in-Ok-try_get_matches_from c request words plain =
    let app = c.in-Ok.ensures in
    let rows = (c.in-Ok-try_get_matches_from.ensures.matches (ap is_simple app ∙ simple)).1 in
    let named = rows ∙ (ap (λ a. subcommand_of a (map (λ word. word.now) c.args.words.now)) app ∙ ap (subcommand_of program_app) words) in
    Gives-same Fails c.read_order.result (order_at c.args.kept.now _) (order_of c.args.kept.now request) (ap (order_at c.args.kept.now) named ∙ (reaches c.args.kept.now request plain).found) c.read_order.ensures

pub returns-in-Err : goal.returns-in-Err
returns-in-Err c request words plain =
    let app = c.in-Ok.ensures in
    let memory = c.in-Err.ensures.passes (ap (λ a. takes a (map (λ word. word.now) c.args.words.now)) app ∙ (ap (takes program_app) words ∙ (reaches c.args.kept.now request plain).taken)) in
    let is = c.fault_of.ensures (c.kind.ensures ∙ memory) in
    rw is tt
