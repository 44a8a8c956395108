use Rattle.std.proofs.Common.{◌≡◌, rules}
use Rattle.tb_graph.specs.Marks.{is_marked}
use Rattle.tb_finding.specs.Json.{truth}
use Rattle.tb_finding.proofs.json.push_marks.Goals as goal

pub returns : goal.returns
returns c =
    let blocked : c.truth-blocked.result.now ≡ truth (is_marked c.args.look.now.blocked c.args.place) = search rules in
    let blocking : c.truth-blocking.result.now ≡ truth (is_marked c.args.look.now.blocking c.args.place) = search rules in
    rw (← blocked, ← blocking) c.write.ensures.bytes
