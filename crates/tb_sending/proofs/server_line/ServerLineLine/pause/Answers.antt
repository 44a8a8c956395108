use Rattle.std.proofs.Common.{rules, ◌≤◌, ◌<◌}
use Rattle.tb_sending.proofs.Wires.{leads_late, leads_waited}
use Rattle.tb_sending.proofs.server_line.ServerLineLine.pause.Goals as goal

pub returns-then-passed-from-clause-late : goal.returns-then-passed-from-clause-late
returns-then-passed-from-clause-late g c =
    let over : c.args.self.now.seconds ≤ c.passed.result = search rules in
    λ is. leads_late g.D.Dial.follows g.D.Dial.joined c.args.self.now.server c.args.self.now.seconds c.passed.result
    c.args.self.now.dial c.passed.new.self over c.passed.ensures

pub returns-clause-waited : goal.returns-clause-waited
returns-clause-waited g c =
    let early : c.passed.result < c.args.self.now.seconds = search rules in
    λ is. leads_waited g.D.Dial.follows g.D.Dial.joined c.args.self.now.server c.args.self.now.seconds c.passed.result c.args.milliseconds
    c.args.self.now.dial c.passed.new.self c.sleep.new.self early c.passed.ensures c.sleep.ensures
