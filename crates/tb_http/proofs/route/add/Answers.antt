use Rattle.tb_http.proofs.RouteLemmas.{route_inserted, route_wanting}
use Rattle.tb_http.proofs.route.add.Goals as goal

pub returns-clause-row : goal.returns-clause-row
returns-clause-row c = route_inserted c.args.text.now c.args.kind c.args.to.now c.insert.new.self c.insert.result c.insert.ensures

pub returns-clause-memory : goal.returns-clause-memory
returns-clause-memory c = route_wanting c.args.text.now c.args.kind c.args.to.now c.insert.new.self c.insert.result c.requires c.insert.ensures
