use Rattle.tb_orders.proofs.NewKeys.{made_for}
use Rattle.tb_orders.proofs.new_key.key_for.Goals as goal

pub returns-else-is_read-clause-key : goal.returns-else-is_read-clause-key
returns-else-is_read-clause-key g c =
    made_for g.G.Chance.gives c.args.chance.now c.make_key.new.chance c.args.is_read (g.R.Read.remaining c.args.reader) c.make_key.result c.if-is_read.false
    c.make_key.ensures.key
