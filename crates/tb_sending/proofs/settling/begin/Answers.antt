use Rattle.std.proofs.Common.{◌∙◌, subst, sym}
use Rattle.tb_sending.specs.Drawing.{IsDrawn}
use Rattle.tb_sending.proofs.settling.begin.Goals as goal

pub returns-clause-begun : goal.returns-clause-begun
returns-clause-begun g c = record {
  id = c.in-Some-Some.id;
  random = c.in-Some-Some.random;
  named = c.in-Some-Some.is-0;
  drawn = subst (λ drawn. IsDrawn g.G.Chance.gives c.args.chance.now c.new_id.new.chance drawn) c.in-Some-Some.is-1 c.new_id.ensures;
  is = sym c.in_ok-begun.ensures ∙ c.in-Some.is;
}
