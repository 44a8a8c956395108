use Rattle.tb_board.proofs.Recurring.{push_numbers, push_recurring}
use Rattle.tb_board.proofs.template_index.TemplateIndex.with.Goals as goal

pub returns : goal.returns
returns c = λ ts was at. record {
  recurring = push_recurring ts c.args.task.now c.args.self.places.items c.in_ok-places.places.items c.args.place was.recurring at c.in_ok-places.ensures;
  numbers = push_numbers ts c.args.task.now c.args.self.instances c.in-Some.instances was.numbers (rw c.in-Some.is at c.in_ok-instances.ensures);
}
