use Rattle.tb_keeper.proofs.ChangedForms.{storable_form}
use Rattle.tb_keeper.proofs.forms.is_taken.Goals as goal

pub returns-in-Ok : goal.returns-in-Ok
returns-in-Ok c h = storable_form c.args.task.now c.in-Ok.ensures.storable
