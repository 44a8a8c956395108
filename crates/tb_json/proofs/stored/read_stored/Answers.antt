use Rattle.std.proofs.Common.{◌∙◌, ap, subst}
use Rattle.tb_json.specs.Outcome.{Reads}
use Rattle.tb_json.specs.Stored.{stored_of}
use Rattle.tb_json.proofs.StoredLaws.{stored_of-stored_text}
use Rattle.tb_json.proofs.stored.read_stored.Goals as goal

pub returns-clause-again : goal.returns-clause-again
returns-clause-again c = λ t storable is. subst (Reads c.read_text.result) (ap stored_of is ∙ stored_of-stored_text c.ids_are_read.ensures t storable) c.read_text.ensures
