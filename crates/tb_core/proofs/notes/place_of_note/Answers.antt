use Rattle.tb_core.specs.Notes.{says}
use Rattle.tb_board.proofs.Places.{place}
use Rattle.tb_core.proofs.notes.place_of_note.Goals as goal

pub returns : goal.returns
returns c = rw c.first_note.ensures (place (says c.args.text.now) c.args.notes.now)
