use Rattle.tb_event_loop.proofs.places.Places.go_on.Goals as goal

pub returns : goal.returns
returns g c = (c.lack_all.new.self, c.lack_all.ensures, c.enter.ensures)
