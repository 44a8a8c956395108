use Rattle.std.proofs.Common.{◌≡◌, drop}
use Rattle.serde_json.specs.View.{view}
use Rattle.tb_cleaning.specs.Losses.{links_on}
use Rattle.tb_cleaning.proofs.losses.push_links.Given as goal

abbrev pub invariant-loop-id : goal.invariant-loop-id
invariant-loop-id l = links_on l.ids (view l.task) l.place l.found (drop l.id-index l.depends) ≡ links_on l.ids (view l.task) l.place l.fn.found l.depends
