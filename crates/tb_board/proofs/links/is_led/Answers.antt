use Rattle.std.proofs.Common.{◌∙◌, Some, ap, arith, sym}
use Rattle.std.proofs.lemmas.Result.{IfOk-weaker}
use Rattle.tb_board.specs.Tasks.{ids, place_in}
use Rattle.tb_board.specs.Links.{leads_between, links}
use Rattle.tb_board.proofs.Linking.{led, links-length, place_within}
use Rattle.tb_board.proofs.links.is_led.Goals as goal

pub reaches-requires-clause-from : goal.reaches-requires-clause-from
reaches-requires-clause-from c =
    let found = rw c.in-Some.is at c.place_of.ensures.place in
    let fits = place_within c.args.board.now.tasks c.args.from c.in-Some.from (sym found) in
    rw c.in_ok-links_of.ensures (omega (arith, fits, links-length c.args.board.now))

pub reaches-requires-clause-to : goal.reaches-requires-clause-to
reaches-requires-clause-to c =
    let found = rw c.in-Some-place_of.is at c.place_of-2.ensures.place in
    let fits = place_within c.args.board.now.tasks c.args.to c.in-Some-place_of.to (sym found) in
    rw c.in_ok-links_of.ensures (omega (arith, fits, links-length c.args.board.now))

pub returns : goal.returns
returns c =
    let b = c.args.board.now in
    let from = rw c.in-Some.is at c.place_of.ensures.place in
    let to = rw c.in-Some-place_of.is at c.place_of-2.ensures.place in
    IfOk-weaker c.reaches-2.result _ _
    (λ answer exact. led (links b) c.in-Some.from c.in-Some-place_of.to answer exact ∙ ap (leads_between (links b) (Some c.in-Some.from)) to ∙ ap (λ o. leads_between (links b) o (place_in (ids b.tasks) c.args.to)) from)
    (rw c.in_ok-links_of.ensures at c.reaches-2.ensures)
