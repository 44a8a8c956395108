use Rattle.std.proofs.Common.{rules, ◌≡◌}
use Rattle.tb_sending.specs.Beside.{owner_line}
use Rattle.tb_sending.proofs.Texts.{found_by, found_none}
use Rattle.tb_sending.proofs.beside.read_begun.Goals as goal

pub returns-in-Some : goal.returns-in-Some
returns-in-Some c =
    let same : c.as_str.result.now ≡ owner_line c.args.order.now = search rules in
    found_by _ c.ids_are_read.ensures c.args.order.now c.as_str.result.now c.args.text.now c.begun_of.result c.around.result
    c.in-Some.key.now c.in-Some.id.now same c.around.ensures c.in-Some.is (cc) (cc) c.begun_of.ensures

pub returns : goal.returns
returns c =
    let same : c.as_str.result.now ≡ owner_line c.args.order.now = search rules in
    found_none c.ids_are_read.ensures c.args.order.now c.as_str.result.now c.args.text.now c.around.result same c.around.ensures c.in-None.is
