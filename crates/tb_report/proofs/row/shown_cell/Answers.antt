use Rattle.std.proofs.Common.{◌≡◌, false, rules, sym}
use Rattle.std.specs.List.{list_any}
use Rattle.tb_report.specs.Row.{may_be_control}
use Rattle.tb_report.proofs.Controls.{shown_same}
use Rattle.tb_report.proofs.row.shown_cell.Goals as goal

pub returns : goal.returns
returns c =
    let none : list_any may_be_control c.args.text.now ≡ false = search rules in
    sym (shown_same c.args.text.now c.utf8.text none)
