use Rattle.std.proofs.Common.{◌/◌, ◌+◌, ◌-◌, ◌*◌, ◌≡◌, arith, sym, pos}
use Rattle.jiff_core.specs.Date.{epoch_day}
use Rattle.tb_task.specs.Civil.{date_of, day_number}
use Rattle.tb_task.proofs.Dates.{dated}
use Rattle.tb_task.proofs.MomentTexts.{date_is}
use Rattle.tb_recur.specs.Months.{months_later}
use Rattle.tb_recur.proofs.MonthLemmas.{past, clamped_is, not_negative, same_number}
use Rattle.tb_recur.proofs.months.months_after.Goals as goal

pub returns-then-later-gt-LAST_MONTH : goal.returns-then-later-gt-LAST_MONTH
returns-then-later-gt-LAST_MONTH c =
    let same = date_is c.parts_of-parts.result c.args.start c.parts_of-parts.ensures in
    past (date_of (c.args.start / 86400)) c.args.months (dated (c.args.start / 86400)).0
    (omega (arith, same.year, same.month, c.if-later-gt-LAST_MONTH.true))

pub day_of-requires : goal.day_of-requires
day_of-requires c =
    let same = date_is c.parts_of-parts.result c.args.start c.parts_of-parts.ensures in
    not_negative (epoch_day c.clamped_date.result) (day_number (months_later (date_of (c.args.start / 86400)) c.args.months))
    (clamped_is _ _ c.clamped_date.result (date_of (c.args.start / 86400)) c.args.months c.clamped_date.ensures (dated (c.args.start / 86400)).0 (omega (arith, same.year, same.month)) (sym same.day))

pub returns : goal.returns
returns c =
    let same = date_is c.parts_of-parts.result c.args.start c.parts_of-parts.ensures in
    same_number (epoch_day c.clamped_date.result) c.day_of.result (day_number (months_later (date_of (c.args.start / 86400)) c.args.months)) c.day_of.ensures
    (clamped_is _ _ c.clamped_date.result (date_of (c.args.start / 86400)) c.args.months c.clamped_date.ensures (dated (c.args.start / 86400)).0 (omega (arith, same.year, same.month)) (sym same.day))
