use Rattle.std.proofs.Common.{◌∙◌, ap}
use Rattle.serde_json.proofs.Views.{view-Object}
use Rattle.serde_json.specs.Data.{object}
use Rattle.tb_history.proofs.Members.{put_in_byte_order}
use Rattle.tb_history.proofs.writing.entry_value.Goals as goal

pub returns : goal.returns
returns c =
    view-Object c.in_ok-object.object
    ∙ ap object (c.in_ok-object.ensures ∙ put_in_byte_order c.args.entry.now)
