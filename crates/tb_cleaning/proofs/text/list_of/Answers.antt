use Rattle.std.proofs.Common.{◌≡◌, ◌≤◌, IfOk, Some, subst}
use Rattle.serde_json.specs.Data.{depth}
use Rattle.serde_json.specs.Read.{max_depth, read}
use Rattle.serde_json.proofs.Views.{view-Array}
use Rattle.tb_cleaning.proofs.text.list_of.Goals as goal

pub returns : goal.returns
returns c = subst (λ d. IfOk c.written.result (λ text. depth d ≤ max_depth → read text ≡ Some d)) (view-Array c.args.values) c.written.ensures
