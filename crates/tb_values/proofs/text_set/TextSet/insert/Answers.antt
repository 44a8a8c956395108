use Rattle.std.proofs.Common.{ap, ◌∙◌}
use Rattle.std.specs.BTreeSet.{insert_key}
use Rattle.tb_values.proofs.TextSets.{text_cmp, bytes_of, bytes_of-insert_key}
use Rattle.tb_values.proofs.text_set.TextSet.insert.Goals as goal

pub returns-clause-ok : goal.returns-clause-ok
returns-clause-ok c =
    ap bytes_of c.in_ok-insert.ensures.keys ∙ bytes_of-insert_key c.self.inside.texts.keys c.in_ok-from_str.field-0
    ∙ ap (insert_key text_cmp (bytes_of c.self.inside.texts.keys)) c.in_ok-from_str.ensures.ok
    ∙ ap (λ texts. insert_key text_cmp texts c.args.text.now) c.self.view_is
