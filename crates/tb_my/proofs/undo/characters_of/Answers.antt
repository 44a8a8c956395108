use Rattle.std.proofs.Common.{rules}
use Rattle.std.proofs.lemmas.Iterator.{YieldsList-from_chars, items_from_collect}
use Rattle.tb_my.proofs.undo.characters_of.Goals as goal

-- what was collected is the characters of the text
pub returns : goal.returns
returns c = items_from_collect _ c.collect.ensures.ran (YieldsList-from_chars c.args.text.now c.utf8.text (search rules))
