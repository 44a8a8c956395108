use Rattle.std.proofs.Common.{append-nil, sym}
use Rattle.tb_values.proofs.TextSets.{sorted_texts}
use Rattle.tb_values.proofs.text_set.TextSet.into_ordered.Goals as goal

pub from_increasing-requires : goal.from_increasing-requires
from_increasing-requires c =
    let done = rw (c.in-None.ensures.steps.0, append-nil) at c.loop-text.invariant in
    rw (done, sym c.self.view_is) (sorted_texts c.self.inside.texts.keys c.into_iter-text-iterator.ensures.into_iter_gives.4)
