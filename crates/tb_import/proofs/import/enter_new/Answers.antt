use Rattle.std.proofs.Common.{refl}
use Rattle.tb_import.proofs.Counting.{counts_are}
use Rattle.tb_import.proofs.import.enter_new.Goals as goal

pub returns-clause-counts : goal.returns-clause-counts
returns-clause-counts c =
    let b = c.args.draft.board in
    let new = c.args.new.now in
    let gone = rw c.as_slice.ensures at c.in_ok-places.ensures in
    let counted = c.in_ok-entering.ensures.orphans b new c.requires gone in
    let orphaned = rw c.in_ok-draft.ensures.board at counted in
    counts_are b c.args.list.now new c.args.known.now.ids _ _ _ _ _ c.saturating_sub.ensures refl c.in_ok-dropped.ensures orphaned c.in_ok-unlinked.ensures c.requires.ids
