use Rattle.std.proofs.Common.{string_bytes}
use Rattle.serde_json.specs.View.{view, members_view}
use Rattle.tb_json.proofs.ExtraSteps.{SoFar-none, SoFar-more, SoFar-count}
use Rattle.tb_json.proofs.extras.Extras.of.Goals as goal

pub loop-name-init : goal.loop-name-init
loop-name-init c =
    let gives = c.into_iter-name-iterator.ensures.into_iter_gives in
    rw (gives.0, c.new.ensures) (SoFar-none c.args.members.now.entries gives.5)

pub loop-name-preserved : goal.loop-name-preserved
loop-name-preserved c =
    let before = rw c.in-Some.ensures.steps at c.loop-name.invariant in
    let after = SoFar-more c.loop-name.extras.kept c.loop-name.extras.dropped (string_bytes c.in-Some.name.now) (view c.in-Some.value.now) (members_view c.next.new.self) (members_view c.args.members.now.entries) before in
    rw (c.in_ok-add.ensures.kept, c.in_ok-add.ensures.dropped, c.deref.ensures) after

pub returns-clause-dropped : goal.returns-clause-dropped
returns-clause-dropped c =
    let done = rw c.in-None.ensures.steps.0 at c.loop-name.invariant in
    SoFar-count _ c.loop-name.extras.dropped (members_view c.args.members.now.entries) done
