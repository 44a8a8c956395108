use Rattle.std.proofs.Common.{◌∙◌, ◌+◌, ap, drop, sym}
use Rattle.std.specs.Option.{option_map}
use Rattle.std.proofs.lemmas.List.{at_drop_more}
use Rattle.tb_event_loop.specs.Hearing.{marked_by}
use Rattle.tb_event_loop.specs.Places.{connection_in}
use Rattle.tb_event_loop.proofs.Changing.{changed_then}
use Rattle.tb_event_loop.proofs.Hearing.{marked_more}
use Rattle.tb_event_loop.proofs.places.Places.mark_ready.Goals as goal

pub news-preserved : goal.news-preserved
news-preserved c =
    let i = c.news.event-index in
    let told = c.args.told.now in
    record {
      same = changed_then c.args.self.now c.news.self c.mark_one.new.self c.news.invariant.same c.mark_one.ensures.same;
      marks = λ at.
          ap (option_map (marked_by (drop (i + 1) told) at)) (c.mark_one.ensures.marks at)
          ∙ marked_more _ (drop (i + 1) told) at (connection_in c.news.self at)
          ∙ sym (at_drop_more (λ ts. option_map (marked_by ts at) (connection_in c.news.self at)) told i _ c.news-test.true)
          ∙ c.news.invariant.marks at;
    }
