use Rattle.tb_http.proofs.OpenHeadLemmas.{open_searched_to}
use Rattle.tb_http.proofs.open_head.OpenHead.search.Goals as goal

pub returns : goal.returns
returns c =
    let found = c.feed_at-self.ensures in
    open_searched_to c.args.held.now c.args.self.now c.feed_at-self.result c.requires found.within.0 found.within.1 found.none
