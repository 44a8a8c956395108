use Rattle.std.proofs.Common.{ℕ, List, [], Option, ap, lit<}
use Rattle.std.specs.Option.{unwrap_or}
use Rattle.std.proofs.lemmas.Iterator.Consumers.{nth_from_yields_List}
use Rattle.std.proofs.lemmas.Iterator.Splits.{YieldsList-from_str_split}
use Rattle.tb_http.proofs.resource.segment.Goals as goal

pub returns-in-Some : goal.returns-in-Some
returns-in-Some c =
    let found = nth_from_yields_List _ _ c.args.slashes c.nth.ensures.ran
    (YieldsList-from_str_split 47 c.args.path.now (lit< tt) c.split.ensures.text c.split.ensures.has_more c.split.ensures.pattern) in
    ap (λ (o : Option (List ℕ)). unwrap_or o []) (rw c.in-Some.is at found)

pub returns-in-None : goal.returns-in-None
returns-in-None c =
    let found = nth_from_yields_List _ _ c.args.slashes c.nth.ensures.ran
    (YieldsList-from_str_split 47 c.args.path.now (lit< tt) c.split.ensures.text c.split.ensures.has_more c.split.ensures.pattern) in
    ap (λ (o : Option (List ℕ)). unwrap_or o []) (rw c.in-None.is at found)
