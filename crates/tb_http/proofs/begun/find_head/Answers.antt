use Rattle.std.proofs.Common.{arith, length, ◌<◌, ◌≤◌}
use Rattle.tb_http.specs.Wire.{head_limit}
use Rattle.tb_http.proofs.InboxLemmas.{bad_whatever, open_unfinished, too_long_whatever}
use Rattle.tb_http.proofs.WireLemmas.{window_begins}
use Rattle.tb_http.proofs.begun.find_head.Goals as goal

pub returns-then-held-gt-HEAD_LIMIT-clause-fault : goal.returns-then-held-gt-HEAD_LIMIT-clause-fault
returns-then-held-gt-HEAD_LIMIT-clause-fault c =
    let is_open = rw c.window-front.ensures.value at c.in-Unfinished.ensures in
    let long : head_limit < length c.args.held.now = omega arith in
    too_long_whatever c.args.held.now is_open long

pub returns-in-Ok-clause-head : goal.returns-in-Ok-clause-head
returns-in-Ok-clause-head c =
    let found = rw c.window-front.ensures.value at c.in-Whole.ensures in
    let says = rw c.window-front.ensures.value at c.in-Ok.ensures in
    window_begins c.args.held.now _ c.in-Whole.spans c.in-Ok.head found.1 found.0 says

pub returns-in-Bad-clause-fault : goal.returns-in-Bad-clause-fault
returns-in-Bad-clause-fault c =
    let bad = rw c.window-front.ensures.value at c.in-Bad.ensures in
    bad_whatever c.args.held.now bad

pub returns-else-held-gt-HEAD_LIMIT-clause-unfinished : goal.returns-else-held-gt-HEAD_LIMIT-clause-unfinished
returns-else-held-gt-HEAD_LIMIT-clause-unfinished c =
    let is_open = rw c.window-front.ensures.value at c.in-Unfinished.ensures in
    let short : length c.args.held.now ≤ head_limit = omega arith in
    open_unfinished c.args.held.now is_open short
