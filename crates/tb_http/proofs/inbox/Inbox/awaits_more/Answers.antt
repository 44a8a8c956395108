use Rattle.std.proofs.Common.{◌≡◌, ◌≤◌, arith, leb-true, length, subst}
use Rattle.tb_http.specs.Inbox.{Held, IsUnfinished}
use Rattle.tb_http.specs.Wire.{head_limit}
use Rattle.tb_http.proofs.InboxLemmas.{awaits_line}
use Rattle.tb_http.proofs.inbox.Inbox.awaits_more.Goals as goal

pub returns-then-self-len : goal.returns-then-self-len
returns-then-self-len c short =
    let inside = c.self.inside in
    let held = inside.held.items in
    let all : inside.so_far.searched ≡ length held = omega (arith, c.if-self-len.true, c.len-in-None.ensures) in
    let few : length held ≤ head_limit = omega (arith, leb-true c.len-then-self-len.result head_limit short, c.len-then-self-len.ensures) in
    subst (λ (h : Held). IsUnfinished h.bytes) c.self.view_is (awaits_line held inside.so_far c.self.invariant.0 all few)
