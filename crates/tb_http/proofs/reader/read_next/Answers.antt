use Rattle.std.specs.Io.KnownBytes.{Keeps, prepend_known}
use Rattle.std.proofs.Common.{◌≡◌, ◌∙◌, ◌+◌, Bool, ap, arith, length, refl, subst, sym}
use Rattle.tb_values.proofs.Appends.{Keeps-refl, Keeps-then}
use Rattle.tb_http.specs.Inbox.{Held, IsUnfinished}
use Rattle.tb_http.specs.Wire.{Faults, is_last}
use Rattle.tb_http.proofs.ReaderLemmas.{fault_known, known_before, last_at_limit, message_known, unfinished_short}
use Rattle.tb_http.proofs.reader.read_next.Goals as goal

pub loop-message-init : goal.loop-message-init
loop-message-init g c = record { kept = Keeps-refl _; goes_on = c.requires; counted = refl }

pub returns-in-Ok-Some-clause-message : goal.returns-in-Ok-Some-clause-message
returns-in-Ok-Some-clause-message g c =
    let held = c.loop-message.invariant in
    let found = rw c.in-Ok-Some.field-0-is at (c.in-Ok-Some.ensures.message held.goes_on) in
    let closing = found.2 ∙ ap (is_last found.0) held.counted in
    message_known _ (g.R.Read.remaining c.loop-message.source) c.loop-message.inbox.bytes c.next_message.new.self.bytes _ found.0
    (λ (ends : Bool). c.next_message.new.self.is_closing ≡ is_last ends c.args.inbox.now.messages) held.kept found.1 closing

pub returns-in-Ok-Some-clause-counted : goal.returns-in-Ok-Some-clause-counted
returns-in-Ok-Some-clause-counted g c =
    let held = c.loop-message.invariant in
    let found = rw c.in-Ok-Some.field-0-is at (c.in-Ok-Some.ensures.message held.goes_on) in
    found.3 ∙ ap (λ n. n + 1) held.counted

pub returns-in-Ok-Some-clause-limit : goal.returns-in-Ok-Some-clause-limit
returns-in-Ok-Some-clause-limit g c reached =
    let held = c.loop-message.invariant in
    let found = rw c.in-Ok-Some.field-0-is at (c.in-Ok-Some.ensures.message held.goes_on) in
    found.2 ∙ last_at_limit found.0 c.loop-message.inbox.messages c.next_message.new.self.messages found.3 reached

pub returns-in-Err-clause-fault : goal.returns-in-Err-clause-fault
returns-in-Err-clause-fault g c =
    let held = c.loop-message.invariant in
    fault_known _ (g.R.Read.remaining c.loop-message.source) c.loop-message.inbox.bytes _ held.kept (c.in-Err.ensures.fault held.goes_on)

pub returns-in-Err-clause-closes : goal.returns-in-Err-clause-closes
returns-in-Err-clause-closes g c =
    let closed = c.in-Err.ensures.closes in
    (ap (λ (h : Held). h.is_closing) closed, ap (λ (h : Held). h.messages) closed ∙ c.loop-message.invariant.counted)

pub read_on-requires : goal.read_on-requires
read_on-requires g c =
    let still = rw c.in-Ok-None.field-0-is at (c.in-Ok-None.ensures.unfinished c.loop-message.invariant.goes_on) in
    subst (λ (h : Held). IsUnfinished h.bytes) (sym still.1) still.0

pub returns-in-Err-read_on-clause-fault : goal.returns-in-Err-read_on-clause-fault
returns-in-Err-read_on-clause-fault g c =
    let still = rw c.in-Ok-None.field-0-is at (c.in-Ok-None.ensures.unfinished c.loop-message.invariant.goes_on) in
    let known = prepend_known c.args.inbox.now.bytes (g.R.Read.remaining c.args.source.now) in
    let left = g.R.Read.remaining c.loop-message.source in
    let kept = subst (λ (h : Held). Keeps known (prepend_known h.bytes left)) (sym still.1) c.loop-message.invariant.kept in
    known_before known _ (λ bytes. Faults bytes c.in-Err-read_on.fault) kept c.in-Err-read_on.ensures.fault

pub returns-in-Err-read_on-clause-closes : goal.returns-in-Err-read_on-clause-closes
returns-in-Err-read_on-clause-closes g c =
    let still = rw c.in-Ok-None.field-0-is at (c.in-Ok-None.ensures.unfinished c.loop-message.invariant.goes_on) in
    let closed = c.close.ensures in
    let before = ap (λ (h : Held). h.messages) still.1 ∙ c.loop-message.invariant.counted in
    (ap (λ (h : Held). h.is_closing) closed, ap (λ (h : Held). h.messages) closed ∙ c.in-Err-read_on.ensures.rest.0 ∙ before)

pub loop-message-smaller : goal.loop-message-smaller
loop-message-smaller g c =
    let still = rw c.in-Ok-None.field-0-is at (c.in-Ok-None.ensures.unfinished c.loop-message.invariant.goes_on) in
    omega (arith, c.in_default.ensures.more, ap (λ (h : Held). length h.bytes) still.1, unfinished_short c.loop-message.inbox.bytes still.0)

pub loop-message-preserved : goal.loop-message-preserved
loop-message-preserved g c =
    let still = rw c.in-Ok-None.field-0-is at (c.in-Ok-None.ensures.unfinished c.loop-message.invariant.goes_on) in
    let held = c.loop-message.invariant in
    let known = prepend_known c.args.inbox.now.bytes (g.R.Read.remaining c.args.source.now) in
    let left = g.R.Read.remaining c.loop-message.source in
    let kept = subst (λ (h : Held). Keeps known (prepend_known h.bytes left)) (sym still.1) held.kept in
    let rest = c.in_default.ensures.rest in
    record {
      kept = Keeps-then _ _ _ kept c.in_default.ensures.kept;
      goes_on = rest.1 ∙ ap (λ (h : Held). h.is_closing) still.1 ∙ held.goes_on;
      counted = rest.0 ∙ ap (λ (h : Held). h.messages) still.1 ∙ held.counted;
    }
