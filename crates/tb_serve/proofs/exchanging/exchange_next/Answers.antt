use Rattle.std.proofs.Common.{arith, ◌+◌, ◌∷◌, [], Some, ap, refl, sym, subst, ◌∙◌}
use Rattle.tb_http.specs.Inbox.{HasFault, Held}
use Rattle.tb_http.specs.declared.fault.WireFault.{WireFault}
use Rattle.tb_serve.proofs.Exchanges.{fault_is, fault_now}
use Rattle.tb_serve.proofs.Following.{settles_follows, unread_follows}
use Rattle.tb_serve.specs.Serving.{reads_one, unread_text}
use Rattle.tb_serve.proofs.Connection.{exchanged}
use Rattle.tb_serve.proofs.exchanging.exchange_next.Goals as goal

pub returns-in-Ok-Some-clause-exchanges : goal.returns-in-Ok-Some-clause-exchanges
returns-in-Ok-Some-clause-exchanges g c y s held only =
    let begins = rw c.in-Ok-Some.field-0-is at (c.in-Ok-Some.ensures.message c.requires) in
    exchanged c.args.paths.now.site s (Some c.args.inbox.now.bytes) (Some c.next_message.new.self.bytes) (Some (c.args.at ∷ [])) (Some []) c.args.inbox.now.messages c.in-Ok-Some.message
    c.next_message.new.self.is_closing c.closing-is_last.result c.args.at (Some c.args.out.now.items) (Some c.handle_message.new.writer.items) c.handle_message.result
    (g.K.Keep.holds c.handle_message.new.desk) (g.K.Keep.after_stop c.handle_message.new.desk)
    (begins.0, begins.1, begins.2) c.closing-is_last.ensures (refl, refl) (c.handle_message.ensures.handles y s held only)

pub returns-in-Ok-Some-clause-follows : goal.returns-in-Ok-Some-clause-follows
returns-in-Ok-Some-clause-follows g c =
    settles_follows c.handle_message.result.turn c.handle_message.result.is_whole c.args.at c.in-Ok-Some.message
    (g.K.Keep.holds c.args.desk.now) (g.K.Keep.after_stop c.args.desk.now)
    (g.K.Keep.holds c.handle_message.new.desk) (g.K.Keep.after_stop c.handle_message.new.desk) c.handle_message.ensures.stands

pub returns-in-Ok-Some-clause-refused : goal.returns-in-Ok-Some-clause-refused
returns-in-Ok-Some-clause-refused g c fault is =
    let none = ap reads_one (sym is) ∙ c.handle_message.ensures.read in
    absurd (omega (arith, none))

pub returns-in-Ok-Some-clause-counted : goal.returns-in-Ok-Some-clause-counted
returns-in-Ok-Some-clause-counted g c =
    let begins = rw c.in-Ok-Some.field-0-is at (c.in-Ok-Some.ensures.message c.requires) in
    begins.3 ∙ ap (λ k. c.args.inbox.now.messages + k) (sym c.handle_message.ensures.read)

pub returns-in-Err-clause-exchanges : goal.returns-in-Err-clause-exchanges
returns-in-Err-clause-exchanges g c y s held only =
    (unread_text c.in-Err.fault, c.send_unread.ensures, (fault_now c.args.inbox.now.bytes c.in-Err.fault (c.in-Err.ensures.fault c.requires), refl, record { held = held; stops = only }))

pub returns-in-Err-clause-follows : goal.returns-in-Err-clause-follows
returns-in-Err-clause-follows g c =
    unread_follows c.in-Err.fault c.send_unread.result (g.K.Keep.holds c.args.desk.now) (g.K.Keep.after_stop c.args.desk.now)

pub returns-in-Err-clause-refused : goal.returns-in-Err-clause-refused
returns-in-Err-clause-refused g c other is = (
  subst (λ (f : WireFault). HasFault c.args.inbox.now.bytes f) (fault_is c.in-Err.fault other is) (c.in-Err.ensures.fault c.requires),
  ap (λ (h : Held). h.bytes) c.in-Err.ensures.closes,
  ap (λ (h : Held). h.is_closing) c.in-Err.ensures.closes,
)
