use Rattle.tb_serve.proofs.Connection.{exchanged, takes_one}
use Rattle.tb_serve.proofs.serving.serve_message.Goals as goal

pub returns-in-Ok-clause-exchanges : goal.returns-in-Ok-clause-exchanges
returns-in-Ok-clause-exchanges g c y s held only =
    exchanged c.args.paths.now.site s c.args.reader.now.bytes c.read_message.new.self.bytes (g.C.Clock.answers c.args.clock.now) (g.C.Clock.answers c.now-at.new.self)
    c.args.reader.now.messages c.in-Ok.message c.read_message.new.self.is_closing c.closing-is_last.result c.now-at.result
    (g.W.Write.contents c.args.writer.now) (g.W.Write.contents c.handle_message.new.writer) c.handle_message.result
    (g.K.Keep.holds c.handle_message.new.desk) (g.K.Keep.after_stop c.handle_message.new.desk)
    (c.in-Ok.ensures.message c.requires) c.closing-is_last.ensures c.now-at.ensures.known (c.handle_message.ensures.handles y s held only)

pub returns-in-Ok-clause-clock : goal.returns-in-Ok-clause-clock
returns-in-Ok-clause-clock g c =
    takes_one (g.C.Clock.answers c.args.clock.now) (g.C.Clock.answers c.now-at.new.self) c.now-at.result _ c.handle_message.ensures.read c.now-at.ensures.known
