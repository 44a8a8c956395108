-- What the program tells of itself and of its orders.
use Rattle.std.specs.Prelude.{ℕ, List}
use Rattle.tb_command_line.specs.declared.help.TheConstants.{CHECK, IMPORT, INIT, KEY, MY, PROGRAM, RUN, SEND, SERVE, VIEW}
use Rattle.tb_command_line.specs.declared.order.Topic.{Topic}
use Rattle.tb_command_line.specs.declared.order.Topic.TheVariants as topic

-- of an order, or of the program as a whole
abbrev pub help_text : Topic → List ℕ
help_text topic.Program = PROGRAM.now
help_text topic.Init = INIT.now
help_text topic.Serve = SERVE.now
help_text topic.Run = RUN.now
help_text topic.Import = IMPORT.now
help_text topic.Export = VIEW.now
help_text topic.List = VIEW.now
help_text topic.Todo = VIEW.now
help_text topic.Check = CHECK.now
help_text topic.Key = KEY.now
help_text topic.Send = SEND.now
help_text topic.My = MY.now
