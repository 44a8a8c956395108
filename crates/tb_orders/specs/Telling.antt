-- Which faults orders tell.
use Rattle.std.specs.Prelude.{◌≡◌, Bool, true, false, Result, Err}
use Rattle.tb_values.specs.Outcome.{Gives}
use Rattle.tb_command_line.specs.declared.order.Order.{Order}
use Rattle.tb_command_line.specs.declared.order.WordsFault.{WordsFault}
use Rattle.tb_command_line.specs.declared.order.WordsFault.TheVariants as words
use Rattle.tb_program.specs.declared.fault.Fault.{Fault}
use Rattle.tb_program.specs.declared.fault.Fault.TheVariants.{Bad, BadBody, Memory, NoClock, NoKey, ReadFailed, Store, WriteFailed}
use Rattle.tb_program.specs.Fault.{is_of_reading}

-- of the words
abbrev pub is_of_words : Fault → Bool
is_of_words Bad = true
is_of_words Memory = true
is_of_words NoKey = true
is_of_words _ = false

-- of what a desk is asked, and of printing what it answers
abbrev pub is_of_answers : Fault → Bool
is_of_answers Memory = true
is_of_answers Store = true
is_of_answers WriteFailed = true
is_of_answers _ = false

-- of an import
abbrev pub is_of_imports : Fault → Bool
is_of_imports BadBody = true
is_of_imports fault = is_of_answers fault

-- of what an import's message is made of
abbrev pub is_of_messages : Fault → Bool
is_of_messages NoClock = true
is_of_messages fault = is_of_reading fault

-- of an import of an input
abbrev pub is_of_inputs : Fault → Bool
is_of_inputs NoClock = true
is_of_inputs ReadFailed = true
is_of_inputs fault = is_of_imports fault

-- bad words and a key that isn't there are told as such alone, and memory may run out whatever they are
abbrev pub Tells : {X : Type 0} → Fault → Result X WordsFault → Type 0
Tells Bad expected = expected ≡ Err words.Bad
Tells NoKey expected = expected ≡ Err words.NoKey
Tells Memory expected = Unit {0}
Tells _ expected = ⊥

-- the order is the one that is expected, or its fault is told
abbrev pub ReadsAs : {X : Type 0} → Result X Fault → Result X WordsFault → Type 0
ReadsAs read expected = Gives Tells read expected
